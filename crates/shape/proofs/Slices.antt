-- Parts of a text.
use Prim.Native.Nat.{ℕ, ◌+◌, ◌-◌, ◌≤◌, ◌<◌}
use native.Mathlib.Omega.{arith}
use native.Mathlib.Numerals.{add-one}
use mathlib.Core.Path.{◌≡◌, sym, ap, ◌∙◌}
use mathlib.Core.List.{List, [], ◌∷◌, ◌++◌}
use lib.ListN.{length, get_or, take, drop, length-take, drop_of_length-le}
use lib.Seq.{slice, slice-cons, take-add, take-suc, drop_at, drop-append-le, length-take-le}

pub slice_take : (f : List ℕ) (i m : ℕ) → i ≤ length f → slice i (i + m) f ≡ take m (drop i f)
slice_take f i m h = ap (drop i) (take-add i m f) ∙ drop_at (take i f) (take m (drop i f)) i (length-take-le i f h)

-- the part that code takes by `[i..k]`
pub slice_part : (f : List ℕ) (i k : ℕ) → i ≤ k → k ≤ length f → take (k - i) (drop i f) ≡ slice i k f
slice_part f i k h l =
    let e : i + (k - i) ≡ k = omega arith in
    sym (slice_take f i (k - i) (omega arith)) ∙ ap (λ (n : ℕ). slice i n f) e

pub slice_none : (f : List ℕ) (i k : ℕ) → k ≤ i → slice i k f ≡ []
slice_none f i k h = drop_of_length-le (take k f) {i = i} (omega (arith, length-take k f))

pub slice_one : (f : List ℕ) (i k : ℕ) → i < k → k ≤ length f → slice i k f ≡ get_or f i 0 ∷ slice (i + 1) k f
slice_one f i k h l = rw (add-one i) (slice-cons i k f 0 h l)

pub slice_snoc : (f : List ℕ) (i k : ℕ) → i ≤ k → k < length f → slice i (k + 1) f ≡ slice i k f ++ (get_or f k 0 ∷ [])
slice_snoc f i k h l =
    ap (λ (n : ℕ). slice i n f) (add-one k) ∙ ap (drop i) (take-suc f k 0 l)
    ∙ drop-append-le i (take k f) (get_or f k 0 ∷ []) (omega (arith, length-take-le k f (omega arith)))
