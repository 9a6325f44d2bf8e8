-- What a buffer holds after a text was laid at its front, as much as fits.
use Prim.Native.Nat.{ℕ, ◌+◌, ◌-◌, ◌≤◌}
use native.Mathlib.Omega.{arith}
use mathlib.Core.Path.{◌≡◌, refl, sym, ap, ◌∙◌}
use mathlib.Core.List.{List, [], ◌++◌, append_assoc, append-nil}
use lib.ListN.{length, take, drop, length-append, length-drop, drop_of_length-le}
use lib.Seq.{take_all, take_at, drop_at, drop-drop, length-take-le, take-append-add, take-append-le, take-nil}
use Rattle.lists.proofs.Cases.{le_or_lt}
use Rattle.walk.specs.WalkCode.{LaidDown}

pub laid_none : (d : List ℕ) → LaidDown [] d 0 d
laid_none d = let e = take-nil {A = ℕ} (length d) in record { count = sym (ap length e); bytes = rw e refl }

module _ (t d : List ℕ) (n : ℕ) (e : List ℕ) (x : LaidDown t d n e) where
  -- how much was laid down, and what is left
  laid_least : length d - n ≡ length d - length t
  laid_least = le_or_lt (length t) (length d)
      (λ l. omega (arith, x.count, ap length (take_all (length d) t l)))
      (λ l. omega (arith, x.count, length-take-le (length d) t (omega arith)))

  pub laid_room : n ≤ length d
  laid_room = le_or_lt (length t) (length d)
      (λ l. omega (arith, x.count, ap length (take_all (length d) t l)))
      (λ l. omega (arith, x.count, length-take-le (length d) t (omega arith)))

  pub laid_long : length e ≡ length d
  laid_long = ap length x.bytes
      ∙ omega (arith, length-append (take (length d) t) (drop (length t) d), length-drop (length t) d, x.count, laid_room, laid_least)

take_both : (m : ℕ) (s t : List ℕ) → take m (s ++ t) ≡ take m s ++ take (m - length s) t
take_both m s t = le_or_lt (length s) m
    (λ l.
    let q : m ≡ length s + (m - length s) = omega arith in
    ap (λ (k : ℕ). take k (s ++ t)) q ∙ take-append-add s t (m - length s)
    ∙ ap (λ (u : List ℕ). u ++ take (m - length s) t) (sym (take_all m s l)))
    (λ l.
    let q : m - length s ≡ 0 = omega arith in
    take-append-le m s t (omega arith) ∙ sym (append-nil (take m s)) ∙ ap (λ (k : ℕ). take m s ++ take k t) (sym q))

-- more text, laid into the part behind: the whole, once the part is back
pub laid_more : (t u d e p : List ℕ) (n r : ℕ) → LaidDown t d n e → LaidDown u (take (length e - n) (drop n e)) r p
    → LaidDown (t ++ u) d (n + r) (take n e ++ (p ++ drop (length e - n) (drop n e)))
laid_more t u d e p n r x y =
    let w = take (length d) t in
    let z = drop (length t) d in
    let a : take n e ≡ w = ap (take n) x.bytes ∙ take_at w z n (sym x.count) in
    let b : drop n e ≡ z = ap (drop n) x.bytes ∙ drop_at w z n (sym x.count) in
    let l : length e - n ≡ length z = omega (arith, laid_long t d n e x, laid_least t d n e x, length-drop (length t) d) in
    let c : take (length e - n) (drop n e) ≡ z = ap (take (length e - n)) b ∙ take_all (length e - n) z (omega arith) in
    let o : drop (length e - n) (drop n e) ≡ [] = ap (drop (length e - n)) b ∙ drop_of_length-le z {i = length e - n} (omega arith) in
    let g : p ≡ take (length z) u ++ drop (length u) z = rw c at y.bytes in
    let k : r ≡ length (take (length z) u) = rw c at y.count in
    let s : take (length d) (t ++ u) ≡ w ++ take (length z) u = take_both (length d) t u
    ∙ ap (λ (m : ℕ). w ++ take m u) (sym (length-drop (length t) d)) in
    record {
      count = omega (arith, x.count, k, ap length s, length-append w (take (length z) u));
      bytes =
          rw (a, o, append-nil p, g, s, length-append t u, ← drop-drop (length u) (length t) d)
          (sym (append_assoc w (take (length z) u) (drop (length u) z)));
    }
