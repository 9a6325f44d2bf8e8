-- The words of code: the word at a place, and which instruction it is.
use Prim.Native.Nat.{ℕ, ◌+◌, ◌<◌}
use native.Mathlib.Omega.{arith}
use native.Mathlib.Numerals.{add-one}
use mathlib.Core.Path.{◌≡◌, refl}
use mathlib.Core.Bool.{Bool, true, false}
use Rattle.std.specs.Prelude.{None, Some}
use mathlib.Core.List.{List, ◌∷◌}
use lib.ListN.{length, drop, get_or}
use lib.Seq.{drop-cons}
use lib.Dec.{ltb, eqb}
use borrow.Author.Tests.{lt-ltb, le-ltb, ne_eqb, ltb-true}
use Rattle.code.specs.Code.{push, both, either, invert, op_of}

pub word_at : (c : List ℕ) (i : ℕ) → i < length c → drop i c ≡ get_or c i 0 ∷ drop (i + 1) c
word_at c i h = rw (add-one, drop-cons c i 0)

pub op_push : (w : ℕ) → w < 32 → op_of w ≡ Some (push w)
unfolding op_of
op_push w h = rw (lt-ltb w 32 h)

pub op_both : (w : ℕ) → w ≡ 32 → op_of w ≡ Some both
unfolding op_of
op_both w e = rw e

pub op_either : (w : ℕ) → w ≡ 33 → op_of w ≡ Some either
unfolding op_of
op_either w e = rw e

pub op_invert : (w : ℕ) → w ≡ 34 → op_of w ≡ Some invert
unfolding op_of
op_invert w e = rw e

pub op_none : (w : ℕ) → 34 < w → op_of w ≡ None
unfolding op_of
op_none w h = rw (le-ltb w 32 (omega arith), ne_eqb w 32 (omega arith), ne_eqb w 33 (omega arith), ne_eqb w 34 (omega arith))

-- a word that pushes is the trigger's number
pub push_word : (w i : ℕ) → op_of w ≡ Some (push i) → (i ≡ w) × (w < 32)
unfolding op_of
push_word w i e = go (ltb w 32) (eqb w 32) (eqb w 33) (eqb w 34) refl refl refl refl
  where
    go : (b₀ b₁ b₂ b₃ : Bool) → ltb w 32 ≡ b₀ → eqb w 32 ≡ b₁ → eqb w 33 ≡ b₂ → eqb w 34 ≡ b₃ → (i ≡ w) × (w < 32)
    go true b₁ b₂ b₃ e₀ e₁ e₂ e₃ = let q = rw e₀ at e in (cc q, ltb-true w 32 e₀)
    go false true b₂ b₃ e₀ e₁ e₂ e₃ = let q = rw (e₀, e₁) at e in absurd (let z : ◌≡◌ {A = ℕ} 0 1 = cc q in omega arith)
    go false false true b₃ e₀ e₁ e₂ e₃ = let q = rw (e₀, e₁, e₂) at e in absurd (let z : ◌≡◌ {A = ℕ} 0 1 = cc q in omega arith)
    go false false false true e₀ e₁ e₂ e₃ = let q = rw (e₀, e₁, e₂, e₃) at e in absurd (let z : ◌≡◌ {A = ℕ} 0 1 = cc q in omega arith)
    go false false false false e₀ e₁ e₂ e₃ = let q = rw (e₀, e₁, e₂, e₃) at e in absurd (let z : ◌≡◌ {A = ℕ} 0 1 = cc q in omega arith)
