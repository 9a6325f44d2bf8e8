-- Laws of `same`: it decides equality, and is what `==` says of two slices.
use Prim.Native.Nat.{ℕ}
use mathlib.Core.Path.{◌≡◌, refl, sym, ap, ◌∙◌}
use mathlib.Core.List.{List, [], ◌∷◌}
use mathlib.Core.Bool.{Bool, true, false, ◌&&◌, true≢false}
use Rattle.std.specs.Cmp.Lexicographic.{pointwise}
use lib.ListN.{length}
use lib.Dec.{eqb}
use borrow.Author.Tests.{eq-eqb, eqb-true}
use Rattle.text.specs.Texts.{same}
use Rattle.lists.proofs.Cases.{by_cases}

-- two texts are the same exactly if they are equal
pub same_self : (s : List ℕ) → same s s ≡ true
unfolding same
same_self [] = refl
same_self (b ∷ s) = rw (eq-eqb b b refl, same_self s)

pub same_equal : (s t : List ℕ) → same s t ≡ true → s ≡ t
unfolding same
same_equal [] [] e = refl
same_equal [] (b ∷ t) e = absurd (true≢false (sym e))
same_equal (a ∷ s) [] e = absurd (true≢false (sym e))
same_equal (a ∷ s) (b ∷ t) e =
    by_cases (eqb a b)
    (λ p. let q : same s t ≡ true = rw p at e in ap (λ (c : ℕ). c ∷ s) (eqb-true a b p) ∙ ap (λ (u : List ℕ). b ∷ u) (same_equal s t q))
    (λ p. absurd (true≢false (sym (rw p at e))))

pub same_back : (s t : List ℕ) → same s t ≡ false → same t s ≡ false
same_back s t e = by_cases (same t s) (λ g. absurd (true≢false (sym (same_self s) ∙ (ap (same s) (sym (same_equal t s g)) ∙ e)))) (λ g. g)

pub other_length : (s t : List ℕ) → (length s ≡ length t → ⊥) → same s t ≡ false
other_length s t h = by_cases (same s t) (λ e. absurd (h (ap length (same_equal s t e)))) (λ e. e)

-- `==` of two slices
pub same_is : (s t : List ℕ) → pointwise eqb s t ≡ same s t
unfolding same
same_is [] [] = refl
same_is [] (b ∷ t) = refl
same_is (a ∷ s) [] = refl
same_is (a ∷ s) (b ∷ t) = ap (λ (q : Bool). eqb a b && q) (same_is s t)
