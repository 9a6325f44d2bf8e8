-- The contract of `read_shape` settles its answer: two answers that satisfy it are equal.
use Prim.Native.Nat.{ℕ, ◌+◌, ◌-◌, ◌≤◌, ◌<◌}
use native.Mathlib.Omega.{arith}
use mathlib.Core.Path.{◌≡◌, refl, ap, ◌∙◌, subst}
use mathlib.Core.List.{List, ◌++◌, append_assoc}
use lib.ListN.{take, drop}
use lib.Seq.{take-add}
use Rattle.std.specs.Prelude.{Ok, Err}
use Rattle.shape.specs.Shape.{Shape}
use Rattle.shape.specs.declared.Unshaped.TheVariants.{TooLong, Broken}
use Rattle.lists.proofs.Cases.{le_or_lt}
use Rattle.shape.specs.Shape.{WellShaped, Viable, Longest, Shaped}

-- a shorter prefix of a viable one is viable
shorter : (s : List ℕ) (p q : ℕ) → p ≤ q → Viable (take q s) → Viable (take p s)
shorter s p q h (t, (x, w)) = (
  take (q - p) (drop p s) ++ t,
  (
    x,
    subst (λ (u : List ℕ). WellShaped u x)
        (ap (λ (l : List ℕ). l ++ t) (part s p q h) ∙ append_assoc (take p s) (take (q - p) (drop p s)) t) w,
  ),
)
  where
    part : (s : List ℕ) (p q : ℕ) → p ≤ q → take q s ≡ take p s ++ take (q - p) (drop p s)
    part s p q h = let e : q ≡ p + (q - p) = omega arith in ap (λ (m : ℕ). take m s) e ∙ take-add p (q - p) s

least : (s : List ℕ) (p q : ℕ) → Longest s p → Longest s q → p < q → ⊥
least s p q x y h = let l = y.within in x.longest (omega arith) (shorter s (p + 1) q (omega arith) y.viable)

pub one_place : (s : List ℕ) (p q : ℕ) → Longest s p → Longest s q → p ≡ q
one_place s p q x y =
    le_or_lt p q (λ h. le_or_lt q p (λ g. omega arith) (λ g. absurd (least s p q x y g))) (λ h. absurd (least s q p y x h))

pub one_answer : (s : List ℕ) (r r' : Shape) → Shaped s r → Shaped s r' → r ≡ r'
one_answer s (Ok u) (Ok v) x y = refl
one_answer s (Ok u) (Err TooLong) x y = absurd (omega arith)
one_answer s (Ok u) (Err (Broken q)) (l, (d, w)) y = absurd (y.1.0 d w)
one_answer s (Err TooLong) (Ok u) x y = absurd (omega arith)
one_answer s (Err TooLong) (Err TooLong) x y = refl
one_answer s (Err TooLong) (Err (Broken q)) x y = absurd (omega arith)
one_answer s (Err (Broken p)) (Ok u) x (l, (d, w)) = absurd (x.1.0 d w)
one_answer s (Err (Broken p)) (Err TooLong) x y = absurd (omega arith)
one_answer s (Err (Broken p)) (Err (Broken q)) x y = ap (λ (n : ℕ). Err (Broken n)) (one_place s p q x.1.1 y.1.1)
