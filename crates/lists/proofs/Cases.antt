-- Case distinctions with their equations, and what equal answers have in common.
use Prim.Native.Nat.{ℕ, ◌≤◌, ◌<◌}
use mathlib.Core.Path.{◌≡◌, refl, sym, ap, ◌∙◌}
use mathlib.Core.Bool.{Bool, true, false}
use mathlib.Core.Option.{Option, none, some, none-ne-some}
use lib.Dec.{leb}
use borrow.Author.Tests.{leb-true, leb-false}

pub by_cases : {A : Type 0} (t : Bool) → (t ≡ true → A) → (t ≡ false → A) → A
by_cases true f g = f refl
by_cases false f g = g refl

pub le_or_lt : {A : Type 0} (m n : ℕ) → (m ≤ n → A) → (n < m → A) → A
le_or_lt m n f g = by_cases (leb m n) (λ t. f (leb-true m n t)) (λ t. g (leb-false m n t))

pub some_same : {A : Type 0} {x y : A} → some x ≡ some y → x ≡ y
some_same e = cc

-- a refusal's number and place
pub same_pair : (o : Option (ℕ × ℕ)) {n p m q : ℕ} → o ≡ some (n, p) → o ≡ some (m, q) → (n ≡ m) × (p ≡ q)
same_pair none {n} {p} e g = absurd (none-ne-some (n, p) e)
same_pair (some (a, b)) e g =
    let h = some_same e in
    let k = some_same g in
    (sym (ap (λ (z : ℕ × ℕ). z.0) h) ∙ ap (λ (z : ℕ × ℕ). z.0) k, sym (ap (λ (z : ℕ × ℕ). z.1) h) ∙ ap (λ (z : ℕ × ℕ). z.1) k)
