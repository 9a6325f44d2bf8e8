-- Starts and ends, both cut to the length that they have in common with 32.
use Prim.Native.Nat.{ℕ, zero, suc, min}
use native.Mathlib.Omega.{arith}
use mathlib.Core.Path.{◌≡◌, refl, ap, ◌∙◌}
use mathlib.Core.List.{List, [], ◌∷◌}
use lib.ListN.{length, take}
use Rattle.std.specs.List.{zip}
use Rattle.std.proofs.lemmas.List.{take_min}

zip_take : (n : ℕ) (a b : List ℕ) → zip (take n a) (take n b) ≡ take n (zip a b)
zip_take zero a b = refl
zip_take (suc n) [] b = refl
zip_take (suc n) (x ∷ a) [] = refl
zip_take (suc n) (x ∷ a) (y ∷ b) = ap (λ l. (x, y) ∷ l) (zip_take n a b)

length_zip : (a b : List ℕ) → length (zip a b) ≡ min (length a) (length b)
length_zip [] b = omega arith
length_zip (x ∷ a) [] = omega arith
length_zip (x ∷ a) (y ∷ b) = omega (arith, length_zip a b)

pub cut_zip : (k : ℕ) (a b : List ℕ) {n : ℕ} → n ≡ min (min k (length a)) (length b) → zip (take n a) (take n b) ≡ take k (zip a b)
cut_zip k a b {n} e =
    let h : n ≡ min k (length (zip a b)) = omega (arith, e, length_zip a b) in
    zip_take n a b ∙ rw h (take_min k (zip a b))
