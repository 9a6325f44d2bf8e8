-- Flags in a row: one that is not there, as a slice is asked for it.
use Rattle.std.proofs.Common.{ℕ, zero, suc, ◌≤◌, ◌<◌, ◌≡◌, refl, arith, List, [], ◌∷◌, Bool, true, false, length, take}
use Rattle.std.specs.List.{list_any}
use mathlib.Core.Bool.{beq}
use Rattle.lists.specs.FlagsCode.{lacks_first}

pub lacks_past : (n : ℕ) (l : List Bool) → length l < n → true ≡ lacks_first n l
unfolding lacks_first
lacks_past zero l h = absurd (omega arith)
lacks_past (suc n) [] h = refl
lacks_past (suc n) (true ∷ l) h = lacks_past n l (omega arith)
lacks_past (suc n) (false ∷ l) h = refl

pub lacks_within : (n : ℕ) (l : List Bool) → n ≤ length l → list_any (λ b. beq b false) (take n l) ≡ lacks_first n l
unfolding lacks_first
lacks_within zero l h = refl
lacks_within (suc n) [] h = absurd (omega arith)
lacks_within (suc n) (true ∷ l) h = lacks_within n l (omega arith)
lacks_within (suc n) (false ∷ l) h = refl
