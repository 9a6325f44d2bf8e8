-- Sets of numbers as the bits of one number, and tables over the numbers below a bound.
use Rattle.std.specs.Prelude.{ℕ, zero, suc, ◌/◌, ◌%◌, ◌^◌, ◌≡◌, List, [], ◌∷◌, map, Bool, eqb}
use Rattle.std.specs.Int.Bits.{bit_or}

-- the numbers from i on, n of them
unfoldable pub from : ℕ → ℕ → List ℕ
from i zero = []
from i (suc n) = i ∷ from (suc i) n

abbrev pub upto : ℕ → List ℕ
upto n = from 0 n

-- k is in the set m; m and k besides
abbrev pub has_bit : ℕ → ℕ → Bool
has_bit m k = eqb (m / 2 ^ k % 2) 1

abbrev pub with_bit : ℕ → ℕ → ℕ
with_bit m k = bit_or m (2 ^ k)

-- of the numbers below n those are in the set m for which f holds
abbrev pub Marks : ℕ → (ℕ → Bool) → ℕ → Type 0
Marks n f m = map (has_bit m) (upto n) ≡ map f (upto n)
