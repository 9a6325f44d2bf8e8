-- What the contracts of the inner functions need: a stack as bits of a number.
use Rattle.std.specs.Prelude.{ℕ, zero, suc, ◌/◌, ◌%◌, Bool, List, [], ◌∷◌, eqb}

-- the lowest bit of a number
abbrev pub top_of : ℕ → Bool
top_of n = eqb (n % 2) 1

-- the lowest h bits of a number as a stack, the lowest on top
unfoldable pub bits_of : ℕ → ℕ → List Bool
bits_of zero n = []
bits_of (suc h) n = top_of n ∷ bits_of h (n / 2)
