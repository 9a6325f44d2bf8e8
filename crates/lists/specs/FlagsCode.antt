-- Flags in a row, as the code asks for them.
use Rattle.std.specs.Prelude.{ℕ, zero, suc, List, [], ◌∷◌, Bool, true, false, not, ◌||◌}

-- one of the first n is false
unfoldable pub lacks_first : ℕ → List Bool → Bool
lacks_first zero l = false
lacks_first (suc n) [] = true
lacks_first (suc n) (b ∷ l) = not b || lacks_first n l
