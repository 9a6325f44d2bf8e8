-- Paper 01, all sections: texts that it quotes, as the bytes that a file holds.
use Prim.Native.String.{String}
use Prim.Native.Char.{code}
use Rattle.std.specs.Prelude.{ℕ, List, [], ◌∷◌, Bool, true, false, ◌&&◌, eqb}

unfoldable pub bytes : String → List ℕ
bytes String.[] = []
bytes (String.◌∷◌ c s) = code c ∷ bytes s

infixr 67 ◌▹◌
-- the quoted text, and t behind it
abbrev pub ◌▹◌ : String → List ℕ → List ℕ
String.[] ▹ t = t
(String.◌∷◌ c s) ▹ t = code c ∷ (s ▹ t)

-- are two texts the same
unfoldable pub same : List ℕ → List ℕ → Bool
same [] [] = true
same [] (b ∷ t) = false
same (a ∷ s) [] = false
same (a ∷ s) (b ∷ t) = eqb a b && same s t
