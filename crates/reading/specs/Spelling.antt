-- What the lines of a program's input spell: \n, \r, \t, \\ and \xNN are bytes that a line cannot hold.
use Rattle.std.specs.Prelude.{ℕ, ◌+◌, ◌*◌, ◌%◌, List, [], ◌∷◌, cond, eqb, ltb}

-- the digit of base 16 that a byte stands for
abbrev pub digit : ℕ → ℕ
digit b = cond (ltb b 97) (b % 16) ((b % 16 + 9) % 16)

-- the byte that a letter behind a `\` spells
abbrev pub letter : ℕ → ℕ
letter e = cond (eqb e 110) 10 (cond (eqb e 114) 13 (cond (eqb e 116) 9 e))

unfoldable mutual
  -- the bytes that a text spells; where it ends within one, a 0 stands for what it lacks
  pub spelt : List ℕ → List ℕ
  spelt [] = []
  spelt (b ∷ s) = cond (eqb b 92) (escaped s) (b ∷ spelt s)

  -- behind a `\`
  pub escaped : List ℕ → List ℕ
  escaped [] = 0 ∷ []
  escaped (e ∷ s) = cond (eqb e 120) (digits s) (letter e ∷ spelt s)

  -- behind `\x`
  pub digits : List ℕ → List ℕ
  digits [] = 0 ∷ []
  digits (h ∷ s) = low_digit h s

  -- behind `\x` and the digit h
  pub low_digit : ℕ → List ℕ → List ℕ
  low_digit h [] = (16 * digit h) ∷ []
  low_digit h (l ∷ s) = (16 * digit h + digit l) ∷ spelt s
