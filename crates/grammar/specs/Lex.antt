-- Paper 01, "Expressions": the tokens of an expression's text.
-- "Tokens: words of letters, digits and `_`; `(`; `)`. Blanks separate. .. Every other word is a trigger name."
use Rattle.std.specs.Prelude.{ℕ, ◌≡◌, Bool, true, false, cond, List, [], ◌∷◌, ◌++◌}
use Rattle.lists.specs.Lists.{Every}
use Rattle.text.specs.Texts.{bytes, ◌▹◌, same}
use Rattle.text.specs.Kinds.{is_blank, is_name}

-- A token: a name, one of the three operators, a bracket. A name is its bytes; the code has numbers for them.
pub data Token (N : Type 0) : Type 0 where
  word : N → Token N
  AND OR NOT open' close' : Token N

-- the token that a word is
abbrev pub token_of : List ℕ → Token (List ℕ)
token_of w = cond (same w (bytes "AND")) AND (cond (same w (bytes "OR")) OR (cond (same w (bytes "NOT")) NOT (word w)))

-- does a byte of a word stand at the front
abbrev pub in_word : List ℕ → Bool
in_word [] = false
in_word (b ∷ s) = is_name b

-- The text is made of these tokens, words as long as can be, and of blanks: any other byte is at fault.
pub data Spells : List ℕ → List (Token (List ℕ)) → Type 0 where
  over : Spells [] []
  blank :
      (b : ℕ) {s : List ℕ} {ts : List (Token (List ℕ))}
      → is_blank b ≡ true
      → Spells s ts
      → Spells (b ∷ s) ts
  opening : {s : List ℕ} {ts : List (Token (List ℕ))} → Spells s ts → Spells ("(" ▹ s) (open' ∷ ts)
  closing : {s : List ℕ} {ts : List (Token (List ℕ))} → Spells s ts → Spells (")" ▹ s) (close' ∷ ts)
  letters :
      (b : ℕ) (w : List ℕ) {s : List ℕ} {ts : List (Token (List ℕ))}
      → Every (λ c. is_name c ≡ true) (b ∷ w)
      → in_word s ≡ false
      → Spells s ts
      → Spells ((b ∷ w) ++ s) (token_of (b ∷ w) ∷ ts)
