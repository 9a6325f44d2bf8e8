-- Paper 01, "Expressions" and "Refusal numbers": the rules, and what becomes of an expression's text.
use Rattle.std.specs.Prelude.{ℕ, suc, ◌≤◌, ◌≡◌, Bool, true, false, cond, List, [], ◌∷◌, map, length}
use Rattle.std.proofs.Math.Option.{Option, none, some}
use Rattle.lists.specs.Lists.{any}
use Rattle.text.specs.Texts.{same}
use Rattle.code.specs.Code.{word_of}
use Rattle.grammar.specs.Lex.{Token, word, AND, OR, NOT, open', close', Spells}
use Rattle.grammar.specs.Tree.{Expression, print, depth, code}

-- A text is the expression e, which is what its tokens print: "1 to 64 tokens, brackets at most 8 deep."
pub record ReadsAs (text : List ℕ) (e : Expression (List ℕ)) : Type 0 where
  pub spelled : Spells text (print e)
  pub some_tokens : 1 ≤ length (print e)
  pub short : length (print e) ≤ 64
  pub shallow : depth e ≤ 8

-- "Every other word is a trigger name"
abbrev pub Named : List (List ℕ) → List (Token (List ℕ)) → Type 0
Named names [] = Unit {0}
Named names (word w ∷ l) = (any (same w) names ≡ true) × Named names l
Named names (AND ∷ l) = Named names l
Named names (OR ∷ l) = Named names l
Named names (NOT ∷ l) = Named names l
Named names (open' ∷ l) = Named names l
Named names (close' ∷ l) = Named names l

-- the number of the trigger of that name: how many stand before the first of them. It is asked only of names that a trigger has: any other
-- has given 12.
unfoldable pub number_in : List (List ℕ) → List ℕ → ℕ
number_in [] w = 0
number_in (n ∷ names) w = cond (same w n) 0 (suc (number_in names w))

-- the state of the trigger of that name
unfoldable pub state_of : List (List ℕ) → List Bool → List ℕ → Bool
state_of [] states w = false
state_of (n ∷ names) [] w = false
state_of (n ∷ names) (b ∷ states) w = cond (same w n) b (state_of names states w)

-- "11: expression breaks its rules. 12: word names no trigger. .. 11 before 12." Else the words of its code.
pub data Becomes (names : List (List ℕ)) (text : List ℕ) : Option ℕ → List ℕ → Type 0 where
  breaks : ((e : Expression (List ℕ)) → ReadsAs text e → ⊥) → Becomes names text (some 11) []
  unnamed :
      (e : Expression (List ℕ))
      → ReadsAs text e
      → (Named names (print e) → ⊥)
      → Becomes names text (some 12) []
  compiles :
      (e : Expression (List ℕ))
      → ReadsAs text e
      → Named names (print e)
      → Becomes names text none (map word_of (code (number_in names) e))
