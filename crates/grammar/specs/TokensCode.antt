-- The tokens of a text as a function, their numbers, and what the contracts of the inner functions say. Nothing here need be believed: the
-- theorems `spelled` (proofs/Spelled.antt) and `compiled_becomes` (proofs/Ruled.antt) tie it to the rules.
use Rattle.std.specs.Prelude.{ℕ, suc, ◌+◌, ◌-◌, ◌≤◌, ◌<◌, ◌≡◌, cond, List, [], ◌∷◌, ◌++◌, map, leb, ltb, eqb, length, take, drop, replicate, set}
use Rattle.std.specs.Prelude.{Option as Maybe, Some, None}
use Rattle.std.proofs.Math.Option.{Option, none, some}
use Rattle.text.specs.Texts.{same}
use Rattle.text.specs.Kinds.{among, is_blank, is_name}
use Rattle.grammar.specs.Lex.{Token, word, AND, OR, NOT, open', close', token_of}
use Rattle.grammar.specs.declared.Words.{Words}
use Rattle.grammar.specs.declared.Lexeme.{Lexeme}

abbrev pub put_token : {A : Type 0} → A → Option (List A) → Option (List A)
put_token x none = none
put_token x (some l) = some (x ∷ l)

-- a word ends, if one was being read
abbrev pub word_ends : List ℕ → Option (List (Token (List ℕ))) → Option (List (Token (List ℕ)))
word_ends [] r = r
word_ends (b ∷ w) r = put_token (token_of (b ∷ w)) r

-- the tokens of a text, where the bytes w of a word were read before it
unfoldable pub lex_from : List ℕ → List ℕ → Option (List (Token (List ℕ)))
lex_from w [] = word_ends w (some [])
lex_from w (b ∷ s) =
    cond (is_name b) (lex_from (w ++ (b ∷ [])) s)
    (word_ends w (cond (is_blank b) (lex_from [] s)
    (cond (among "(" b) (put_token open' (lex_from [] s)) (cond (among ")" b) (put_token close' (lex_from [] s)) none))))

unfoldable pub lex : List ℕ → Option (List (Token (List ℕ)))
lex s = lex_from [] s

-- The triggers' names as they stand in the file, each from a start up to an end (cut at the file's end): as many as have both, and at most
-- 32.
unfoldable pub spans : List ℕ → List ℕ → List ℕ → List (List ℕ)
spans file [] ends = []
spans file (a ∷ starts) [] = []
spans file (a ∷ starts) (e ∷ ends) = drop a (take e file) ∷ spans file starts ends

unfoldable pub names_in : List ℕ → List ℕ → List ℕ → List (List ℕ)
names_in file starts ends = take 32 (spans file starts ends)

-- the number of the first trigger of that name, counting from k; 37 where there is none
unfoldable pub find : List (List ℕ) → List ℕ → ℕ → ℕ
find [] w k = 37
find (n ∷ names) w k = cond (same w n) k (find names w (suc k))

-- a token's number, and the token of a number
unfoldable pub number_of : List (List ℕ) → Token (List ℕ) → ℕ
number_of names (word w) = find names w 0
number_of names AND = 32
number_of names OR = 33
number_of names NOT = 34
number_of names open' = 35
number_of names close' = 36

unfoldable pub numbered_token : ℕ → Token ℕ
numbered_token n = cond (eqb n 32) AND (cond (eqb n 33) OR (cond (eqb n 34) NOT (cond (eqb n 35) open' (cond (eqb n 36) close' (word n)))))

abbrev pub mapped : {A B : Type 0} → (A → B) → Option A → Option B
mapped f none = none
mapped f (some x) = some (f x)

-- the numbers of a text's tokens
unfoldable pub numbers : List (List ℕ) → List ℕ → Option (List ℕ)
numbers names s = mapped (map (number_of names)) (lex s)

-- words in an array, and 0 in every place behind them
abbrev pub laid : List ℕ → Words
laid ws = record { count = length ws; words = ws ++ replicate (64 - length ws) 0 }

-- the words that count
abbrev pub words_in : Words → List ℕ
words_in w = take w.count w.words

-- one more word behind those that count; where there is no room, none
abbrev pub pushed : Words → ℕ → Words
pushed w x = cond (ltb w.count 64) (record { count = w.count + 1; words = set w.words w.count x }) w

-- what `tokenise` answers where a text's tokens have these numbers: all, if they are at most 64
abbrev pub laid_tokens : Option (List ℕ) → Maybe Words
laid_tokens none = None
laid_tokens (some ts) = cond (leb (length ts) 64) (Some (laid ts)) None

unfoldable pub lexed : List (List ℕ) → List ℕ → Maybe Words
lexed names s = laid_tokens (numbers names s)

-- what stands at the place `at` of the text s, or a byte at fault
pub data LexemeAt (names : List (List ℕ)) (s : List ℕ) (at : ℕ) : Maybe Lexeme → Type 0 where
  next :
      (t i : ℕ)
      → at < i
      → i ≤ length s
      → numbers names (drop at s) ≡ put_token t (numbers names (drop i s))
      → LexemeAt names s at (Some (record { token = Some t; end = i }))
  skip : numbers names (drop at s) ≡ numbers names (drop (at + 1) s) → LexemeAt names s at (Some (record { token = None; end = at + 1 }))
  wrong : numbers names (drop at s) ≡ none → LexemeAt names s at None
