-- What the functions answer of triggers and expressions, for every input. Code-shaped; proofs/ ties it to the definitions. Nothing here has
-- to be believed.
use Rattle.std.specs.Prelude.{Option, Some, None, ℕ, List, [], ◌∷◌, Bool, false, not, cond, eqb, take, drop}
use Rattle.std.specs.List.{list_any}
use Rattle.lists.specs.Lists.{any}
use Rattle.text.specs.Texts.{bytes}
use Rattle.grammar.specs.declared.Words.{Words}
use Rattle.grammar.specs.TokensCode.{words_in, lexed}
use Rattle.element.specs.ElementCode.{is_kind, short_text, value_at}
use Rattle.document.specs.EntriesCode.{Entry}
use Rattle.tables.specs.RowsCode.{is_under}

-- ---- words
-- one of the tokens has the number 0
abbrev pub zero_in : Option Words → Bool
zero_in (Some w) = list_any (λ t. eqb t 0) (words_in w)
zero_in None = false

-- the text has the word n: of the tokens of a text that is read with this one name, it alone has the number 0
unfoldable pub has_word : List ℕ → List ℕ → Bool
has_word n text = zero_in (lexed (n ∷ []) text)

-- the entry is an EXPRESSION with the word n
unfoldable pub says_word : List ℕ → List ℕ → Entry → Bool
says_word f n e = cond (is_kind e.kind "EXPRESSION") (has_word n (short_text f e.place)) false

-- ---- triggers
-- the name of the trigger at a place
abbrev pub name_at : List ℕ → ℕ → List ℕ
name_at f p = drop (value_at (bytes "name") f p).from (take (value_at (bytes "name") f p).to f)

-- the entry is a trigger that no EXPRESSION among es names
unfoldable pub is_unnamed : List ℕ → List Entry → Entry → Bool
is_unnamed f es e = cond (is_under "TRIGGERS" e.kind) (not (any (says_word f (name_at f e.place)) es)) false

unfoldable pub places_of : (Entry → Bool) → List Entry → List ℕ
places_of p [] = []
places_of p (e ∷ es) = cond (p e) (e.place ∷ places_of p es) (places_of p es)

abbrev pub unnamed_in : List ℕ → List Entry → List ℕ
unnamed_in f es = places_of (is_unnamed f es) es
