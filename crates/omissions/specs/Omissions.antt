-- What a file says that its plan does not: elements that are skipped, triggers that no expression names, and that nothing can be recorded.
use Rattle.std.specs.Prelude.{ℕ, ◌≡◌, List, [], ◌∷◌, ◌++◌, map, Bool, false, not, cond, ◌&&◌, ◌||◌, length, take, drop}
use Rattle.text.specs.Texts.{same}
use Rattle.shape.specs.Shape.{Node, node, Items}
use Rattle.schema.specs.Schema.{Parent, one_of, under}
use Rattle.grammar.specs.Lex.{Token, word, AND, OR, NOT, open', close', Spells}
use Rattle.file_rules.specs.Element.{Known, text_of}
use Rattle.file_rules.specs.Reading.{is}
use Rattle.file_rules.specs.Document.{known_elements}
use Rattle.file_rules.specs.Tables.{kept, is_in, name_of, logs_all}
use Rattle.converter.specs.Converter.{Meets}
use Rattle.lists.specs.Lists.{any}

-- ---- "Any other element is skipped with all it holds": the places of the elements that are not known where they stand, in file order.
-- What stands in one of them goes with it.
unfoldable mutual
  pub skipped_in : Parent → Items → List ℕ
  skipped_in q Items.none = []
  skipped_in q (Items.text b i) = skipped_in q i
  skipped_in q (Items.remark i) = skipped_in q i
  skipped_in q (Items.child x i) = skipped_at q x ++ skipped_in q i

  pub skipped_at : Parent → Node → List ℕ
  skipped_at q (node p n l i) = cond (one_of q.carried n || one_of q.barred n) (skipped_in (under n) i) (p ∷ [])

-- the file itself holds the root
abbrev pub skipped_elements : Node → List ℕ
skipped_elements x = skipped_at (under []) x

-- ---- the triggers that no expression names
-- the token is the word n
abbrev pub is_word : List ℕ → Token (List ℕ) → Bool
is_word n (word w) = same w n
is_word n AND = false
is_word n OR = false
is_word n NOT = false
is_word n open' = false
is_word n close' = false

-- the tokens of each expression
pub data Worded : List Known → List (List (Token (List ℕ))) → Type 0 where
  over : Worded [] []
  next :
      (k : Known) (ts : List (Token (List ℕ))) (ks : List Known) (tss : List (List (Token (List ℕ))))
      → Spells (text_of k) ts
      → Worded ks tss
      → Worded (k ∷ ks) (ts ∷ tss)

-- the places of the triggers whose names are among none of these
abbrev pub unnamed_by : List (List (Token (List ℕ))) → List Known → List ℕ
unnamed_by tss ks = map (λ k. k.place) (kept (λ k. is_in "TRIGGERS" k && not (any (any (is_word (name_of k))) tss)) ks)

pub record Unnamed (x : Node) (places : List ℕ) : Type 0 where
  pub tokens : List (List (Token (List ℕ)))
  pub worded : Worded (kept (is "EXPRESSION") (known_elements x)) tokens
  pub exactly : places ≡ unnamed_by tokens (known_elements x)

-- ---- nothing can ever be recorded: log_all is NO, and there is no start action. It is known in the ACTIONS of a STATEMENT only.
unfoldable pub silent : Node → Bool
silent x = not (logs_all (known_elements x)) && not (any (is "ACTION_START_LOG") (known_elements x))

-- ---- what is answered. A file that is refused has no notices, and what was lent stays as it was. Of one that meets the rules as many
-- places as there is room for stand at the front of d, and the number answered is how many there are.
pub data Places (told : Node → List ℕ → Type 0) (s d : List ℕ) : ℕ → List ℕ → Type 0 where
  refused : ((ws : List ℕ) → Meets s ws → ⊥) → Places told s d 0 d
  accepted :
      (ws l : List ℕ) (m : Meets s ws)
      → told m.document l
      → Places told s d (length l) (take (length d) l ++ drop (length l) d)

pub data Recordless (s : List ℕ) : Bool → Type 0 where
  refused : ((ws : List ℕ) → Meets s ws → ⊥) → Recordless s false
  accepted : (ws : List ℕ) (m : Meets s ws) → Recordless s (silent m.document)
