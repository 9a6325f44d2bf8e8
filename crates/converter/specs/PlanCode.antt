-- The words of a plan by the entries of a file, one after the other. Code-shaped; proofs/ ties it to the definitions. Nothing here has to
-- be believed.
use Rattle.std.specs.Prelude.{ℕ, ◌≤◌, ◌≡◌, List, [], ◌∷◌, ◌++◌, map, cond, length, drop, Option, Some, None, Result, Ok, Err}
use Rattle.std.specs.Option.{option_or}
use Rattle.lists.specs.Lists.{gathered}
use Rattle.records.specs.Records.{newest, flag, trigger_words, filter_words}
use Rattle.grammar.specs.declared.Unfit.{Unfit}
use Rattle.grammar.specs.declared.Words.{Words}
use Rattle.grammar.specs.GrammarCode.{unfit_number, code_in, compiled}
use Rattle.schema.specs.SchemaCode.{kind_of}
use Rattle.text.specs.Texts.{bytes}
use Rattle.element.specs.ElementCode.{is_kind, short_text}
use Rattle.document.specs.EntriesCode.{Entry, entry_of, number_in}
use Rattle.tables.specs.declared.rows.Told.{Told}
use Rattle.tables.specs.RowsCode.{front, counted, is_under, trigger_from, is_channel, mask_of, filter_from, is_inner, text_of, action_from}
use Rattle.tables.specs.TablesCode.{names_at}
use Rattle.shape.specs.Shape.{Node, WellShaped}
use Rattle.file_rules.specs.Document.{known_elements, element_faults}
use Rattle.file_rules.specs.declared.Refusal.{Refusal}
use Rattle.file_rules.specs.RefusalCode.{refused_at}

-- ---- words at the front of a buffer
-- the words ws, and behind them what the buffer held
abbrev pub written : List ℕ → List ℕ → List ℕ
written ws d = ws ++ drop (length ws) d

-- d became e, and r says how many words are new
pub record Wrote (ws d : List ℕ) (r : ℕ) (e : List ℕ) : Type 0 where
  pub count : r ≡ length ws
  pub words : e ≡ written ws d

-- ---- the words of each entry, by those behind it, one after the other
unfoldable pub rows_of : {X : Type 0} → (Entry → List Entry → List X) → List Entry → List X
rows_of row [] = []
rows_of row (e ∷ es) = row e es ++ rows_of row es

unfoldable pub trigger_row : Entry → List Entry → List ℕ
trigger_row e es = cond (is_under "TRIGGERS" e.kind) (trigger_words (trigger_from e)) []

unfoldable pub filter_row : Entry → List Entry → List ℕ
filter_row e es = cond (is_under "FILTERS" e.kind) (filter_words (filter_from (mask_of (front is_channel es)) e)) []

-- ---- statements
-- the expression in the element at p
unfoldable pub compiled_at : List ℕ → List (List ℕ) → ℕ → Result Words Unfit
compiled_at f names p = compiled names (short_text f p)

unfoldable pub action_row : Entry → List ℕ
action_row e = cond (is_under "ACTIONS" e.kind) (action_from e.kind ∷ []) []

abbrev pub actions_from : List Entry → List ℕ
actions_from es = gathered action_row (front is_inner es)

abbrev pub line_words : ℕ → List ℕ → List ℕ → List ℕ
line_words post actions code = post ∷ length actions ∷ length code ∷ (actions ++ code)

-- the code of the statement whose elements stand next
abbrev pub code_from : List ℕ → List (List ℕ) → List Entry → Result Words Unfit
code_from f names es = compiled_at f names (text_of (front is_inner es))

unfoldable pub line_row : List ℕ → List (List ℕ) → Entry → List Entry → List ℕ
line_row f names e es =
    cond (is_kind e.kind "STATEMENT") (line_words (number_in e "posttrigger") (actions_from es) (code_in (code_from f names es))) []

-- 11 and 12
abbrev pub verdict_fault : Result Words Unfit → ℕ → Option Refusal
verdict_fault (Ok w) p = None
verdict_fault (Err x) p = Some (refused_at (unfit_number x) p)

unfoldable pub line_fault : List ℕ → List (List ℕ) → Entry → List Entry → Option Refusal
line_fault f names e es =
    cond (is_kind e.kind "STATEMENT") (verdict_fault (code_from f names es) (text_of (front is_inner es))) None

unfoldable pub late_fault : List ℕ → List (List ℕ) → List Entry → Option Refusal
late_fault f names [] = None
late_fault f names (e ∷ es) = option_or (line_fault f names e es) (late_fault f names es)

-- r says how many words are new, which are ws, or it is the fault, if there is one
pub record WroteOr (fault : Option Refusal) (ws d : List ℕ) (r : Result ℕ Refusal) (e : List ℕ) : Type 0 where
  pub wrote : (n : ℕ) → r ≡ Ok n → (fault ≡ None) × Wrote ws d n e × (n ≤ length d)
  pub refused : (q : Refusal) → r ≡ Err q → fault ≡ Some q
  pub long : length e ≡ length d

-- ---- the plan
-- how many triggers, filters and statements
abbrev pub counts : List Entry → List ℕ
counts es =
    counted (kind_of (bytes "TRIGGERS")) es ∷ counted (kind_of (bytes "FILTERS")) es ∷ counted (kind_of (bytes "STATEMENTS")) es ∷ []

abbrev pub head_words : Told → List Entry → List ℕ
head_words t es = newest ∷ t.head.channels ∷ flag t.head.all ∷ counts es

unfoldable pub sheet_words : List ℕ → Told → List Entry → List ℕ
sheet_words f t es =
    head_words t es ++ (rows_of trigger_row es ++ (rows_of filter_row es ++ rows_of (line_row f (names_at f t.names)) es))

-- a document without faults up to 8, and its entries
pub record Plain (f : List ℕ) (es : List Entry) : Type 0 where
  pub root : Node
  pub short : length f ≤ 32768
  pub shaped : WellShaped f root
  pub faultless : element_faults root ≡ []
  pub entries : es ≡ map entry_of (known_elements root)
