-- Paper 01, "The plan" and "Refusal numbers": the plan of a document, its faults in the paper's order, and what `convert` answers.
use Rattle.std.specs.Prelude.{ℕ, ◌≤◌, ◌<◌, ◌≡◌, List, [], ◌∷◌, ◌++◌, map, length, drop, Result, Ok, Err}
use Rattle.std.proofs.Math.Option.{Option, none, some}
use Rattle.shape.specs.Shape.{Shape, Node, WellShaped, Shaped, shape_refusal}
use Rattle.records.specs.Records.{PlanStatement, sum_from}
use Rattle.loader.specs.Plan.{Plan, words_of}
use Rattle.grammar.specs.Outcome.{Becomes}
use Rattle.file_rules.specs.Element.{Known, Fault, value_of}
use Rattle.file_rules.specs.Reading.{is, trigger_of, filter_of}
use Rattle.file_rules.specs.Document.{known_elements, element_faults}
use Rattle.file_rules.specs.Tables.{kept, is_in, channels_of, actions_of, expressions_of, expression_of, names_of, logs_all, table_faults}
use Rattle.file_rules.specs.declared.Refusal.{Refusal}
use Rattle.lists.specs.Lists.{gathered}

-- "Words: 1, channels n, log_all, triggers, filters, statements."
unfoldable pub plan_for : List PlanStatement → List Known → Plan
plan_for ss ks = record {
  channels = length (kept (is "PARAMETERS") ks);
  log_all = logs_all ks;
  triggers = map trigger_of (kept (is_in "TRIGGERS") ks);
  filters = map (λ k. filter_of (sum_from 5 (channels_of k)) k) (kept (is_in "FILTERS") ks);
  statements = ss;
}

abbrev pub fault_of : Option ℕ → ℕ → List Fault
fault_of none p = []
fault_of (some n) p = record { number = n; place = p } ∷ []

-- "statements in order, 11 before 12", each at its EXPRESSION: their faults, and the statements of the plan
pub data Composes (names : List (List ℕ)) : List Known → List Fault → List PlanStatement → Type 0 where
  over : Composes names [] [] []
  next :
      (k : Known) (r : Option ℕ) (code : List ℕ) (ks : List Known) (fs : List Fault) (ss : List PlanStatement)
      → Becomes names (expression_of k) r code
      → Composes names ks fs ss
      → Composes names (k ∷ ks) (gathered (λ e. fault_of r e.place) (expressions_of k) ++ fs)
      (record { post = value_of k "posttrigger"; actions = actions_of k; code = code } ∷ ss)

-- "Order: .. 3; then known elements ..; then 8, 9, 10; then statements in order": all faults of a document, and its plan's statements
pub record Judged (x : Node) (faults : List Fault) (ss : List PlanStatement) : Type 0 where
  pub late : List Fault
  pub composed : Composes (names_of (known_elements x)) (kept (is "STATEMENT") (known_elements x)) late ss
  pub in_order : faults ≡ element_faults x ++ (table_faults (known_elements x) ++ late)

-- the file s meets the rules: it spells a document without faults, and ws are the words of its plan
pub record Meets (s ws : List ℕ) : Type 0 where
  pub document : Node
  pub statements : List PlanStatement
  pub short : length s ≤ 32768
  pub spells : WellShaped s document
  pub faultless : Judged document [] statements
  pub words : ws ≡ words_of (plan_for statements (known_elements document))

-- "The first in this order is given": the rules refuse the file s with n at p, where there is room for so many words
pub data Refuses (s : List ℕ) (room n p : ℕ) : Type 0 where
  by_shape : (a : Shape) → Shaped s a → shape_refusal a ≡ some (n, p) → Refuses s room n p
  by_fault :
      (x : Node) (l : List Fault) (ss : List PlanStatement)
      → length s ≤ 32768
      → WellShaped s x
      → Judged x (record { number = n; place = p } ∷ l) ss
      → Refuses s room n p
  by_room :
      (ws : List ℕ)
      → Meets s ws
      → room < length ws
      → n ≡ 13
      → p ≡ length ws
      → Refuses s room n p

-- how many words were written, or the refusal
abbrev pub Converted : Type 0
Converted = Result ℕ Refusal

-- "A refusal writes no plan word; success answers the plan's length and leaves the words behind it as they were."
pub data Converts (s d : List ℕ) : Converted → List ℕ → Type 0 where
  refuses : (r : Refusal) → Refuses s (length d) r.number r.place → Converts s d (Err r) d
  converts : (ws : List ℕ) → Meets s ws → length ws ≤ length d → Converts s d (Ok (length ws)) (ws ++ drop (length ws) d)

-- each answer's number and value: 0 and the plan's length, or the paper's number and place
abbrev pub convert_answer : Converted → ℕ × ℕ
convert_answer a = elim a [ Ok n ↦ (0, n) | Err r ↦ (r.number, r.place) ]
