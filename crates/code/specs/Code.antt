-- Paper 01, "Expressions" and "The plan": postfix code, its words, the stack machine that runs it, and what the loader asks of it.
-- "Code is postfix, left operand first: 0 to 31 pushes that trigger's state (triggers count from 0 in file order), 32 AND, 33 OR, 34 NOT."
-- "The loader takes a plan exactly if .. each pushed trigger below the plan's number of triggers ..
-- and the code never pops from an empty stack, holds at most 24, and leaves one value."
use Rattle.std.specs.Prelude.{ℕ, ◌≤◌, ◌<◌, ◌≡◌, Bool, false, cond, not, ◌&&◌, ◌||◌, List, [], ◌∷◌, ◌++◌, length, get_or, ltb, eqb, Option, None, Some, option_and_then}

-- an instruction
pub data Op : Type 0 where
  push : ℕ → Op
  both either invert : Op

-- its word
unfoldable pub word_of : Op → ℕ
word_of (push i) = i
word_of both = 32
word_of either = 33
word_of invert = 34

-- the instruction that a word is, if any
unfoldable pub op_of : ℕ → Option Op
op_of w = cond (ltb w 32) (Some (push w)) (cond (eqb w 32) (Some both) (cond (eqb w 33) (Some either) (cond (eqb w 34) (Some invert) None)))

-- "holds at most 24"
abbrev pub limit : ℕ
limit = 24

-- the two top values of a stack, top first, made one: the left operand was pushed first
abbrev pub top_two : (Bool → Bool → Bool) → List Bool → Option (List Bool)
top_two f [] = None
top_two f (b ∷ []) = None
top_two f (b ∷ (a ∷ st)) = Some (f a b ∷ st)

-- An instruction on a stack of at most `room` values, where v has the triggers' states.
-- There is no answer where it would pop from an empty stack, or push with no room.
unfoldable pub step_op : ℕ → (ℕ → Bool) → Op → List Bool → Option (List Bool)
step_op room v (push i) st = cond (ltb (length st) room) (Some (v i ∷ st)) None
step_op room v both st = top_two ◌&&◌ st
step_op room v either st = top_two ◌||◌ st
step_op room v invert [] = None
step_op room v invert (a ∷ st) = Some (not a ∷ st)

-- the same of a word: one that is no instruction has no answer either
unfoldable pub step_word : ℕ → (ℕ → Bool) → ℕ → List Bool → Option (List Bool)
step_word room v w st = option_and_then (λ o. step_op room v o st) (op_of w)

unfoldable pub run_words : ℕ → (ℕ → Bool) → List ℕ → List Bool → Option (List Bool)
run_words room v [] st = Some st
run_words room v (w ∷ c) st = option_and_then (run_words room v c) (step_word room v w st)

-- what code gives on the triggers' states: the one value that is left; at a fault there is None
abbrev pub only_value : Option (List Bool) → Option Bool
only_value None = None
only_value (Some []) = None
only_value (Some (b ∷ [])) = Some b
only_value (Some (b ∷ (a ∷ st))) = None

unfoldable pub value_on : List Bool → List ℕ → Option Bool
value_on states c = only_value (run_words limit (λ i. get_or states i false) c [])

-- The loader's rule in the paper's words. "Each pushed trigger below the plan's number of triggers"
unfoldable pub KnownTriggers : ℕ → List ℕ → Type 0
KnownTriggers triggers [] = Unit {0}
KnownTriggers triggers (w ∷ c) = (w < 32 → w < triggers) × KnownTriggers triggers c

-- "The code never pops from an empty stack, holds at most 24, and leaves one value": every front part of it has a run.
pub record Runs (v : ℕ → Bool) (c : List ℕ) : Type 0 where
  pub front : (a b : List ℕ) → c ≡ a ++ b → (st : List Bool) × (run_words limit v a [] ≡ Some st) × (length st ≤ limit)
  pub whole : (b : Bool) × (run_words limit v c [] ≡ Some (b ∷ []))
