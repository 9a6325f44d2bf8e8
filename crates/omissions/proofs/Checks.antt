-- Checks by hand, computed on small documents: elements that are skipped; triggers that are named only behind NOT, by no whole word, or not
-- at all; log_all and start actions.
use Prim.Native.Nat.{ℕ}
use Prim.Native.String.{String}
use mathlib.Core.Path.{◌≡◌, refl}
use mathlib.Core.List.{List, [], ◌∷◌}
use mathlib.Core.Bool.{true, false}
use Rattle.lists.specs.Lists.{any}
use Rattle.text.specs.Texts.{bytes, same}
use Rattle.text.specs.Kinds.{is_blank, is_start, is_digit, is_name}
use Rattle.values.specs.Values.{either_word, worth_of}
use Rattle.shape.specs.Shape.{Node, node, Items}
use Rattle.shape.specs.Text.{joined, clipped, cropped, trimmed}
use Rattle.schema.specs.Schema.{parents, parent_in, elements, rules_in}
use Rattle.grammar.specs.Lex.{word, AND, NOT, Spells}
use Rattle.grammar.specs.TokensCode.{lex_from, lex}
use Rattle.grammar.proofs.Spelled.{spelled}
use Rattle.file_rules.specs.Element.{worth_by, given_value}
use Rattle.file_rules.specs.Document.{known_in, known_at}
use Rattle.file_rules.specs.Tables.{kept, logs_all}
use Rattle.omissions.specs.Omissions.{skipped_in, skipped_at, skipped_elements, Worded, Unnamed, silent}

-- an element with one attribute, and one with what it holds
abbrev named : ℕ → String → String → String → Node
named p n a v = node p (bytes n) (record { name = bytes a; value = bytes v } ∷ []) Items.none

abbrev holding : ℕ → String → Items → Node
holding p n i = node p (bytes n) [] i

abbrev only : Node → Items
only x = Items.child x Items.none

-- ---- skipped elements
-- in ACTIONS: BEEP is skipped, and what stands in it goes with it; a comment, text and a known action tell nothing
abbrev actions : Node
actions =
    holding 60 "ACTIONS"
    (Items.child (holding 69 "BEEP" (only (holding 75 "BOOP" Items.none)))
    (Items.remark (Items.text 32 (Items.child (holding 100 "ACTION_START_LOG" Items.none) Items.none))))

abbrev in_block : Node → Node
in_block x =
    holding 0 "KVASER"
    (only (holding 8 "TRIGGERBLOCK" (only (holding 22 "STATEMENTS" (only (holding 34 "STATEMENT" (only x)))))))

pub unknown_told : skipped_elements (in_block actions) ≡ 69 ∷ []
unfolding skipped_in skipped_at parents parent_in any same bytes
unknown_told = refl

-- a known name under another parent is skipped: MODE belongs into SETTINGS
pub elsewhere_told : skipped_elements
    (holding 0 "KVASER"
    (Items.child (holding 8 "MODE" Items.none) (only (holding 20 "SETTINGS" (only (holding 30 "MODE" Items.none))))))
    ≡ 8 ∷ []
unfolding skipped_in skipped_at parents parent_in any same bytes
elsewhere_told = refl

-- what is known but not carried is not skipped, and what stands in it is
pub barred_passed : skipped_elements
    (holding 0 "KVASER" (only (holding 8 "TRIGGERBLOCK"
    (only (holding 22 "TRIGGERS" (only (holding 32 "TRIGGER_TIMER" (only (holding 47 "NOTE" Items.none)))))))))
    ≡ 47 ∷ []
unfolding skipped_in skipped_at parents parent_in any same bytes
barred_passed = refl

-- the root under another name goes with all it holds
pub root_told : skipped_elements (holding 5 "kvaser" (only (holding 13 "VERSION" Items.none))) ≡ 5 ∷ []
unfolding skipped_in skipped_at parents parent_in any same bytes
root_told = refl

-- ---- triggers, log_all and start actions
-- a text
unfoldable pub said : List ℕ → Items
said [] = Items.none
said (b ∷ s) = Items.text b (said s)

-- two triggers, at 5 and 6, a statement with an expression and an action, and log_all
abbrev tree : String → String → String → String → String → Node
tree a b text action all =
    holding 0 "KVASER" (Items.child (holding 1 "SETTINGS" (Items.child (named 2 "MODE" "log_all" all) Items.none))
    (Items.child (holding 3 "TRIGGERBLOCK"
    (Items.child (holding 4 "TRIGGERS"
    (Items.child (named 5 "TRIGGER_STARTUP" "name" a) (Items.child (named 6 "TRIGGER_STARTUP" "name" b) Items.none)))
    (Items.child (holding 7 "STATEMENTS" (Items.child (holding 8 "STATEMENT"
    (Items.child (holding 9 "EXPRESSION" (said (bytes text)))
    (Items.child (holding 10 "ACTIONS" (Items.child (holding 11 action Items.none) Items.none)) Items.none))) Items.none))
    Items.none)))
    Items.none))

spellings : Spells (bytes "NOT A") (NOT ∷ word (bytes "A") ∷ []) × Spells (bytes "AB") (word (bytes "AB") ∷ [])
    × Spells (bytes "A AND A") (word (bytes "A") ∷ AND ∷ word (bytes "A") ∷ [])
unfolding bytes same is_blank is_start is_digit is_name lex_from lex
spellings = ((spelled _ _).0 refl, (spelled _ _).0 refl, (spelled _ _).0 refl)

-- a name behind NOT is named; one that a word begins with is not, nor is a trigger named by an operator
pub unnamed_checks : Unnamed (tree "A" "B" "NOT A" "ACTION_STOP_LOG" "NO") (6 ∷ [])
    × Unnamed (tree "A" "AB" "AB" "ACTION_STOP_LOG" "NO") (5 ∷ [])
    × Unnamed (tree "A" "AND" "A AND A" "ACTION_STOP_LOG" "NO") (6 ∷ [])
unfolding said bytes same any parents parent_in known_in known_at kept given_value joined clipped cropped trimmed is_blank
unnamed_checks = (
  record {
    tokens = (NOT ∷ word (bytes "A") ∷ []) ∷ [];
    worded = Worded.next _ _ [] [] spellings.0 Worded.over;
    exactly = refl;
  },
  record {
    tokens = (word (bytes "AB") ∷ []) ∷ [];
    worded = Worded.next _ _ [] [] spellings.1 Worded.over;
    exactly = refl;
  },
  record {
    tokens = (word (bytes "A") ∷ AND ∷ word (bytes "A") ∷ []) ∷ [];
    worded = Worded.next _ _ [] [] spellings.2 Worded.over;
    exactly = refl;
  },
)

-- "log_all is NO, and there is no start action"; one that stands where it is not known is none
pub silent_checks : (silent (tree "A" "B" "A" "ACTION_STOP_LOG" "NO") ≡ true)
    × (silent (tree "A" "B" "A" "ACTION_START_LOG" "NO") ≡ false)
    × (silent (tree "A" "B" "A" "ACTION_STOP_LOG" "YES") ≡ false)
    × (silent (holding 0 "KVASER" (Items.child (holding 1 "ACTION_START_LOG" Items.none) Items.none)) ≡ true)
unfolding said bytes same any parents parent_in elements rules_in known_in known_at kept given_value worth_by worth_of either_word logs_all silent
silent_checks = (refl, refl, refl, refl)
