-- Paper 01, "Values", "Expressions" and "One event", read off the document: the configuration of the file itself. It shares no code with
-- the plan: a filter is on the channels that its CHANNELs name, an expression is the tree that it is written as, with its brackets, and a
-- name in it has the state of the trigger of that name.
use Rattle.std.specs.Prelude.{ℕ, ◌≡◌, List, [], ◌∷◌, map, Bool, cond, ◌&&◌, leb, eqb, length, Some}
use Rattle.lists.specs.Lists.{any}
use Rattle.records.specs.declared.Effect.TheVariants.{Pass, Stop}
use Rattle.records.specs.Records.{dlc_top}
use Rattle.grammar.specs.Tree.{Expression, mean}
use Rattle.grammar.specs.Outcome.{ReadsAs, state_of}
use Rattle.file_rules.specs.Element.{Known, value_of, has}
use Rattle.file_rules.specs.Reading.{is, trigger_of}
use Rattle.file_rules.specs.Tables.{kept, is_in, channels_of, actions_of, expression_of, names_of, logs_all}
use Rattle.event_rules.specs.Rules.{MessageFilter, Statement, Config}

-- without dlc a filter covers every length that a frame has
abbrev pub own_filter : Known → MessageFilter
own_filter k = record {
  effect = cond (is "MESSAGE_PASS" k) Pass Stop;
  on = λ channel. any (eqb channel) (channels_of k);
  ext = eqb (value_of k "can_ext") 1;
  lower = value_of k "msgid_min";
  upper = value_of k "msgid";
  covers = λ dlc. cond (has k "dlc") (leb (value_of k "dlc_min") dlc && leb dlc (value_of k "dlc")) (leb dlc dlc_top);
}

-- a statement holds where its tree does
pub record SaysStatement (names : List (List ℕ)) (k : Known) (s : Statement) : Type 0 where
  pub tree : Expression (List ℕ)
  pub written : ReadsAs (expression_of k) tree
  pub post : s.post ≡ value_of k "posttrigger"
  pub actions : s.actions ≡ actions_of k
  pub holds : (states : List Bool) → s.holds states ≡ Some (mean tree (state_of names states))

pub data SaysStatements (names : List (List ℕ)) : List Known → List Statement → Type 0 where
  over : SaysStatements names [] []
  next :
      (k : Known) (s : Statement) (ks : List Known) (ss : List Statement)
      → SaysStatement names k s
      → SaysStatements names ks ss
      → SaysStatements names (k ∷ ks) (s ∷ ss)

-- the document of the known elements ks says the configuration c
pub record Says (ks : List Known) (c : Config) : Type 0 where
  pub channels : c.channels ≡ length (kept (is "PARAMETERS") ks)
  pub log_all : c.log_all ≡ logs_all ks
  pub triggers : c.triggers ≡ map trigger_of (kept (is_in "TRIGGERS") ks)
  pub filters : c.filters ≡ map own_filter (kept (is_in "FILTERS") ks)
  pub statements : SaysStatements (names_of ks) (kept (is "STATEMENT") ks) c.statements
