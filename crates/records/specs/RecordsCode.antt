-- One record, read off the words that start with it. Nobody has to believe it: the loader's proofs tie it to Records.antt.
use Rattle.std.specs.Prelude.{ℕ, ◌+◌, List, map, cond, get_or, take, drop, eqb}
use Rattle.records.specs.Records.{PlanStatement}
use Rattle.records.specs.declared.Cause.{Cause}
use Rattle.records.specs.declared.Cause.TheVariants.{Id, Length, Error, Startup}
use Rattle.records.specs.declared.Timeout.{Timeout}
use Rattle.records.specs.declared.Timeout.TheVariants.{Forever, Ms}
use Rattle.records.specs.declared.Trigger.{Trigger}
use Rattle.records.specs.declared.Effect.{Effect}
use Rattle.records.specs.declared.Effect.TheVariants.{Pass, Stop}
use Rattle.records.specs.declared.Filter.{Filter}
use Rattle.records.specs.declared.Action.{Action}
use Rattle.records.specs.declared.Action.TheVariants.{StartLog, StopLog, StopLogCompletely}

abbrev pub timeout_at : ℕ → Timeout
timeout_at w = cond (eqb w 4294967295) Forever (Ms w)

abbrev pub cause_at : List ℕ → Cause
cause_at ws =
    cond (eqb (get_or ws 0 0) 1) (Id (get_or ws 1 0) (eqb (get_or ws 3 0) 1) (get_or ws 4 0) (get_or ws 5 0))
    (cond (eqb (get_or ws 0 0) 2) (Length (get_or ws 1 0) (get_or ws 4 0) (get_or ws 5 0))
    (cond (eqb (get_or ws 0 0) 3) (Error (get_or ws 1 0)) Startup))

unfoldable pub trigger_at : List ℕ → Trigger
trigger_at ws = record { cause = cause_at ws; timeout = timeout_at (get_or ws 2 0) }

abbrev pub effect_at : ℕ → Effect
effect_at w = cond (eqb w 1) Pass Stop

unfoldable pub filter_at : List ℕ → Filter
filter_at ws = record {
  effect = effect_at (get_or ws 0 0);
  mask = get_or ws 1 0;
  ext = eqb (get_or ws 2 0) 1;
  lower = get_or ws 3 0;
  upper = get_or ws 4 0;
  shortest = get_or ws 5 0;
  longest = get_or ws 6 0;
}

abbrev pub action_at : ℕ → Action
action_at w = cond (eqb w 1) StartLog (cond (eqb w 2) StopLog StopLogCompletely)

abbrev pub actions_at : List ℕ → List ℕ
actions_at ws = take (get_or ws 1 0) (drop 3 ws)

abbrev pub code_at : List ℕ → List ℕ
code_at ws = take (get_or ws 2 0) (drop (3 + get_or ws 1 0) ws)

abbrev pub statement_at : List ℕ → PlanStatement
statement_at ws = record { post = get_or ws 0 0; actions = map action_at (actions_at ws); code = code_at ws }

-- how many words the record has
abbrev pub trigger_size : List ℕ → ℕ
trigger_size ws = 6

abbrev pub filter_size : List ℕ → ℕ
filter_size ws = 7

abbrev pub statement_size : List ℕ → ℕ
statement_size ws = 3 + get_or ws 1 0 + get_or ws 2 0
