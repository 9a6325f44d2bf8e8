-- One event as the code goes: the plan that is read off words, and an answer beside the state.
use Rattle.std.specs.Prelude.{ℕ, List, Bool, true, false, get_or, drop, eqb, ◌≡◌, ⊤}
use Rattle.records.specs.Records as plans
use Rattle.records.specs.RecordsCode.{trigger_size, trigger_at, filter_size, filter_at, statement_size, statement_at}
use Rattle.records.specs.declared.Trigger.{Trigger}
use Rattle.records.specs.declared.Filter.{Filter}
use Rattle.loader.specs.Plan.{Plan}
use Rattle.loader.specs.ScanCode.{records_of}
use Rattle.loader.specs.declared.Layout.{Layout}
use Rattle.engine.specs.RowsCode.{rows_of}
use Rattle.event_rules.specs.declared.Event.{Event}
use Rattle.event_rules.specs.declared.Event.TheVariants.{Frame as frame, Tick as tick}
use Rattle.event_rules.specs.declared.Firing.{Firing}
use Rattle.event_rules.specs.declared.Engine.{Engine}
use Rattle.event_rules.specs.declared.Counts.{Counts}
use Rattle.event_rules.specs.declared.Logging.{Logging}
use Rattle.event_rules.specs.declared.Outcome.{Outcome}
use Rattle.event_rules.specs.declared.Refusal.TheVariants.{CodeFault}
use Rattle.event_rules.specs.declared.Answer.{Answer}
use Rattle.event_rules.specs.declared.Answer.TheVariants as answers
use Rattle.event_rules.specs.Rules.{time_of, answering, ended_by, recorded_or_idle, Result, gives, faults}
use Rattle.event_rules.specs.Calls.{full, counted}
use Rattle.engine.specs.declared.event.Running.{Running}
use Rattle.engine.specs.declared.event.Ran.{Ran}
use Rattle.engine.specs.declared.event.Stepped.{Stepped}

-- ---- the plan that words are read as, whatever they are; a taken plan is read as itself
abbrev pub triggers_read : List ℕ → List Trigger
triggers_read ws = rows_of trigger_size trigger_at 32 (get_or ws 3 0) (drop 6 ws)

abbrev pub filters_read : List ℕ → Layout → List Filter
filters_read ws lay = records_of filter_size filter_at (get_or ws 4 0) (drop lay.filters ws)

abbrev pub statements_read : List ℕ → Layout → List plans.PlanStatement
statements_read ws lay = rows_of statement_size statement_at 16 (get_or ws 5 0) (drop lay.statements ws)

abbrev pub plan_by : List ℕ → Layout → Plan
plan_by ws lay =
    record {
      channels = get_or ws 1 0;
      log_all = eqb (get_or ws 2 0) 1;
      triggers = triggers_read ws;
      filters = filters_read ws lay;
      statements = statements_read ws lay;
    }

-- ---- the state, whose last firings lie elsewhere
abbrev pub engine_of : Running → List Firing → Engine
engine_of s fired = record { logging = s.logging; fired = fired; truth = s.truth; started = s.started; last = s.last }

abbrev pub outcome_of : Ran → List Firing → Outcome
outcome_of r fired = record { answer = r.answer; engine = engine_of r.state fired; counts = r.counts }

-- ---- one event
-- a frame is counted, and no tick
abbrev pub HasRoom : Counts → Event → Type 0
HasRoom k (frame f) = full k ≡ false
HasRoom k (tick u) = ⊤

abbrev pub event_counted : Counts → Event → Answer → Counts
event_counted k (frame f) a = counted k a
event_counted k (tick u) a = k

-- an answer and the engine behind it
pub record Reached : Type 0 where
  pub answer : Answer
  pub engine : Engine

abbrev pub reached_by : Stepped → List Firing → Reached
reached_by r fired = record { answer = r.answer; engine = engine_of r.state fired }

-- an event that goes no further than the filters
abbrev pub answered_at : Running → Logging → Event → Answer → Stepped
answered_at s l e a =
    record { answer = answering e a; state = record { logging = l; truth = s.truth; started = s.started; last = time_of e } }

-- step 7, on what the statements left
abbrev pub settled_at : List Bool → Logging → Event → Stepped
settled_at truth acted e = record {
  answer = answering e (recorded_or_idle (ended_by (time_of e) acted));
  state = record { logging = ended_by (time_of e) acted; truth = truth; started = true; last = time_of e };
}

-- a fault is answered by 25, with the engine as it was
abbrev pub reached : Engine → Result → Reached
reached en faults = record { answer = answers.Refused CodeFault; engine = en }
reached en (gives a after) = record { answer = a; engine = after }
