-- Paper 01, "One event", for hosts in C: a list of events from fresh, as bytes in and bytes out.
use Rattle.std.specs.Prelude.{ℕ, zero, suc, ◌*◌, ◌/◌, List, [], ◌++◌, min, length, drop}
use Rattle.loader.specs.Plan.{PlanOf}
use Rattle.event_rules.specs.declared.Event.{Event}
use Rattle.event_rules.specs.declared.Refusal.TheVariants.{NoPlan}
use Rattle.event_rules.specs.declared.Engine.{Engine}
use Rattle.event_rules.specs.declared.Counts.{Counts}
use Rattle.event_rules.specs.declared.Outcome.{Outcome}
use Rattle.event_rules.specs.Calls.{fresh, config_of, refused, step}
use Rattle.replay.specs.Wire.{event_at, answer_bytes}

-- n events in order, each on the state and the counts that the one before left
unfoldable pub replayed : (Engine → Counts → Event → Outcome) → ℕ → List ℕ → Engine → Counts → List ℕ
replayed by zero s en k = []
replayed by (suc n) s en k = answer_bytes (by en k (event_at s))
    ++ replayed by n (drop 32 s) (by en k (event_at s)).engine (by en k (event_at s)).counts

-- as many whole events as there is room for their answers
abbrev pub events_answered : List ℕ → List ℕ → ℕ
events_answered events out = min (length events / 32) (length out / 32)

-- A replay from fresh with the host's counts: `out` becomes `after`. Bytes behind the last answer stay as they were.
pub data Replays (ws events : List ℕ) (k : Counts) (out : List ℕ) : List ℕ → Type 0 where
  by_plan : (p : PlanOf ws)
      → Replays ws events k out
      (replayed (step (config_of p.plan)) (events_answered events out) events fresh k ++ drop (32 * events_answered events out) out)
  no_plan : (PlanOf ws → ⊥)
      → Replays ws events k out
      (replayed (λ en k e. refused NoPlan en k) (events_answered events out) events fresh k ++ drop (32 * events_answered events out) out)
