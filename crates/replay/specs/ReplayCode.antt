-- One event as the replay takes it: what the loader answered decides. Nothing here has to be believed.
use Rattle.std.specs.Prelude.{ℕ, List, Option, None, Some}
use Rattle.loader.specs.declared.Layout.{Layout}
use Rattle.event_rules.specs.declared.Event.{Event}
use Rattle.event_rules.specs.declared.Refusal.TheVariants.{NoPlan}
use Rattle.event_rules.specs.declared.Engine.{Engine}
use Rattle.event_rules.specs.declared.Firing.{Firing}
use Rattle.event_rules.specs.declared.Counts.{Counts}
use Rattle.event_rules.specs.declared.Outcome.{Outcome}
use Rattle.event_rules.specs.Calls.{config_of, refused, step}
use Rattle.engine.specs.TriggersCode.{never}
use Rattle.engine.specs.EventCode.{plan_by}

abbrev pub step_loaded : List ℕ → Option Layout → Engine → Counts → Event → Outcome
step_loaded ws None en k e = refused NoPlan en k
step_loaded ws (Some lay) en k e = step (config_of (plan_by ws lay)) en k e

-- a trigger that fired, as one that never did
abbrev pub forgotten : Firing → Firing
forgotten l = never
