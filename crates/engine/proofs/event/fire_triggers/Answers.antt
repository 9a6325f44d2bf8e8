-- `fire_triggers`: the triggers, from the last firings.
use mathlib.Core.Path.{◌∙◌}
use Rattle.engine.proofs.Events.{fires_from}
use Rattle.engine.proofs.event.fire_triggers.Goals as goal

pub returns : goal.returns
returns c = (c.fire_all.ensures.0 ∙ fires_from c.args.plan.words.now _ _ _ _ _ c.trigger_count-count.ensures c.triggers.ensures, c.fire_all.ensures.1)
