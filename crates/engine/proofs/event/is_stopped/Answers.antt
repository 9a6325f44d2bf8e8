-- `is_stopped`: ticks pass.
use Rattle.event_rules.specs.Rules.{passes}
use Rattle.engine.proofs.event.is_stopped.Goals as goal

pub returns-in_default : goal.returns-in_default
unfolding passes
returns-in_default c = rw c.in_default.is
