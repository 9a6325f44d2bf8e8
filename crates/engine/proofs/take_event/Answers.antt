-- `take_event`: what the loader answered decides.
use mathlib.Core.Path.{ap, subst, ◌∙◌}
use Rattle.loader.specs.Plan.{Loads}
use Rattle.event_rules.specs.Calls.{refusal_at, refused}
use Rattle.engine.proofs.Plans.{answers_none, answers_step}
use Rattle.engine.proofs.take_event.Goals as goal

pub returns-in_default : goal.returns-in_default
returns-in_default c = answers_none (subst (Loads c.args.words.now) c.in_default.is c.load.ensures) (c.refuse.ensures.outcome ∙ ap (λ n. refused (refusal_at n) c.args.en c.args.counts) c.number.ensures)

pub returns : goal.returns
returns c = answers_step (subst (Loads c.args.words.now) c.in-Some.is c.load.ensures) c.step_event.ensures
