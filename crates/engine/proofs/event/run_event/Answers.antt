-- `run_event`: refused, or processed and counted.
use mathlib.Core.Path.{sym, ap, ◌∙◌}
use Rattle.event_rules.specs.Calls.{config_of, refusal_from}
use Rattle.engine.specs.EventCode.{plan_by, engine_of, reached_by}
use Rattle.engine.proofs.Events.{accepted, step_refused, step_goes}
use Rattle.engine.proofs.event.run_event.Goals as goal

pub returns-in-Some : goal.returns-in-Some
returns-in-Some c = step_refused (config_of (plan_by c.args.plan.words.now c.args.plan.lay)) (engine_of c.args.s c.args.fired.now) c.args.k c.args.e _ _ (c.refusal_of-refused.ensures ∙ ap (λ n. refusal_from n c.args.s.last c.args.k c.args.e) c.channels.ensures) c.in-Some.is

pub process_event-p-requires : goal.process_event-p-requires
process_event-p-requires c = (accepted c.channels.result c.args.s.last c.args.k c.args.e (sym c.refusal_of-refused.ensures ∙ c.in_default.is)).time

pub count_event-counts-requires : goal.count_event-counts-requires
count_event-counts-requires c = (accepted c.channels.result c.args.s.last c.args.k c.args.e (sym c.refusal_of-refused.ensures ∙ c.in_default.is)).room

pub returns : goal.returns
returns c = step_goes (config_of (plan_by c.args.plan.words.now c.args.plan.lay)) (engine_of c.args.s c.args.fired.now) c.args.k c.args.e (ap (λ n. refusal_from n c.args.s.last c.args.k c.args.e) (sym c.channels.ensures) ∙ sym c.refusal_of-refused.ensures ∙ c.in_default.is) (reached_by c.process_event-p.result _) c.count_event-counts.result c.process_event-p.ensures c.count_event-counts.ensures
