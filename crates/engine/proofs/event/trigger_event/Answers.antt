-- `trigger_event`: steps 5 to 7, from what each function gave. The length of `truth` stands in what the type of `s` says of it.
use mathlib.Core.Path.{◌∙◌}
use Rattle.engine.specs.EventCode.{plan_by}
use Rattle.engine.proofs.Events.{few_triggers, few_statements, evaluates_in, acts_in, trigger_faults, trigger_ends}
use Rattle.engine.proofs.event.trigger_event.Goals as goal

pub returns-in_default : goal.returns-in_default
returns-in_default c = trigger_faults (plan_by c.args.plan.words.now c.args.plan.lay) c.args.s c.args.last_fired.now c.args.l c.args.e (few_triggers c.args.plan.words.now) (few_statements c.args.plan.words.now c.args.plan.lay) (c.well_formed.1.0.1.1.1.0.1.0.1) c.fire_triggers-fired.ensures.1 c.fire_triggers-fired.result c.fire_triggers-fired.ensures.0 c.evaluate_all-evaluated.result (c.evaluate_all-evaluated.ensures ∙ evaluates_in c.args.plan.words.now c.args.plan.lay _ _ _ _ c.statement_count-count.ensures c.statements-statements.ensures) c.in_default.is

pub returns : goal.returns
returns c = trigger_ends (plan_by c.args.plan.words.now c.args.plan.lay) c.args.s c.args.last_fired.now c.args.l c.args.e (few_triggers c.args.plan.words.now) (few_statements c.args.plan.words.now c.args.plan.lay) (c.well_formed.1.0.1.1.1.0.1.0.1) c.fire_triggers-fired.ensures.1 c.fire_triggers-fired.result c.fire_triggers-fired.ensures.0 c.evaluate_all-evaluated.result (c.evaluate_all-evaluated.ensures ∙ evaluates_in c.args.plan.words.now c.args.plan.lay _ _ _ _ c.statement_count-count.ensures c.statements-statements.ensures) c.in-Some.truth c.in-Some.is _ c.time-u.ensures c.act_risen-acted.result c.requires (c.act_risen-acted.ensures ∙ acts_in c.args.plan.words.now c.args.plan.lay _ _ _ c.args.s.truth _ c.args.l c.statement_count-count.ensures c.statements-statements.ensures) _ c.keep_firings.ensures _ c.settle.ensures
