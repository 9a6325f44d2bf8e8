-- `process_event`: which of steps 1 to 4 ends it.
use mathlib.Core.Path.{sym, ◌∙◌}
use Rattle.engine.specs.EventCode.{plan_by, engine_of}
use Rattle.event_rules.specs.Calls.{config_of}
use Rattle.engine.proofs.Events.{answers_by, process_halted, process_stopped, process_all, process_runs}
use Rattle.engine.proofs.event.process_event.Goals as goal

pub returns-then-is_halted : goal.returns-then-is_halted
returns-then-is_halted c = answers_by c.args.s c.args.fired.now c.ended_by-l.result c.args.e _ _ c.answer_with.ensures ∙ process_halted (config_of (plan_by c.args.plan.words.now c.args.plan.lay)) (engine_of c.args.s c.args.fired.now) c.args.e _ c.time.ensures c.ended_by-l.result c.ended_by-l.ensures (sym c.is_halted.ensures ∙ c.if-is_halted.true)

pub returns-then-is_stopped : goal.returns-then-is_stopped
returns-then-is_stopped c = answers_by c.args.s c.args.fired.now c.ended_by-l.result c.args.e _ _ c.answer_with-then-is_stopped.ensures ∙ process_stopped (config_of (plan_by c.args.plan.words.now c.args.plan.lay)) (engine_of c.args.s c.args.fired.now) c.args.e _ c.time.ensures c.ended_by-l.result c.ended_by-l.ensures (sym c.is_halted.ensures ∙ c.if-is_halted.false) (sym c.is_stopped.ensures ∙ c.if-is_stopped.true)

pub returns-then-logs_all : goal.returns-then-logs_all
returns-then-logs_all c = answers_by c.args.s c.args.fired.now c.ended_by-l.result c.args.e _ _ c.answer_with-then-logs_all.ensures ∙ process_all (config_of (plan_by c.args.plan.words.now c.args.plan.lay)) (engine_of c.args.s c.args.fired.now) c.args.e _ c.time.ensures c.ended_by-l.result c.ended_by-l.ensures (sym c.is_halted.ensures ∙ c.if-is_halted.false) (sym c.is_stopped.ensures ∙ c.if-is_stopped.false) (sym c.logs_all.ensures ∙ c.if-logs_all.true)

pub returns : goal.returns
returns c = c.trigger_event.ensures ∙ process_runs (config_of (plan_by c.args.plan.words.now c.args.plan.lay)) (engine_of c.args.s c.args.fired.now) c.args.e _ c.time.ensures c.ended_by-l.result c.ended_by-l.ensures (sym c.is_halted.ensures ∙ c.if-is_halted.false) (sym c.is_stopped.ensures ∙ c.if-is_stopped.false) (sym c.logs_all.ensures ∙ c.if-logs_all.false)
