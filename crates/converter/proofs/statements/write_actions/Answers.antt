use mathlib.Core.Path.{sym, ◌∙◌}
use mathlib.Core.Bool.{true, false}
use Rattle.text.specs.Texts.{bytes}
use Rattle.schema.specs.SchemaCode.{names, name_in}
use Rattle.tables.specs.RowsCode.{is_inner}
use Rattle.tables.proofs.RowsTurns.{front_stop, front_over}
use Rattle.converter.proofs.Writes.{behind_none, behind_all, behind_there, behind_one}
use Rattle.converter.proofs.Rows.{actions_next, actions_none}
use Rattle.converter.proofs.statements.write_actions.Goals as goal

pub loop-element-init : goal.loop-element-init
loop-element-init c = (tt, tt, rw c.into_iter-element-iterator.ensures.into_iter_gives (behind_none c.requires))

pub returns-then-not-is_inner : goal.returns-then-not-is_inner
returns-then-not-is_inner c = behind_all c.loop-element.invariant.2 (actions_none _ (front_stop is_inner c.in-Some.ensures.steps.0 c.kind-kind.ensures (sym c.is_inner.ensures ∙ c.if-not-is_inner.true)))

pub bounds-out-n : goal.bounds-out-n
unfolding names name_in bytes
bounds-out-n c = behind_there c.loop-element.invariant.2 (actions_next true c.in-Some.ensures.steps.0 c.kind-kind.ensures (sym c.is_inner.ensures ∙ c.if-not-is_inner.false) (sym c.is_in.ensures ∙ c.if-is_in.true))

pub loop-element-preserved-then-is_in : goal.loop-element-preserved-then-is_in
unfolding names name_in bytes
loop-element-preserved-then-is_in c = (tt, tt, rw c.action_from.ensures (behind_one c.loop-element.invariant.2 (actions_next true c.in-Some.ensures.steps.0 c.kind-kind.ensures (sym c.is_inner.ensures ∙ c.if-not-is_inner.false) (sym c.is_in.ensures ∙ c.if-is_in.true))))

pub loop-element-preserved : goal.loop-element-preserved
unfolding names name_in bytes
loop-element-preserved c = (tt, tt, rw (← actions_next false c.in-Some.ensures.steps.0 c.kind-kind.ensures (sym c.is_inner.ensures ∙ c.if-not-is_inner.false) (sym c.is_in.ensures ∙ c.if-is_in.false)) c.loop-element.invariant.2)

pub returns : goal.returns
returns c = behind_all c.loop-element.invariant.2 (actions_none _ (front_over is_inner c.in-None.ensures.steps.0))
