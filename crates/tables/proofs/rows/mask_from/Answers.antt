use Prim.Native.Nat.{ℕ}
use mathlib.Core.Path.{sym, ap, ◌∙◌}
use Rattle.text.specs.Texts.{bytes}
use Rattle.schema.specs.SchemaCode.{names, name_in}
use Rattle.document.specs.EntriesCode.{Entry}
use Rattle.tables.specs.RowsCode.{is_channel, with_channel}
use Rattle.tables.proofs.RowsTurns.{front_next, front_stop, front_over, told_more, told_all}
use Rattle.tables.proofs.rows.mask_from.Goals as goal

abbrev step : ℕ → Entry → ℕ
step m e = with_channel m e.number

pub returns-then-not-is_same : goal.returns-then-not-is_same
unfolding names name_in bytes
returns-then-not-is_same c = told_all step (front_stop is_channel c.in-Some.ensures.steps.0 c.kind.ensures (sym c.is_same.ensures ∙ c.if-not-is_same.true)) c.loop-element.invariant.2

pub loop-element-preserved : goal.loop-element-preserved
unfolding names name_in bytes
loop-element-preserved c = (tt, tt, told_more step (front_next is_channel c.in-Some.ensures.steps.0 c.kind.ensures (sym c.is_same.ensures ∙ c.if-not-is_same.false)) c.loop-element.invariant.2 (c.with_channel-mask.ensures ∙ ap (with_channel _) c.number.ensures))

pub returns : goal.returns
returns c = told_all step (front_over is_channel c.in-None.ensures.steps.0) c.loop-element.invariant.2
