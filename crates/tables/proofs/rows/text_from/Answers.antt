use Prim.Native.Nat.{ℕ}
use mathlib.Core.Path.{sym, ◌∙◌}
use mathlib.Core.Bool.{cond}
use Rattle.text.specs.Texts.{bytes}
use Rattle.schema.specs.SchemaCode.{names, name_in}
use Rattle.element.specs.ElementCode.{is_kind}
use Rattle.document.specs.EntriesCode.{Entry}
use Rattle.tables.specs.RowsCode.{is_inner}
use Rattle.tables.proofs.RowsTurns.{front_next, front_stop, front_over, told_more, told_all}
use Rattle.tables.proofs.rows.text_from.Goals as goal

abbrev step : ℕ → Entry → ℕ
step p e = cond (is_kind e.kind "EXPRESSION") e.place p

pub returns-then-not-is_inner : goal.returns-then-not-is_inner
returns-then-not-is_inner c = told_all step (front_stop is_inner c.in-Some.ensures.steps.0 c.kind-kind.ensures (sym c.is_inner.ensures ∙ c.if-not-is_inner.true)) c.loop-element.invariant.2

pub loop-element-preserved-then-is_same : goal.loop-element-preserved-then-is_same
unfolding names name_in bytes
loop-element-preserved-then-is_same c = (tt, tt, told_more step (front_next is_inner c.in-Some.ensures.steps.0 c.kind-kind.ensures (sym c.is_inner.ensures ∙ c.if-not-is_inner.false)) c.loop-element.invariant.2 (rw (← c.kind-kind.ensures, sym c.is_same.ensures ∙ c.if-is_same.true, c.place-text.ensures)))

pub loop-element-preserved : goal.loop-element-preserved
unfolding names name_in bytes
loop-element-preserved c = (tt, tt, told_more step (front_next is_inner c.in-Some.ensures.steps.0 c.kind-kind.ensures (sym c.is_inner.ensures ∙ c.if-not-is_inner.false)) c.loop-element.invariant.2 (rw (← c.kind-kind.ensures, sym c.is_same.ensures ∙ c.if-is_same.false)))

pub returns : goal.returns
returns c = told_all step (front_over is_inner c.in-None.ensures.steps.0) c.loop-element.invariant.2
