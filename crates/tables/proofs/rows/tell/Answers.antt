use mathlib.Core.Path.{sym, ◌∙◌}
use Rattle.tables.specs.RowsCode.{tell_head, tell_name, told}
use Rattle.text.specs.Texts.{bytes}
use Rattle.schema.specs.SchemaCode.{names, name_in}
use Rattle.tables.proofs.RowsTurns.{told_more, told_all}
use Rattle.tables.proofs.rows.tell.Goals as goal

pub loop-element-preserved-then-is_in : goal.loop-element-preserved-then-is_in
unfolding tell_name names name_in bytes
loop-element-preserved-then-is_in c = (tt, tt, told_more tell_head c.in-Some.ensures.steps.0 c.loop-element.invariant.2 c.tell_head-head.ensures, told_more (tell_name c.args.file.now) c.in-Some.ensures.steps.0 c.loop-element.invariant.3 (c.push.ensures ∙ rw (c.value_at.ensures, c.place-place.ensures, ← c.kind.ensures, sym c.is_in.ensures ∙ c.if-is_in.true)))

pub loop-element-preserved : goal.loop-element-preserved
unfolding tell_name names name_in bytes
loop-element-preserved c = (tt, tt, told_more tell_head c.in-Some.ensures.steps.0 c.loop-element.invariant.2 c.tell_head-head.ensures, told_more (tell_name c.args.file.now) c.in-Some.ensures.steps.0 c.loop-element.invariant.3 (rw (← c.kind.ensures, sym c.is_in.ensures ∙ c.if-is_in.false)))

pub returns : goal.returns
unfolding told
returns c = rw (← told_all tell_head c.in-None.ensures.steps.0 c.loop-element.invariant.2, ← told_all (tell_name c.args.file.now) c.in-None.ensures.steps.0 c.loop-element.invariant.3)
