use Prim.Native.Nat.{◌+◌}
use mathlib.Core.Path.{refl, sym, ◌∙◌}
use native.Mathlib.Omega.{arith}
use Rattle.walk.proofs.Bounds.{closing_inside, end_here, end_plain, end_over}
use Rattle.text.specs.SpansCode.{is_plain}
use Rattle.text.proofs.Spans.{low_of}
use Rattle.walk.proofs.items.remark_end.Goals as goal

pub loop-j-init : goal.loop-j-init
loop-j-init c = refl

pub overflow_add-result : goal.overflow_add-result
overflow_add-result c = let h = closing_inside c.args.file.now c.loop-j.j c.closes.result c.closes.ensures c.if-closes.true in omega arith

pub returns-then-closes : goal.returns-then-closes
returns-then-closes c = sym (end_here _ _ c.loop-j-test.true (sym c.closes.ensures ∙ c.if-closes.true)) ∙ c.loop-j.invariant

pub loop-j-smaller : goal.loop-j-smaller
loop-j-smaller c = let h = low_of is_plain c.args.file.now (c.loop-j.j + 1) c.plain_end-j.result c.plain_end-j.ensures in omega arith

pub loop-j-preserved : goal.loop-j-preserved
loop-j-preserved c = sym (end_plain c.args.file.now c.loop-j.j c.plain_end-j.result c.loop-j-test.true (sym c.closes.ensures ∙ c.if-closes.false) c.plain_end-j.ensures) ∙ c.loop-j.invariant

pub returns : goal.returns
returns c = sym (end_over _ _ c.loop-j-test.false) ∙ c.loop-j.invariant
