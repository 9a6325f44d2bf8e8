use mathlib.Core.Path.{sym, ◌∙◌}
use native.Mathlib.Omega.{arith}
use Rattle.text.specs.Kinds.{is_blank}
use Rattle.text.proofs.Spans.{low_of}
use Rattle.walk.proofs.Bounds.{item_from}
use Rattle.walk.proofs.Turns.{root_start, root_again, root_here, root_over, other_is}
use Rattle.walk.proofs.items.root_at.Goals as goal

pub loop-j-init : goal.loop-j-init
loop-j-init c = root_start _ _ c.prolog_end-j.ensures

pub loop-j-smaller : goal.loop-j-smaller
loop-j-smaller c = let h = item_from c.args.file.now c.blanks_end-k.result _ (sym c.in-Remark.is ∙ c.item_at.ensures) in omega (arith, h.0, h.1, low_of is_blank c.args.file.now c.loop-j.j c.blanks_end-k.result c.blanks_end-k.ensures)

pub loop-j-preserved : goal.loop-j-preserved
loop-j-preserved c = root_again c.args.file.now c.loop-j.j c.blanks_end-k.result c.loop-j.invariant c.blanks_end-k.ensures c.loop-j-test.true _ (sym c.in-Remark.is ∙ c.item_at.ensures)

pub returns-in_default : goal.returns-in_default
returns-in_default c = root_here c.args.file.now c.loop-j.j c.blanks_end-k.result c.loop-j.invariant c.blanks_end-k.ensures c.loop-j-test.true _ c.item_at.ensures (other_is _ c.in_default.not-Remark)

pub returns : goal.returns
returns c = root_over _ _ c.loop-j.invariant c.loop-j-test.false
