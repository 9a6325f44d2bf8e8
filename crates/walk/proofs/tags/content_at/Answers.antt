use mathlib.Core.Path.{sym, ◌∙◌}
use native.Mathlib.Omega.{arith}
use Rattle.walk.proofs.Bounds.{part_from_lem}
use Rattle.walk.proofs.Turns.{content_start, content_again, content_opens, content_ends, content_breaks, content_stops}
use Rattle.walk.proofs.tags.content_at.Goals as goal

pub loop-j-init : goal.loop-j-init
loop-j-init c = content_start _ _ _ c.name_of-n.ensures

pub overflow_add-j : goal.overflow_add-j
overflow_add-j c = let h = part_from_lem c.args.file.now c.loop-j.j _ (sym c.in-Attribute.is ∙ c.part_at.ensures) in omega (arith, h.4)

pub loop-j-smaller : goal.loop-j-smaller
loop-j-smaller c = let h = part_from_lem c.args.file.now c.loop-j.j _ (sym c.in-Attribute.is ∙ c.part_at.ensures) in omega (arith, h.0, h.1, h.2, h.3, h.4)

pub loop-j-preserved : goal.loop-j-preserved
loop-j-preserved c = content_again c.args.file.now _ _ c.loop-j.invariant c.loop-j-test.true _ _ _ _ (sym c.in-Attribute.is ∙ c.part_at.ensures)

pub returns-in-Open : goal.returns-in-Open
returns-in-Open c = content_opens c.args.file.now _ _ c.loop-j.invariant c.loop-j-test.true _ (sym c.in-Open.is ∙ c.part_at.ensures)

pub returns-in-Empty : goal.returns-in-Empty
returns-in-Empty c = content_ends c.args.file.now _ _ c.loop-j.invariant c.loop-j-test.true _ (sym c.in-Empty.is ∙ c.part_at.ensures)

pub returns-in-Broken : goal.returns-in-Broken
returns-in-Broken c = content_breaks c.args.file.now _ _ c.loop-j.invariant c.loop-j-test.true (sym c.in-Broken.is ∙ c.part_at.ensures)

pub returns : goal.returns
returns c = content_stops c.args.file.now _ _ c.loop-j.invariant c.loop-j-test.false
