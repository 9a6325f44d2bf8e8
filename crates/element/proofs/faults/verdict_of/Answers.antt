-- `element::faults::verdict_of` meets its contract.
use Rattle.element.specs.ElementCode.{verdict}
use Rattle.element.proofs.faults.verdict_of.Goals as goal

pub returns-then-g-lacks : goal.returns-then-g-lacks
unfolding verdict
returns-then-g-lacks c = rw (← c.lacks.ensures, c.if-g-lacks.true)

pub returns-then-g-bounds_crossed : goal.returns-then-g-bounds_crossed
unfolding verdict
returns-then-g-bounds_crossed c = rw (← c.lacks.ensures, c.if-g-lacks.false, ← c.bounds_crossed.ensures, c.if-g-bounds_crossed.true)

pub returns-then-g : goal.returns-then-g
unfolding verdict
returns-then-g c = rw (← c.lacks.ensures, c.if-g-lacks.false, ← c.bounds_crossed.ensures, c.if-g-bounds_crossed.false, c.if-g.true)

pub returns : goal.returns
unfolding verdict
returns c = rw (← c.lacks.ensures, c.if-g-lacks.false, ← c.bounds_crossed.ensures, c.if-g-bounds_crossed.false, c.if-g.false)
