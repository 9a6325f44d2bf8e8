-- `walk::tags::name_of` meets its contract.
use Rattle.walk.specs.WalkCode.{name_at}
use Rattle.walk.proofs.tags.name_of.Goals as goal

pub returns : goal.returns
unfolding name_at
returns c = rw (c.name_end-to.ensures, c.ahead-from.ensures)
