-- `walk::elements::skip` meets its contract.
use Rattle.walk.specs.WalkCode.{skipped}
use Rattle.walk.proofs.elements.skip.Goals as goal

pub returns : goal.returns
unfolding skipped
returns c = c.skip_from.ensures
