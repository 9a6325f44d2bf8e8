-- `walk::texts::gather_text` meets its contract.
use Rattle.walk.specs.WalkCode.{text_at}
use Rattle.walk.proofs.texts.gather_text.Goals as goal

pub returns : goal.returns
unfolding text_at
returns c = rw (← c.content_at-body.ensures, ← c.inner_start-o.ensures) c.gather_from.ensures
