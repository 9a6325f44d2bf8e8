-- `schema::kinds::is_barred` meets its contract.
use Rattle.schema.proofs.Laws.{barred_range}
use Rattle.schema.proofs.kinds.is_barred.Goals as goal

pub returns : goal.returns
returns c = barred_range c.args.kind
