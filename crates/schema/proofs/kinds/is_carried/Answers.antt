-- `schema::kinds::is_carried` meets its contract.
use Rattle.schema.proofs.Laws.{carried_range}
use Rattle.schema.proofs.kinds.is_carried.Goals as goal

pub returns : goal.returns
returns c = carried_range c.args.kind
