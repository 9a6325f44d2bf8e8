-- `schema::kinds::is_same` meets its contract.
use Rattle.schema.proofs.Laws.{same_kinds}
use Rattle.schema.proofs.kinds.is_same.Goals as goal

pub returns : goal.returns
returns c = same_kinds c.args.a c.args.b
