-- `schema::names::key_of` meets its contract.
use Rattle.std.proofs.Common.{arith}
use Rattle.schema.proofs.Tables.{key_none, key_some}
use Rattle.schema.proofs.names.key_of.Goals as goal

pub returns-then-n-eq0 : goal.returns-then-n-eq0
returns-then-n-eq0 c = (key_none _ _ c.if-n-eq0.true, omega arith)

pub returns : goal.returns
returns c = (key_some _ _ _ _ _ c.from-first.ensures c.from-last.ensures c.from-middle.ensures, omega arith)
