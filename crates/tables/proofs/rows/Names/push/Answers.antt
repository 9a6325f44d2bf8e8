-- `tables::rows::Names::push` meets its contract.
use borrow.Author.Tests.{lt-ltb, le-ltb}
use Rattle.tables.specs.RowsCode.{push_name}
use Rattle.tables.proofs.rows.Names.push.Goals as goal

pub returns-then-last-lt32 : goal.returns-then-last-lt32
unfolding push_name
returns-then-last-lt32 c = rw (lt-ltb _ _ c.if-last-lt32.true)

pub returns-else-last-lt32 : goal.returns-else-last-lt32
unfolding push_name
returns-else-last-lt32 c = rw (le-ltb _ _ c.if-last-lt32.false)
