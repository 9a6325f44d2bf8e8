-- `tables::rows::one_more` meets its contract.
use borrow.Author.Tests.{lt-ltb, le-ltb}
use Rattle.tables.proofs.rows.one_more.Goals as goal

pub returns-then-channels-lt5 : goal.returns-then-channels-lt5
returns-then-channels-lt5 c = rw (lt-ltb _ _ c.if-channels-lt5.true)

pub returns-else-channels-lt5 : goal.returns-else-channels-lt5
returns-else-channels-lt5 c = rw (le-ltb _ _ c.if-channels-lt5.false)
