-- `document::one_more` meets its contract.
use borrow.Author.Tests.{lt-ltb, le-ltb}
use Rattle.document.specs.DocumentCode.{one_more}
use Rattle.document.proofs.one_more.Goals as goal

pub returns-then-count-lt64 : goal.returns-then-count-lt64
unfolding one_more
returns-then-count-lt64 c = rw (lt-ltb _ _ c.if-count-lt64.true)

pub returns-else-count-lt64 : goal.returns-else-count-lt64
unfolding one_more
returns-else-count-lt64 c = rw (le-ltb _ _ c.if-count-lt64.false)
