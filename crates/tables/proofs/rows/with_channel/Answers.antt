-- `tables::rows::with_channel` meets its contract.
use borrow.Author.Tests.{lt-ltb, le-ltb}
use native.Mathlib.Omega.{arith}
use Rattle.lists.proofs.BitLaws.{shl_one}
use Rattle.tables.specs.RowsCode.{with_channel}
use Rattle.tables.proofs.rows.with_channel.Goals as goal

pub returns-then-channel-lt5 : goal.returns-then-channel-lt5
unfolding with_channel
returns-then-channel-lt5 c = rw (lt-ltb _ _ c.if-channel-lt5.true, shl_one 32 c.args.channel (omega (arith, c.if-channel-lt5.true)))

pub returns-else-channel-lt5 : goal.returns-else-channel-lt5
unfolding with_channel
returns-else-channel-lt5 c = rw (le-ltb _ _ c.if-channel-lt5.false)
