use Rattle.std.proofs.Common.{rules, sym, ◌∙◌}
use borrow.Author.Tests.{le-ltb}
use Rattle.lists.proofs.BitLaws.{bit_past}
use Rattle.lists.proofs.bits.has_bit.Goals as goal

pub returns-else-k-lt64 : goal.returns-else-k-lt64
returns-else-k-lt64 c = le-ltb _ _ c.if-k-lt64.false ∙ sym (bit_past 64 c.args.set c.args.k (search rules) c.if-k-lt64.false)
