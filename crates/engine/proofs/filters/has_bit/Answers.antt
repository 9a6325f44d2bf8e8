-- `has_bit`: a mask has 32 bits.
use native.Mathlib.Omega.{arith}
use borrow.Author.Tests.{le-ltb}
use Rattle.engine.proofs.FiltersLoops.{no_bit}
use Rattle.engine.proofs.filters.has_bit.Goals as goal

pub returns-else-n-lt32 : goal.returns-else-n-lt32
returns-else-n-lt32 c = rw (le-ltb _ _ c.if-n-lt32.false) (no_bit c.args.mask c.args.n (omega arith) c.if-n-lt32.false)
