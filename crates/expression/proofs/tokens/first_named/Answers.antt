-- `first_named` meets its contract: both lists cut to one length are the first 32 pairs.
use native.Mathlib.Omega.{arith}
use Rattle.expression.proofs.Pairs.{cut_zip}
use Rattle.expression.proofs.tokens.first_named.Goals as goal

pub returns : goal.returns
returns c = rw (c.first_between.ensures, cut_zip 32 c.args.names.starts.now c.args.names.ends.now {n = c.min-n.result} (omega (arith, c.min-n.ensures, c.min.ensures)))
