use native.Mathlib.Omega.{arith}
use Rattle.reading.proofs.Spelling.{spelt_past, all_written}
use Rattle.reading.proofs.spell.Goals as goal

pub returns-then-text-i-clause-bytes : goal.returns-then-text-i-clause-bytes
returns-then-text-i-clause-bytes c = all_written _ _ _ c.loop-n.n (omega arith) c.loop-n.invariant.1 (spelt_past _ _ c.if-text-i.true)
