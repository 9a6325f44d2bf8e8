-- `pop` meets its contract: the lowest bit is the top, and the others are what lies below it.
use native.Mathlib.Omega.{arith}
use Rattle.code.proofs.Stacks.{bits_empty, bits_pop}
use Rattle.code.proofs.run.Stack.pop.Goals as goal

pub returns-then-self-lt1 : goal.returns-then-self-lt1
returns-then-self-lt1 c = bits_empty _ _ c.if-self-lt1.true

pub returns : goal.returns
returns c = (omega arith, bits_pop _ _ c.if-self-lt1.false)
