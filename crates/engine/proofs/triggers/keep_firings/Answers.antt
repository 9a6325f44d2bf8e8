use Rattle.engine.proofs.TriggersLoops.{keeps_none, keeps_fired, keeps_quiet, keeps_all}
use borrow.Author.Rules.{rules}
use Rattle.engine.proofs.triggers.keep_firings.Goals as goal
use Rattle.engine.proofs.triggers.keep_firings.Goals.{then-fires-i, else-fires-i}

pub loop-i-init : goal.loop-i-init
loop-i-init c = keeps_none _ _ _ (search rules) (search rules)

pub loop-i-preserved : goal.loop-i-preserved
loop-i-preserved c = elim c.if-fires-i.branch [
  | then-fires-i w ↦ rw w.fired-is (keeps_fired _ _ _ _ _ c.loop-i.invariant c.loop-i-test.true w.if-fires-i.true)
  | else-fires-i w ↦ rw w.fired-is (keeps_quiet _ _ _ _ _ c.loop-i.invariant c.loop-i-test.true w.if-fires-i.false)
]

pub returns : goal.returns
returns c = keeps_all _ _ _ _ _ c.loop-i.invariant c.loop-i-test.false
