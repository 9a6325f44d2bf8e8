-- `value_left` meets its contract: one value gives itself, none and more give a fault.
use mathlib.Core.Path.{sym}
use Rattle.code.proofs.Stacks.{one_left, not_one}
use Rattle.code.proofs.run.Stack.value_left.Goals as goal

pub returns-then-self-eq1 : goal.returns-then-self-eq1
returns-then-self-eq1 c = sym (one_left _ _ c.if-self-eq1.true)

pub returns-else-self-eq1 : goal.returns-else-self-eq1
returns-else-self-eq1 c = sym (not_one _ _ c.if-self-eq1.false)
