-- `push` meets its contract: the number has room for one bit more, and it is the top.
use native.Mathlib.Numerals.{add-one}
use Rattle.code.proofs.Stacks.{bits_push}
use Rattle.code.proofs.run.Stack.push.Goals as goal

pub returns : goal.returns
returns c = rw (add-one, c.from.ensures) (bits_push _ _ _)
