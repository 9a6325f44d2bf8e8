-- `evaluate` meets its contract. The loop's invariant: the words that are left, run on the stack now, give what all words give on the empty stack.
use Rattle.code.specs.RunCode.{bits_of}
use Rattle.code.proofs.Stacks.{Stands}
use Rattle.code.proofs.run.evaluate.Given as goal

abbrev pub invariant-loop-w : goal.invariant-loop-w
invariant-loop-w l = Stands l.states l.code l.w-index (bits_of l.s.h l.s.bits)
