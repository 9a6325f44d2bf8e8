-- `walk::elements::skip_from` meets its contract. The depth that is left falls at each call; the loop's invariant: what is left of the element gives the whole answer.
use Prim.Native.Nat.{◌-◌}
use lib.ListN.{length}
use Rattle.walk.proofs.Turns.{SkipTurn}
use Rattle.walk.proofs.elements.+skip_from.Given as goal

abbrev pub decreases-skip_from : goal.decreases-skip_from
decreases-skip_from l = l.left

abbrev pub invariant-loop-j : goal.invariant-loop-j
invariant-loop-j l = SkipTurn l.file l.i l.left l.j

abbrev pub decreases-loop-j : goal.decreases-loop-j
decreases-loop-j l = length l.file - l.j
