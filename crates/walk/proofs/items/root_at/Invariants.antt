-- `walk::items::root_at` meets its contract. The loop's invariant: from here the root is found where it is found from behind the declaration.
use Prim.Native.Nat.{◌-◌}
use lib.ListN.{length}
use Rattle.walk.specs.WalkCode.{misc_from, root_at}
use Rattle.walk.proofs.Turns.{Turn}
use Rattle.walk.proofs.items.root_at.Given as goal

abbrev pub invariant-loop-j : goal.invariant-loop-j
invariant-loop-j l = Turn (misc_from l.file) (length l.file) l.j (root_at l.file)

abbrev pub decreases-loop-j : goal.decreases-loop-j
decreases-loop-j l = length l.file - l.j
