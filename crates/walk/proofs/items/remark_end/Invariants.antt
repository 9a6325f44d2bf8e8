-- `walk::items::remark_end` meets its contract. The loop's invariant: from here the comment ends where it ends from i.
use Prim.Native.Nat.{◌-◌}
use mathlib.Core.Path.{◌≡◌}
use lib.ListN.{length, drop}
use Rattle.walk.specs.WalkCode.{remark_end}
use Rattle.walk.proofs.items.remark_end.Given as goal

abbrev pub invariant-loop-j : goal.invariant-loop-j
invariant-loop-j l = remark_end l.file (drop l.j l.file) l.j ≡ remark_end l.file (drop l.i l.file) l.i

abbrev pub decreases-loop-j : goal.decreases-loop-j
decreases-loop-j l = length l.file - l.j
