-- `walk::texts::gather_from` meets its contract. The loop's invariant: the text so far is laid down, and with what is left it is the whole.
use Prim.Native.Nat.{◌-◌}
use lib.ListN.{length}
use Rattle.walk.specs.WalkCode.{text_from}
use Rattle.walk.proofs.Strays.{Gathered}
use Rattle.walk.proofs.texts.gather_from.Given as goal

abbrev pub invariant-loop-j : goal.invariant-loop-j
invariant-loop-j l = Gathered l.file (text_from l.file l.o) l.initial.scratch l.j l.n l.scratch

abbrev pub decreases-loop-j : goal.decreases-loop-j
decreases-loop-j l = length l.file - l.j
