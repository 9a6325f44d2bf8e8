-- `walk::texts::has_text` meets its contract. The loop's invariant: what is left of the element's text has a byte that is no blank exactly if the whole has one.
use Prim.Native.Nat.{◌-◌}
use lib.ListN.{length}
use Rattle.walk.specs.WalkCode.{text_from, stray}
use Rattle.walk.proofs.Strays.{StrayTurn}
use Rattle.walk.proofs.texts.has_text.Given as goal

abbrev pub invariant-loop-j : goal.invariant-loop-j
invariant-loop-j l = StrayTurn l.file (stray (text_from l.file l.o)) l.j

abbrev pub decreases-loop-j : goal.decreases-loop-j
decreases-loop-j l = length l.file - l.j
