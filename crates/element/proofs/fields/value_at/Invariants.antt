-- `element::fields::value_at` meets its contract. The loop's invariant: what is left of the start tag gives the whole answer.
use Prim.Native.Nat.{◌-◌}
use lib.ListN.{length}
use Rattle.element.specs.ElementCode.{value_in, value_at}
use Rattle.element.proofs.Turns.{TagTurn}
use Rattle.element.proofs.fields.value_at.Given as goal

abbrev pub invariant-loop-j : goal.invariant-loop-j
invariant-loop-j l = TagTurn (value_in l.name l.file) l.file l.j (value_at l.name l.file l.i)

abbrev pub decreases-loop-j : goal.decreases-loop-j
decreases-loop-j l = length l.file - l.j
