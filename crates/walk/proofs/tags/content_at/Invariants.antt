-- `walk::tags::content_at` meets its contract. The loop's invariant: what is left of the start tag gives the whole answer.
use Prim.Native.Nat.{◌-◌}
use lib.ListN.{length}
use Rattle.walk.specs.WalkCode.{content_from, content_at}
use Rattle.walk.proofs.Turns.{Turn}
use Rattle.walk.proofs.tags.content_at.Given as goal

abbrev pub invariant-loop-j : goal.invariant-loop-j
invariant-loop-j l = Turn (content_from l.file) (length l.file) l.j (content_at l.file l.i)

abbrev pub decreases-loop-j : goal.decreases-loop-j
decreases-loop-j l = length l.file - l.j
