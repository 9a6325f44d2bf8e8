-- `element::gather` meets its contract. The loop's invariant: with what is gathered so far, what is left of the start tag gives the whole answer,
-- and where the tag ends.
use Prim.Native.Nat.{◌-◌}
use lib.ListN.{length}
use Rattle.walk.specs.WalkCode.{content_from, content_behind}
use Rattle.walk.proofs.Turns.{Turn}
use Rattle.element.specs.ElementCode.{rules_for, gathered_behind}
use Rattle.element.proofs.Turns.{TagTurn, gathering}
use Rattle.element.proofs.gather.Given as goal

abbrev pub invariant-loop-j : goal.invariant-loop-j
invariant-loop-j l = TagTurn (gathering (rules_for l.kind) l.file l.gathered) l.file l.j (gathered_behind (rules_for l.kind) l.file l.to) × Turn (content_from l.file) (length l.file) l.j (content_behind l.file l.to)

abbrev pub decreases-loop-j : goal.decreases-loop-j
decreases-loop-j l = length l.file - l.j
