-- `xml::misc` meets its contract. The loop's invariant: from here the file goes on as from where it began.
use Prim.Native.Nat.{◌-◌}
use Rattle.shape.specs.MachineCode.{idle, at}
use Rattle.shape.specs.ReadsCode.{outer}
use lib.ListN.{length}
use mathlib.Core.Bool.{Bool}
use mathlib.Core.Path.{◌≡◌}
use Rattle.xml.proofs.misc.Given as goal

abbrev pub invariant-loop-here : goal.invariant-loop-here
invariant-loop-here l = (b : Bool) → at (idle (outer b)) l.file l.here ≡ at (idle (outer b)) l.file l.from

abbrev pub decreases-loop-here : goal.decreases-loop-here
decreases-loop-here l = length l.file - l.here
