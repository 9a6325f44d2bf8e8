-- `xml::tags::attributes` meets its contract. The loop's invariant: from here the tag goes on as from where it began.
use Prim.Native.Nat.{◌-◌, ◌≤◌}
use Rattle.shape.specs.MachineCode.{valued, at}
use Rattle.shape.specs.ReadsCode.{Around, tagged}
use lib.ListN.{length}
use mathlib.Core.Path.{◌≡◌}
use Rattle.xml.proofs.tags.attributes.Given as goal

abbrev pub invariant-loop-here : goal.invariant-loop-here
invariant-loop-here l = (l.from ≤ l.here) × ((x : Around) → at (tagged valued x) l.file l.here ≡ at (tagged valued x) l.file l.from)

abbrev pub decreases-loop-here : goal.decreases-loop-here
decreases-loop-here l = length l.file - l.here
