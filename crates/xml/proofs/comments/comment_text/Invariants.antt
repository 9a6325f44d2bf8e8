-- `xml::comments::comment_text` meets its contract. The loop's invariant: from here the text goes on as from the comment's start.
use Prim.Native.Nat.{◌-◌, ◌≤◌}
use Rattle.shape.specs.MachineCode.{comment, Zone, text, at}
use lib.ListN.{length}
use mathlib.Core.Path.{◌≡◌}
use Rattle.xml.proofs.comments.comment_text.Given as goal

abbrev pub invariant-loop-here : goal.invariant-loop-here
invariant-loop-here l = (l.from ≤ l.here) × ((z : Zone) → at (comment text z) l.file l.here ≡ at (comment text z) l.file l.from)

abbrev pub decreases-loop-here : goal.decreases-loop-here
decreases-loop-here l = length l.file - l.here
