-- `xml::element` meets its contract. The cycle's measure: how much deeper elements may nest. The loop's invariant: from here the content goes on as from the element's name.
use Prim.Native.Nat.{ℕ, ◌<◌, ◌-◌, ◌+◌}
use Rattle.shape.specs.MachineCode.{tag, name, at}
use Rattle.shape.specs.ReadsCode.{in_text}
use lib.ListN.{length, get_or}
use lib.Seq.{slice}
use mathlib.Core.List.{List, [], ◌∷◌}
use mathlib.Core.Path.{◌≡◌}
use Rattle.xml.proofs.+element.Given as goal

abbrev pub decreases-element : goal.decreases-element
decreases-element l = l.left

abbrev pub invariant-loop-here : goal.invariant-loop-here
invariant-loop-here l = (l.from < l.here) × ((k : List (List ℕ)) → length k + l.left ≡ 7 → at (in_text (k, slice l.from l.end l.file)) l.file l.here ≡ at (tag name k (get_or l.file l.from 0 ∷ [])) l.file (l.from + 1))

abbrev pub decreases-loop-here : goal.decreases-loop-here
decreases-loop-here l = length l.file - l.here
