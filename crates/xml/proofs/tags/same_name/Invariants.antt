-- `xml::tags::same_name` meets its contract. The loop's invariant: the letters left must stand here.
use Prim.Native.Nat.{ℕ, ◌≤◌}
use Rattle.shape.specs.MachineCode.{at}
use Rattle.shape.specs.ReadsCode.{closing_tag}
use lib.ListN.{drop}
use mathlib.Core.List.{List}
use mathlib.Core.Path.{◌≡◌}
use Rattle.xml.proofs.tags.same_name.Given as goal

abbrev pub invariant-loop-letter : goal.invariant-loop-letter
invariant-loop-letter l = (l.from ≤ l.here) × ((k : List (List ℕ)) → at (closing_tag (drop l.letter-index l.name) k) l.file l.here ≡ at (closing_tag l.name k) l.file l.from)
