-- `converter::parts::write_rows` meets its contract: what the entries so far give is written, the next goes to n.
use Rattle.document.specs.EntriesCode.{entries_in}
use Rattle.converter.specs.PlanCode.{rows_of}
use Rattle.converter.proofs.Writes.{Behind}
use Rattle.tables.specs.RowsCode.{left}
use Rattle.converter.proofs.parts.write_rows.Given as goal

abbrev pub invariant-loop-element : goal.invariant-loop-element
invariant-loop-element g l =
    (goal.iterator-loop-element g).can_next l.element-iterator × (goal.iterator-loop-element g).is_finite l.element-iterator
    × Behind (rows_of g.R.Row.becomes (entries_in l.words)) l.initial.out (rows_of g.R.Row.becomes (left l.element-iterator)) l.n l.out
