-- `converter::statements::write_actions` meets its contract: the actions so far are written, the next goes to n.
use Rattle.tables.specs.RowsCode.{left}
use Rattle.converter.proofs.Writes.{Behind}
use Rattle.converter.proofs.Rows.{actions_in}
use Rattle.converter.proofs.statements.write_actions.Given as goal

abbrev pub invariant-loop-element : goal.invariant-loop-element
invariant-loop-element l =
    (goal.iterator-loop-element).can_next l.element-iterator × (goal.iterator-loop-element).is_finite l.element-iterator
    × Behind (actions_in (left l.entries)) l.initial.out (actions_in (left l.element-iterator)) l.n l.out
