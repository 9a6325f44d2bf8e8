-- `converter::statements::write_statements` meets its contract: the statements so far are written, the next goes to n.
use Rattle.grammar.specs.TokensCode.{names_in}
use Rattle.document.specs.EntriesCode.{entries_in}
use Rattle.tables.specs.RowsCode.{left}
use Rattle.converter.proofs.Turns.{Lined}
use Rattle.converter.proofs.statements.write_statements.Given as goal

abbrev pub invariant-loop-element : goal.invariant-loop-element
invariant-loop-element l =
    (goal.iterator-loop-element).can_next l.element-iterator × (goal.iterator-loop-element).is_finite l.element-iterator
    × Lined l.names.file.now (names_in l.names.file.now l.names.starts.now l.names.ends.now) (entries_in l.words) (left l.element-iterator) l.initial.out l.n l.out
