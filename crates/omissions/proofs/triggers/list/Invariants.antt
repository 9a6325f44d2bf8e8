-- `omissions::triggers::list` meets its contract. The loop's invariant: the places of those so far are told.
use Rattle.document.specs.EntriesCode.{entries_in}
use Rattle.tables.specs.RowsCode.{left}
use Rattle.omissions.specs.TriggersCode.{is_unnamed}
use Rattle.omissions.proofs.TriggersTurns.{Laying}
use Rattle.omissions.proofs.triggers.list.Given as goal

abbrev pub invariant-loop-element : goal.invariant-loop-element
invariant-loop-element l =
    (goal.iterator-loop-element).can_next l.element-iterator × (goal.iterator-loop-element).is_finite l.element-iterator
    × Laying (is_unnamed l.file (entries_in l.words)) (entries_in l.words) l.initial.places l.n (left l.element-iterator) l.places
