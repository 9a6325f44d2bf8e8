-- `tables::rows::tell` meets its contract. The loop's invariant: what the rest of the entries adds is the whole.
use mathlib.Core.Path.{◌≡◌}
use Rattle.document.specs.EntriesCode.{entries_in}
use Rattle.tables.specs.RowsCode.{folded, left, no_head, tell_head, no_names, tell_name}
use Rattle.tables.proofs.rows.tell.Given as goal

abbrev pub invariant-loop-element : goal.invariant-loop-element
invariant-loop-element l =
    (goal.iterator-loop-element).can_next l.element-iterator × (goal.iterator-loop-element).is_finite l.element-iterator
    × (folded tell_head l.head (left l.element-iterator) ≡ folded tell_head no_head (entries_in l.words))
    × (folded (tell_name l.file) l.names (left l.element-iterator) ≡ folded (tell_name l.file) no_names (entries_in l.words))
