-- `converter::counts_of` meets its contract. The loop's invariant: those counted of each kind and those that are left are all.
use Prim.Native.Nat.{◌+◌}
use mathlib.Core.Path.{◌≡◌}
use Rattle.text.specs.Texts.{bytes}
use Rattle.schema.specs.SchemaCode.{kind_of}
use Rattle.document.specs.EntriesCode.{entries_in}
use Rattle.tables.specs.RowsCode.{left, counted}
use Rattle.converter.proofs.counts_of.Given as goal

abbrev pub invariant-loop-element : goal.invariant-loop-element
invariant-loop-element l =
    (goal.iterator-loop-element).can_next l.element-iterator × (goal.iterator-loop-element).is_finite l.element-iterator
    × (l.triggers + counted (kind_of (bytes "TRIGGERS")) (left l.element-iterator) ≡ counted (kind_of (bytes "TRIGGERS")) (entries_in l.entries))
    × (l.filters + counted (kind_of (bytes "FILTERS")) (left l.element-iterator) ≡ counted (kind_of (bytes "FILTERS")) (entries_in l.entries))
    × (l.statements + counted (kind_of (bytes "STATEMENTS")) (left l.element-iterator) ≡ counted (kind_of (bytes "STATEMENTS")) (entries_in l.entries))
