-- `tables::rows::text_from` meets its contract. The loop's invariant: what the elements that are left add is the whole.
use Prim.Native.Nat.{ℕ}
use mathlib.Core.Path.{◌≡◌}
use mathlib.Core.Bool.{cond}
use Rattle.element.specs.ElementCode.{is_kind}
use Rattle.document.specs.EntriesCode.{Entry}
use Rattle.tables.specs.RowsCode.{folded, front, left, is_inner}
use Rattle.tables.proofs.rows.text_from.Given as goal

abbrev step : ℕ → Entry → ℕ
step p e = cond (is_kind e.kind "EXPRESSION") e.place p

abbrev pub invariant-loop-element : goal.invariant-loop-element
invariant-loop-element l =
    (goal.iterator-loop-element).can_next l.element-iterator × (goal.iterator-loop-element).is_finite l.element-iterator
    × (folded step l.text (front is_inner (left l.element-iterator)) ≡ folded step 0 (front is_inner (left l.entries)))
