-- `tables::rows::mask_from` meets its contract. The loop's invariant: what the CHANNELs that are left add is the whole.
use Prim.Native.Nat.{ℕ}
use mathlib.Core.Path.{◌≡◌}
use Rattle.document.specs.EntriesCode.{Entry}
use Rattle.tables.specs.RowsCode.{folded, front, left, is_channel, with_channel}
use Rattle.tables.proofs.rows.mask_from.Given as goal

abbrev step : ℕ → Entry → ℕ
step m e = with_channel m e.number

abbrev pub invariant-loop-element : goal.invariant-loop-element
invariant-loop-element l =
    (goal.iterator-loop-element).can_next l.element-iterator × (goal.iterator-loop-element).is_finite l.element-iterator
    × (folded step l.mask (front is_channel (left l.element-iterator)) ≡ folded step 0 (front is_channel (left l.entries)))
