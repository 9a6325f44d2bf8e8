use mathlib.Core.Path.{ap}
use native.Mathlib.Omega.{arith}
use Rattle.document.specs.EntriesCode.{entries_in}
use Rattle.converter.proofs.Writes.{behind_none, behind_within}
use Rattle.converter.proofs.Rows.{rows_next, rows_more, rows_all}
use Rattle.converter.proofs.parts.write_rows.Goals as goal

pub loop-element-init : goal.loop-element-init
loop-element-init g c = (tt, tt, rw c.into_iter-element-iterator.ensures.into_iter_gives (behind_none c.requires))

pub offset_bounds-out-n : goal.offset_bounds-out-n
offset_bounds-out-n g c = let b = behind_within c.loop-element.invariant.2 in omega (arith, b)

pub slice_bounds-write-count : goal.slice_bounds-write-count
slice_bounds-write-count g c = behind_within c.loop-element.invariant.2

pub slice_bounds-write-start : goal.slice_bounds-write-start
slice_bounds-write-start g c = behind_within c.loop-element.invariant.2

pub write-n-requires : goal.write-n-requires
write-n-requires g c = rows_next g.R.Row.becomes c.loop-element.invariant.2 (c.in-Some.ensures.steps.0, ap entries_in c.in-Some.ensures.steps.2)

pub overflow_add-n : goal.overflow_add-n
overflow_add-n g c = let b = rows_more g.R.Row.becomes c.loop-element.invariant.2 (c.in-Some.ensures.steps.0, ap entries_in c.in-Some.ensures.steps.2) c.write-n.ensures in omega (arith, b.room)

pub loop-element-preserved : goal.loop-element-preserved
loop-element-preserved g c = (tt, tt, rows_more g.R.Row.becomes c.loop-element.invariant.2 (c.in-Some.ensures.steps.0, ap entries_in c.in-Some.ensures.steps.2) c.write-n.ensures)

pub returns : goal.returns
returns g c = rows_all g.R.Row.becomes c.loop-element.invariant.2 c.in-None.ensures.steps.0
