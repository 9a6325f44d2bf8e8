-- `document::child_at` meets its contract.
use mathlib.Core.Path.{ap, ◌∙◌}
use native.Mathlib.Omega.{arith}
use Rattle.walk.proofs.Bounds.{name_bounds}
use Rattle.shape.proofs.Slices.{slice_part}
use Rattle.schema.specs.SchemaCode.{kind_under}
use Rattle.document.specs.DocumentCode.{child_at}
use Rattle.document.proofs.child_at.Goals as goal

pub slice_bounds-kind_under-count : goal.slice_bounds-kind_under-count
slice_bounds-kind_under-count c = let h = name_bounds c.args.file.now c.args.j in rw c.name_of-from.ensures h.0

pub slice_bounds-kind_under-start : goal.slice_bounds-kind_under-start
slice_bounds-kind_under-start c = let h = name_bounds c.args.file.now c.args.j in rw c.name_of-from.ensures (omega (arith, h.0, h.1))

pub slice_bounds-kind_under-end : goal.slice_bounds-kind_under-end
slice_bounds-kind_under-end c = let h = name_bounds c.args.file.now c.args.j in rw c.name_of-from.ensures h.1

pub returns : goal.returns
unfolding child_at
returns c = let h = name_bounds c.args.file.now c.args.j in
    (c.kind_under-kind.ensures ∙ rw c.name_of-from.ensures (ap (kind_under c.args.parent) (slice_part c.args.file.now _ _ h.0 h.1)), rw c.name_of-from.ensures)
