-- `schema::names::is_named` meets its contract: the parts of the row are the names.
use Rattle.std.proofs.Common.{ap, ◌∙◌, arith, List, ℕ, length}
use Rattle.text.specs.Texts.{same}
use Rattle.schema.proofs.Tables.{number_fits, row_bounds, row_part}
use Rattle.schema.proofs.names.is_named.Goals as goal

pub overflow_add-k : goal.overflow_add-k
overflow_add-k g c = let h = number_fits _ _ _ g.C.Catalogue.laws in omega (arith, c.requires)

pub slice_bounds-same_text-count : goal.slice_bounds-same_text-count
slice_bounds-same_text-count g c = (row_bounds _ _ _ g.C.Catalogue.laws _ _ _ c.requires c.start.ensures c.start-2.ensures).0

pub slice_bounds-same_text-start : goal.slice_bounds-same_text-start
slice_bounds-same_text-start g c =
    let b = row_bounds _ _ _ g.C.Catalogue.laws _ _ _ c.requires c.start.ensures c.start-2.ensures in
    omega (arith, b.0, ap length c.row.ensures, b.1)

pub slice_bounds-same_text-end : goal.slice_bounds-same_text-end
slice_bounds-same_text-end g c =
    let b = row_bounds _ _ _ g.C.Catalogue.laws _ _ _ c.requires c.start.ensures c.start-2.ensures in
    omega (arith, b.0, ap length c.row.ensures, b.1)

pub returns : goal.returns
returns g c =
    c.same_text.ensures ∙ ap (λ (s : List ℕ). same s c.args.name.now)
    (rw c.row.ensures (row_part _ _ _ g.C.Catalogue.laws _ _ _ c.requires c.start.ensures c.start-2.ensures))
