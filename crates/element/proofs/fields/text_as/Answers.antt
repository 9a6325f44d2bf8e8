-- `element::fields::text_as` meets its contract.
use mathlib.Core.Path.{ap, sym, ◌∙◌}
use native.Mathlib.Omega.{arith}
use Rattle.shape.specs.Text.{trimmed}
use Rattle.walk.proofs.PiecesLaws.{body_bounds, body_part}
use Rattle.element.proofs.fields.text_as.Goals as goal

pub slice_bounds-core_of-count : goal.slice_bounds-core_of-count
slice_bounds-core_of-count g c = let h = body_bounds c.args.file.now c.args.body _ _ (sym c.text_in.ensures ∙ c.in-Some.is) in omega (arith, h.0)

pub slice_bounds-core_of-start : goal.slice_bounds-core_of-start
slice_bounds-core_of-start g c = let h = body_bounds c.args.file.now c.args.body _ _ (sym c.text_in.ensures ∙ c.in-Some.is) in omega (arith, h.0, h.1)

pub slice_bounds-core_of-end : goal.slice_bounds-core_of-end
slice_bounds-core_of-end g c = let h = body_bounds c.args.file.now c.args.body _ _ (sym c.text_in.ensures ∙ c.in-Some.is) in omega (arith, h.0, h.1)

pub returns-in-Some : goal.returns-in-Some
returns-in-Some g c = (c.core_of.result, c.read.ensures, c.core_of.ensures ∙ ap trimmed (body_part c.args.file.now c.args.body _ _ (sym c.text_in.ensures ∙ c.in-Some.is)))
