-- `element::fields::core_of` meets its contract.
use native.Mathlib.Omega.{arith}
use Rattle.element.proofs.Texts.{trimmed_bounds, trimmed_part}
use Rattle.element.proofs.fields.core_of.Goals as goal

pub slice_bounds-result-count : goal.slice_bounds-result-count
slice_bounds-result-count c = let h = trimmed_bounds c.args.text.now _ c.trim-from.ensures in omega (arith, h.0, h.1)

pub slice_bounds-result-start : goal.slice_bounds-result-start
slice_bounds-result-start c = let h = trimmed_bounds c.args.text.now _ c.trim-from.ensures in omega (arith, h.0, h.1)

pub slice_bounds-result-end : goal.slice_bounds-result-end
slice_bounds-result-end c = let h = trimmed_bounds c.args.text.now _ c.trim-from.ensures in omega (arith, h.0, h.1)

pub returns : goal.returns
returns c = trimmed_part c.args.text.now _ c.trim-from.ensures
