-- `converter::statements::compile_text` meets its contract: the text trimmed.
use mathlib.Core.Path.{◌∙◌}
use native.Mathlib.Omega.{arith}
use Rattle.element.proofs.Texts.{trimmed_bounds, trimmed_part}
use Rattle.converter.proofs.statements.compile_text.Goals as goal

pub slice_bounds-compile-count : goal.slice_bounds-compile-count
slice_bounds-compile-count c = let h = trimmed_bounds c.args.text.now _ c.trim-part.ensures in omega (arith, h.0, h.1)

pub slice_bounds-compile-start : goal.slice_bounds-compile-start
slice_bounds-compile-start c = let h = trimmed_bounds c.args.text.now _ c.trim-part.ensures in omega (arith, h.0, h.1)

pub slice_bounds-compile-end : goal.slice_bounds-compile-end
slice_bounds-compile-end c = let h = trimmed_bounds c.args.text.now _ c.trim-part.ensures in omega (arith, h.0, h.1)

pub returns : goal.returns
returns c = c.compile.ensures ∙ rw (trimmed_part c.args.text.now _ c.trim-part.ensures)
