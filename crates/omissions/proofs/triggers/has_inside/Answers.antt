-- `omissions::triggers::has_inside` meets its contract: the text trimmed.
use mathlib.Core.Path.{◌∙◌}
use native.Mathlib.Omega.{arith}
use Rattle.element.proofs.Texts.{trimmed_bounds, trimmed_part}
use Rattle.omissions.proofs.triggers.has_inside.Goals as goal

pub slice_bounds-has_word-count : goal.slice_bounds-has_word-count
slice_bounds-has_word-count c = let h = trimmed_bounds c.args.text.now _ c.trim-part.ensures in omega (arith, h.0, h.1)

pub slice_bounds-has_word-start : goal.slice_bounds-has_word-start
slice_bounds-has_word-start c = let h = trimmed_bounds c.args.text.now _ c.trim-part.ensures in omega (arith, h.0, h.1)

pub slice_bounds-has_word-end : goal.slice_bounds-has_word-end
slice_bounds-has_word-end c = let h = trimmed_bounds c.args.text.now _ c.trim-part.ensures in omega (arith, h.0, h.1)

pub returns : goal.returns
returns c = c.has_word.ensures ∙ rw (trimmed_part c.args.text.now _ c.trim-part.ensures)
