-- `converter::statements::compile_at` meets its contract: the text is a part of the file, or is joined.
use mathlib.Core.Path.{sym, ◌∙◌}
use native.Mathlib.Omega.{arith}
use Rattle.walk.proofs.PiecesLaws.{single_bounds, single_part}
use Rattle.converter.specs.PlanCode.{compiled_at}
use Rattle.converter.proofs.statements.compile_at.Goals as goal

pub slice_bounds-compile_text-count : goal.slice_bounds-compile_text-count
slice_bounds-compile_text-count c = let h = single_bounds c.args.names.file.now c.args.place _ _ (sym c.single_text.ensures ∙ c.in-Some.is) in omega (arith, h.0)

pub slice_bounds-compile_text-start : goal.slice_bounds-compile_text-start
slice_bounds-compile_text-start c = let h = single_bounds c.args.names.file.now c.args.place _ _ (sym c.single_text.ensures ∙ c.in-Some.is) in omega (arith, h.0, h.1)

pub slice_bounds-compile_text-end : goal.slice_bounds-compile_text-end
slice_bounds-compile_text-end c = let h = single_bounds c.args.names.file.now c.args.place _ _ (sym c.single_text.ensures ∙ c.in-Some.is) in omega (arith, h.0, h.1)

pub returns-in-Some : goal.returns-in-Some
unfolding compiled_at
returns-in-Some c = c.compile_text.ensures ∙ rw (single_part c.args.names.file.now c.args.place _ _ (sym c.single_text.ensures ∙ c.in-Some.is))
