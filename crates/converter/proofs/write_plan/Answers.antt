-- `converter::write_plan` meets its contract: refused by an expression or for want of room, or written.
use mathlib.Core.Path.{sym}
use native.Mathlib.Omega.{arith}
use lib.Seq.{length-take-le}
use Rattle.shape.proofs.Steps.{handed_on}
use Rattle.converter.proofs.Laws.{copy_room, sheet_room, late_refused, late_short, late_written}
use Rattle.converter.proofs.write_plan.Goals as goal

pub write_sheet-requires : goal.write_sheet-requires
write_sheet-requires c = (c.requires.3, sheet_room c.args.file.now c.args.plan.now _ c.requires.0 _ c.requires.1 c.requires.2, omega arith)

pub returns-in_err-n : goal.returns-in_err-n
returns-in_err-n c = rw (handed_on _ c.from_residual.ensures.1) (late_refused c.args.file.now c.args.plan.now _ c.requires.0 _ c.requires.1 c.requires.2 _ _ _ c.write_sheet.ensures _ c.in_err-n.was)

pub returns-then-plan-n : goal.returns-then-plan-n
returns-then-plan-n c = late_short c.args.file.now c.args.plan.now _ c.requires.0 _ c.requires.1 c.requires.2 _ _ _ c.write_sheet.ensures _ c.in_ok-n.was c.if-plan-n.true

pub slice_bounds-sheet-end : goal.slice_bounds-sheet-end
slice_bounds-sheet-end c = omega (arith, (c.write_sheet.ensures.wrote _ c.in_ok-n.was).2, c.write_sheet.ensures.long)

pub slice_bounds-write_words-end : goal.slice_bounds-write_words-end
slice_bounds-write_words-end c = sym (length-take-le c.in_ok-n.n _ (omega (arith, (c.write_sheet.ensures.wrote _ c.in_ok-n.was).2, c.write_sheet.ensures.long)))

pub write_words-requires : goal.write_words-requires
write_words-requires c = copy_room _ _ c.args.plan.now c.if-plan-n.false

pub returns : goal.returns
returns c = late_written c.args.file.now c.args.plan.now _ c.requires.0 _ c.requires.1 c.requires.2 _ _ _ c.write_sheet.ensures _ c.in_ok-n.was _ _ c.write_words.ensures c.if-plan-n.false
