use Rattle.text.proofs.Spans.{low_of, stop_of}
use Rattle.text.specs.Kinds.{is_blank}
use Rattle.shape.proofs.Files.{outer_lt, outer_bad, outer_blanks, misc_bang}
use Rattle.shape.proofs.Steps.{handed_on}
use Rattle.shape.specs.ReadsCode.{outer}
use borrow.Author.Tests.{ne_eqb}
use mathlib.Core.Path.{sym, ◌∙◌}
use native.Mathlib.Omega.{arith}
use Rattle.xml.proofs.misc.Goals.{then-file-mark-via-then-file-mark, then-file-mark-via-else-file-mark+then-file-mark-ne33}
use Rattle.xml.proofs.misc.Goals as goal

pub returns-then-file-next : goal.returns-then-file-next
returns-then-file-next c = record { run = λ b. sym (c.loop-here.invariant b) ∙ outer_blanks c.args.file.now c.loop-here.here c.blanks_end-next.result b c.blanks_end-next.ensures; found = c.if-file-next.true }

pub returns-then-file-next-ne60 : goal.returns-then-file-next-ne60
returns-then-file-next-ne60 c = let s = c.args.file.now in let n = c.blanks_end-next.result in let e = c.blanks_end-next.ensures in record { run = λ b. sym (c.loop-here.invariant b) ∙ outer_blanks s c.loop-here.here n b e ∙ outer_bad s n c.if-file-next.false b (stop_of is_blank s c.loop-here.here n e c.if-file-next.false) c.if-file-next-ne60.true; found = tt }

pub returns-then-file-mark : goal.returns-then-file-mark
returns-then-file-mark c = let s = c.args.file.now in let n = c.blanks_end-next.result in record { run = λ b. sym (c.loop-here.invariant b) ∙ outer_blanks s c.loop-here.here n b c.blanks_end-next.ensures ∙ outer_lt s n c.if-file-next.false b c.if-file-next-ne60.false; found = λ h. elim c.then-file-mark.branch [ then-file-mark-via-then-file-mark w ↦ absurd (omega (arith, h, w.if-file-mark.true)) | then-file-mark-via-else-file-mark+then-file-mark-ne33 w ↦ ne_eqb _ _ w.if-file-mark-ne33.true ] }

pub returns-in_err-here : goal.returns-in_err-here
returns-in_err-here c = let s = c.args.file.now in let n = c.blanks_end-next.result in rw (handed_on c.from_residual.result c.from_residual.ensures.1) (record { run = λ b. sym (c.loop-here.invariant b) ∙ outer_blanks s c.loop-here.here n b c.blanks_end-next.ensures ∙ misc_bang s n b c.if-file-mark.false c.if-file-next-ne60.false c.if-file-mark-ne33.false ∙ c.in_err-here.ensures.run (outer b); found = tt })

pub loop-here-smaller : goal.loop-here-smaller
loop-here-smaller c = let l = low_of is_blank c.args.file.now c.loop-here.here c.blanks_end-next.result c.blanks_end-next.ensures in omega (arith, l, c.in_ok-here.ensures.past.0, c.in_ok-here.ensures.past.1)

pub loop-here-preserved : goal.loop-here-preserved
loop-here-preserved c = let s = c.args.file.now in let n = c.blanks_end-next.result in λ b. sym (outer_blanks s c.loop-here.here n b c.blanks_end-next.ensures ∙ misc_bang s n b c.if-file-mark.false c.if-file-next-ne60.false c.if-file-mark-ne33.false ∙ c.in_ok-here.ensures.run (outer b)) ∙ c.loop-here.invariant b
