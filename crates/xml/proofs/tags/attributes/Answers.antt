use Rattle.text.proofs.Spans.{low_of, stop_of}
use Rattle.text.specs.Kinds.{is_blank}
use Rattle.shape.proofs.Steps.{handed_on}
use Rattle.shape.proofs.Tags.{attrs_more, attrs_stop}
use mathlib.Core.Path.{sym, ◌∙◌}
use native.Mathlib.Omega.{arith}
use Rattle.xml.proofs.tags.attributes.Goals.{then-next-here-via-then-next-here, then-next-here-via-else-next-here+then-file-next, then-next-here-via-else-next-here+else-file-next+then-not-is_start}
use Rattle.xml.proofs.tags.attributes.Goals as goal

pub returns-then-next-here : goal.returns-then-next-here
returns-then-next-here c = let s = c.args.file.now in let e = c.blanks_end-next.ensures in let l = low_of is_blank s c.loop-here.here c.blanks_end-next.result e in record {
  run = λ x. sym (c.loop-here.invariant.1 x) ∙ attrs_stop s c.loop-here.here c.blanks_end-next.result e (λ h n. elim c.then-next-here.branch [ then-next-here-via-then-next-here w ↦ absurd (n w.if-next-here.true) | then-next-here-via-else-next-here+then-file-next w ↦ absurd (omega (arith, h, w.if-file-next.true)) | then-next-here-via-else-next-here+else-file-next+then-not-is_start w ↦ sym w.is_start.ensures ∙ w.if-not-is_start.true ]) x;
  stands = (omega (arith, c.loop-here.invariant.0, l), stop_of is_blank s c.loop-here.here c.blanks_end-next.result e);
}

pub returns-in_err-here : goal.returns-in_err-here
returns-in_err-here c = let y = attrs_more c.args.file.now c.loop-here.here c.blanks_end-next.result _ c.blanks_end-next.ensures c.if-next-here.false c.if-file-next.false (sym c.is_start.ensures ∙ c.if-not-is_start.false) c.in_err-here.ensures in rw (handed_on c.from_residual.result c.from_residual.ensures.1) (record { run = λ x. sym (c.loop-here.invariant.1 x) ∙ y.run x; stands = tt })

pub loop-here-smaller : goal.loop-here-smaller
loop-here-smaller c = let y = attrs_more c.args.file.now c.loop-here.here c.blanks_end-next.result _ c.blanks_end-next.ensures c.if-next-here.false c.if-file-next.false (sym c.is_start.ensures ∙ c.if-not-is_start.false) c.in_ok-here.ensures in omega (arith, y.past.0, y.past.1)

pub loop-here-preserved : goal.loop-here-preserved
loop-here-preserved c = let y = attrs_more c.args.file.now c.loop-here.here c.blanks_end-next.result _ c.blanks_end-next.ensures c.if-next-here.false c.if-file-next.false (sym c.is_start.ensures ∙ c.if-not-is_start.false) c.in_ok-here.ensures in (omega (arith, c.loop-here.invariant.0, y.past.0), λ x. sym (y.run x) ∙ c.loop-here.invariant.1 x)
