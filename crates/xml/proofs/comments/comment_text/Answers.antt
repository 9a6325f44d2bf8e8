use Prim.Native.Nat.{◌+◌}
use Rattle.shape.proofs.Run.{at_end}
use Rattle.shape.proofs.Steps.{handed_on, past_from, com_dash, com_dash_2, com_more, com_close}
use Rattle.shape.specs.MachineCode.{comment, text}
use mathlib.Core.Path.{sym, ◌∙◌}
use native.Mathlib.Omega.{arith}
use Rattle.xml.proofs.comments.comment_text.Goals.{else-next-file-via-then-next-file+else-file-next-eq45, else-next-file-via-else-next-file}
use Rattle.xml.proofs.comments.comment_text.Goals as goal

pub returns-in_err-next : goal.returns-in_err-next
returns-in_err-next c = let y = com_dash {i = c.loop-here.here} c.plain_end-end.ensures c.in_err-next.ensures in rw (handed_on c.from_residual.result c.from_residual.ensures.1) (record { run = λ z. sym (c.loop-here.invariant.1 z) ∙ y.run z; past = tt })

pub returns-then-file-next-eq45 : goal.returns-then-file-next-eq45
returns-then-file-next-eq45 c = let s = c.args.file.now in let n = c.in_ok-next.next in let y = com_dash {i = c.loop-here.here} c.plain_end-end.ensures c.in_ok-next.ensures in record { run = λ z. sym (c.loop-here.invariant.1 z) ∙ y.run z ∙ com_dash_2 s z n c.if-next-file.true c.if-file-next-eq45.true ∙ (com_close c.expect-then-file-next-eq45.ensures).run z; past = past_from s _ (n + 1) c.expect-then-file-next-eq45.result (omega (arith, c.loop-here.invariant.0, y.past.0)) c.expect-then-file-next-eq45.ensures.past }

pub loop-here-smaller : goal.loop-here-smaller
loop-here-smaller c = let y = com_dash {i = c.loop-here.here} c.plain_end-end.ensures c.in_ok-next.ensures in omega (arith, y.past.0, y.past.1)

pub loop-here-preserved : goal.loop-here-preserved
loop-here-preserved c = let y = com_dash {i = c.loop-here.here} c.plain_end-end.ensures c.in_ok-next.ensures in (omega (arith, c.loop-here.invariant.0, y.past.0), λ z. sym (y.run z ∙ com_more c.args.file.now z c.in_ok-next.next (λ h. elim c.else-next-file.branch [ else-next-file-via-then-next-file+else-file-next-eq45 w ↦ w.if-file-next-eq45.false | else-next-file-via-else-next-file w ↦ absurd (omega (arith, h, w.if-next-file.false)) ])) ∙ c.loop-here.invariant.1 z)

pub returns : goal.returns
returns c = record { run = λ z. sym (c.loop-here.invariant.1 z) ∙ at_end (comment text z) c.args.file.now c.loop-here.here c.loop-here-test.false; past = tt }
