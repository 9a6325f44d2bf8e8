use Rattle.shape.proofs.Steps.{expects_at, expects_other}
use native.Mathlib.Omega.{arith}
use Rattle.xml.proofs.expect.Goals.{else-from-file-via-then-from-file+else-file-from, else-from-file-via-else-from-file}
use Rattle.xml.proofs.expect.Goals as goal

pub returns-then-file-from : goal.returns-then-file-from
returns-then-file-from c = expects_at c.args.b c.args.file.now c.args.from c.if-from-file.true c.if-file-from.true

pub returns : goal.returns
returns c = expects_other c.args.b c.args.file.now c.args.from (elim c.else-from-file.branch [ else-from-file-via-then-from-file+else-file-from w ↦ λ h. w.if-file-from.false | else-from-file-via-else-from-file w ↦ λ h. absurd (omega (arith, h, w.if-from-file.false)) ])
