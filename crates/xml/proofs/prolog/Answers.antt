-- `xml::prolog` meets its contract.
use Rattle.shape.proofs.Files.{start_decl, start_none}
use mathlib.Core.Path.{◌∙◌}
use native.Mathlib.Omega.{arith}
use Rattle.xml.proofs.prolog.Goals.{else-file-gt1-via-then-file-gt1+then-file-eq60+else-file-eq63, else-file-gt1-via-then-file-gt1+else-file-eq60, else-file-gt1-via-else-file-gt1}
use Rattle.xml.proofs.prolog.Goals as goal

pub returns-then-file-eq63 : goal.returns-then-file-eq63
returns-then-file-eq63 c = start_decl c.args.file.now c.if-file-gt1.true c.if-file-eq60.true c.if-file-eq63.true ∙ c.declaration.ensures.run tt

pub returns : goal.returns
returns c = start_none c.args.file.now (λ h e f. elim c.else-file-gt1.branch [ else-file-gt1-via-then-file-gt1+then-file-eq60+else-file-eq63 w ↦ w.if-file-eq63.false f | else-file-gt1-via-then-file-gt1+else-file-eq60 w ↦ w.if-file-eq60.false e | else-file-gt1-via-else-file-gt1 w ↦ omega (arith, h, w.if-file-gt1.false) ])
