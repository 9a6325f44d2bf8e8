-- `xml::declaration` meets its contract.
use Rattle.shape.proofs.Steps.{reads_then, reads_bad}
use Rattle.shape.proofs.Files.{decl_x, decl_m}
use Rattle.xml.proofs.declaration.Goals as goal

pub returns-in_err-second : goal.returns-in_err-second
returns-in_err-second c = reads_bad (decl_x c.in_err-second.ensures) c.from_residual.ensures.1

pub returns-in_err-third : goal.returns-in_err-third
returns-in_err-third c = reads_then (decl_x c.in_ok-second.ensures) (reads_bad (decl_m c.in_err-third.ensures) c.from_residual-in_err-third.ensures.1)

pub returns : goal.returns
returns c = reads_then (decl_x c.in_ok-second.ensures) (reads_then (decl_m c.in_ok-third.ensures) c.declared_text.ensures)
