-- `xml::declared_text` meets its contract.
use Rattle.shape.proofs.Steps.{reads_then, reads_bad}
use Rattle.shape.proofs.Files.{decl_l, decl_gt, decl_text}
use Rattle.xml.proofs.declared_text.Goals as goal

pub returns-in_err-inner : goal.returns-in_err-inner
returns-in_err-inner c = reads_bad (decl_l c.in_err-inner.ensures) c.from_residual.ensures.1

pub returns-in_err-last : goal.returns-in_err-last
returns-in_err-last c = reads_then (decl_l c.in_ok-inner.ensures) (reads_bad (decl_text c.decl_end-end.ensures c.in_err-last.ensures) c.from_residual-in_err-last.ensures.1)

pub returns : goal.returns
returns c = reads_then (decl_l c.in_ok-inner.ensures) (reads_then (decl_text c.decl_end-end.ensures c.in_ok-last.ensures) (decl_gt c.expect-3.ensures))
