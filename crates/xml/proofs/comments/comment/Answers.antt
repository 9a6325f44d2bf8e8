-- `xml::comments::comment` meets its contract.
use Rattle.shape.proofs.Steps.{reads_then, reads_bad, com_bang, com_bang_2}
use Rattle.xml.proofs.comments.comment.Goals as goal

pub returns-in_err-dash : goal.returns-in_err-dash
returns-in_err-dash c = reads_bad (com_bang c.in_err-dash.ensures) c.from_residual.ensures.1

pub returns-in_err-inner : goal.returns-in_err-inner
returns-in_err-inner c = reads_then (com_bang c.in_ok-dash.ensures) (reads_bad (com_bang_2 c.in_err-inner.ensures) c.from_residual-in_err-inner.ensures.1)

pub returns : goal.returns
returns c = reads_then (com_bang c.in_ok-dash.ensures) (reads_then (com_bang_2 c.in_ok-inner.ensures) c.comment_text.ensures)
