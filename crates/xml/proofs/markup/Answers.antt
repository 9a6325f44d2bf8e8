-- `xml::markup` meets its contract.
use Rattle.shape.proofs.Elements.{text_reads, mark_then}
use Rattle.shape.proofs.Steps.{handed_on}
use Rattle.xml.proofs.markup.Goals as goal

pub returns-in_err-next : goal.returns-in_err-next
returns-in_err-next c = rw (handed_on c.from_residual.result c.from_residual.ensures.1) (record { run = (text_reads c.text_end-end.ensures c.in_err-next.ensures).run; past = tt })

pub returns : goal.returns
returns c = mark_then (text_reads c.text_end-end.ensures c.in_ok-next.ensures) c.after_lt.ensures
