-- `xml::tags::quoted` meets its contract.
use Rattle.shape.proofs.Steps.{reads_then, reads_bad}
use Rattle.shape.proofs.Tags.{quote_reads, value_reads}
use Rattle.xml.proofs.tags.quoted.Goals as goal

pub returns-in_err-value : goal.returns-in_err-value
returns-in_err-value c = reads_bad (quote_reads c.blanks_end-quote.ensures c.in_err-value.ensures) c.from_residual.ensures.1

pub returns : goal.returns
returns c = reads_then (quote_reads c.blanks_end-quote.ensures c.in_ok-value.ensures) (value_reads c.value_end-end.ensures c.expect-2.ensures)
