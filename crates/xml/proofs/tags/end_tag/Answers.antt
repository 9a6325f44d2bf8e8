-- `xml::tags::end_tag` meets its contract.
use Rattle.shape.proofs.Tags.{end_reads}
use Rattle.xml.proofs.tags.end_tag.Goals as goal

pub returns : goal.returns
returns c = end_reads c.in_ok-next.ensures c.blanks_end-last.ensures c.expect.ensures
