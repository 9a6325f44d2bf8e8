-- `xml::tags::equals` meets its contract.
use Rattle.shape.proofs.Tags.{equals_reads}
use Rattle.xml.proofs.tags.equals.Goals as goal

pub returns : goal.returns
returns c = equals_reads c.name_end-end.ensures c.blanks_end-sign.ensures c.expect.ensures
