use Rattle.std.proofs.Common.{refl}
use Rattle.text.specs.Texts.{bytes}
use Rattle.schema.specs.SchemaCode.{attributes, in_row}
use Rattle.schema.proofs.names.AttributesCatalogue.row.Goals as goal

pub returns : goal.returns
unfolding bytes attributes in_row
returns c = refl
