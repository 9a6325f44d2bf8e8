use Rattle.std.proofs.Common.{refl}
use Rattle.text.specs.Texts.{bytes}
use Rattle.schema.specs.SchemaCode.{names, in_row}
use Rattle.schema.proofs.names.ElementsCatalogue.row.Goals as goal

pub returns : goal.returns
unfolding bytes names in_row
returns c = refl
