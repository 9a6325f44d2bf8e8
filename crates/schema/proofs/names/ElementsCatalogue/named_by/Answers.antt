use Rattle.text.specs.Texts.{bytes}
use Rattle.schema.specs.SchemaCode.{names, key_of, keys_from}
use Rattle.schema.proofs.names.ElementsCatalogue.named_by.Goals as goal

pub returns : goal.returns
unfolding bytes names key_of keys_from
returns c = c.from.ensures
