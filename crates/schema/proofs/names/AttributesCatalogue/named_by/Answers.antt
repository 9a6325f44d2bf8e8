use Rattle.text.specs.Texts.{bytes}
use Rattle.schema.specs.SchemaCode.{attributes, key_of, keys_from}
use Rattle.schema.proofs.names.AttributesCatalogue.named_by.Goals as goal

pub returns : goal.returns
unfolding bytes attributes key_of keys_from
returns c = c.from.ensures
