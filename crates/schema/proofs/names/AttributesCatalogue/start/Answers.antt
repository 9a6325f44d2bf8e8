use Rattle.std.proofs.Common.{refl, arith, ◌+◌, map, get_or}
use Rattle.text.specs.Texts.{bytes}
use Rattle.schema.specs.SchemaCode.{attributes, attribute_count, in_row, start_of}
use Rattle.lists.specs.BitsCode.{from, upto}
use Rattle.lists.proofs.BitLaws.{everywhere}
use Rattle.schema.proofs.names.AttributesCatalogue.start.Goals as goal

pub returns : goal.returns
unfolding bytes attributes in_row from
returns c =
    everywhere (λ k. get_or (map (start_of attributes) (upto (attribute_count + 1))) k 0) (start_of attributes) (attribute_count + 1) refl c.args.k (omega (arith, c.requires))
