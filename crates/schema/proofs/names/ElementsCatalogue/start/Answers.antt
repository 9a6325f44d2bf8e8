use Rattle.std.proofs.Common.{refl, arith, ◌+◌, map, get_or}
use Rattle.text.specs.Texts.{bytes}
use Rattle.schema.specs.SchemaCode.{names, kind_count, in_row, start_of}
use Rattle.lists.specs.BitsCode.{from, upto}
use Rattle.lists.proofs.BitLaws.{everywhere}
use Rattle.schema.proofs.names.ElementsCatalogue.start.Goals as goal

pub returns : goal.returns
unfolding bytes names in_row from
returns c =
    everywhere (λ k. get_or (map (start_of names) (upto (kind_count + 1))) k 0) (start_of names) (kind_count + 1) refl c.args.k (omega (arith, c.requires))
