-- `tables::rows::filter_from` meets its contract.
use Rattle.text.specs.Texts.{bytes, same}
use Rattle.schema.specs.SchemaCode.{attributes, position_of}
use Rattle.tables.specs.RowsCode.{filter_from}
use Rattle.tables.proofs.RowsTurns.{given_or}
use Rattle.tables.proofs.rows.filter_from.Goals as goal

pub returns : goal.returns
unfolding filter_from attributes position_of same bytes
returns c = rw (c.unwrap_or-longest.ensures, c.given.ensures, given_or, c.value-wide.ensures, c.value-lower.ensures, c.value-upper.ensures, c.value-shortest.ensures, c.effect_of-effect.ensures, c.kind.ensures)
