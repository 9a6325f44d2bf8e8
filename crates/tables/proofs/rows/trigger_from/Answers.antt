-- `tables::rows::trigger_from` meets its contract.
use Rattle.text.specs.Texts.{bytes, same}
use Rattle.schema.specs.SchemaCode.{attributes, position_of}
use Rattle.tables.specs.RowsCode.{trigger_from}
use Rattle.tables.proofs.rows.trigger_from.Goals as goal

pub returns : goal.returns
unfolding trigger_from attributes position_of same bytes
returns c = rw (c.cause_from-cause.ensures, c.from-timeout.ensures, c.value-word.ensures)
