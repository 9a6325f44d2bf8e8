-- `tables::rows::is_inner` meets its contract.
use Rattle.text.specs.Texts.{bytes}
use Rattle.schema.specs.SchemaCode.{names, name_in}
use Rattle.tables.proofs.rows.is_inner.Goals as goal

pub returns : goal.returns
unfolding names name_in bytes
returns c = rw (c.is_in.ensures, c.is_in-2.ensures)
