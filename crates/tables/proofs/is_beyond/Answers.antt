-- `tables::is_beyond` meets its contract.
use mathlib.Core.Path.{sym, ◌∙◌}
use Rattle.text.specs.Texts.{bytes, same}
use Rattle.schema.specs.SchemaCode.{names, name_in, attributes, position_of}
use Rattle.tables.specs.TablesCode.{is_beyond}
use Rattle.tables.proofs.is_beyond.Goals as goal

pub returns-then-is_same : goal.returns-then-is_same
unfolding is_beyond names name_in bytes
returns-then-is_same c = rw (c.number.ensures, ← c.kind-kind.ensures, sym c.is_same.ensures ∙ c.if-is_same.true)

pub returns-then-is_in-startup : goal.returns-then-is_in-startup
unfolding is_beyond names name_in bytes attributes position_of same
returns-then-is_in-startup c = rw (c.value.ensures, ← c.kind-kind.ensures, sym c.is_same.ensures ∙ c.if-is_same.false, ← c.is_in.ensures, ← c.is_same-startup.ensures, c.if-is_in-startup.true)

pub returns : goal.returns
unfolding is_beyond names name_in bytes
returns c = rw (← c.kind-kind.ensures, sym c.is_same.ensures ∙ c.if-is_same.false, ← c.is_in.ensures, ← c.is_same-startup.ensures, c.if-is_in-startup.false)
