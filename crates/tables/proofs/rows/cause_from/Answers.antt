-- `tables::rows::cause_from` meets its contract.
use mathlib.Core.Path.{sym, ◌∙◌}
use Rattle.text.specs.Texts.{bytes, same}
use Rattle.schema.specs.SchemaCode.{names, name_in, attributes, position_of}
use Rattle.tables.specs.RowsCode.{cause_from}
use Rattle.tables.proofs.rows.cause_from.Goals as goal

pub returns-then-is_same : goal.returns-then-is_same
unfolding cause_from names name_in bytes attributes position_of same
returns-then-is_same c = rw (c.value-channel.ensures, c.value-wide.ensures, c.value-lower.ensures, c.value-upper.ensures, ← c.kind-kind.ensures, sym c.is_same.ensures ∙ c.if-is_same.true)

pub returns-then-is_same-2 : goal.returns-then-is_same-2
unfolding cause_from names name_in bytes attributes position_of same
returns-then-is_same-2 c = rw (c.value-channel.ensures, c.value-lower-then-is_same-2.ensures, c.value-upper-then-is_same-2.ensures, ← c.kind-kind.ensures, sym c.is_same.ensures ∙ c.if-is_same.false, sym c.is_same-2.ensures ∙ c.if-is_same-2.true)

pub returns-then-is_same-3 : goal.returns-then-is_same-3
unfolding cause_from names name_in bytes attributes position_of same
returns-then-is_same-3 c = rw (c.value-channel.ensures, ← c.kind-kind.ensures, sym c.is_same.ensures ∙ c.if-is_same.false, sym c.is_same-2.ensures ∙ c.if-is_same-2.false, sym c.is_same-3.ensures ∙ c.if-is_same-3.true)

pub returns : goal.returns
unfolding cause_from names name_in bytes attributes position_of same
returns c = rw (← c.kind-kind.ensures, sym c.is_same.ensures ∙ c.if-is_same.false, sym c.is_same-2.ensures ∙ c.if-is_same-2.false, sym c.is_same-3.ensures ∙ c.if-is_same-3.false)
