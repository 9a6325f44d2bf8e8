-- `tables::rows::action_from` meets its contract.
use mathlib.Core.Path.{sym, ◌∙◌}
use Rattle.text.specs.Texts.{bytes}
use Rattle.schema.specs.SchemaCode.{names, name_in}
use Rattle.tables.proofs.rows.action_from.Goals as goal

pub returns-then-is_same : goal.returns-then-is_same
unfolding names name_in bytes
returns-then-is_same c = rw (sym c.is_same.ensures ∙ c.if-is_same.true)

pub returns-then-is_same-2 : goal.returns-then-is_same-2
unfolding names name_in bytes
returns-then-is_same-2 c = rw (sym c.is_same.ensures ∙ c.if-is_same.false, sym c.is_same-2.ensures ∙ c.if-is_same-2.true)

pub returns : goal.returns
unfolding names name_in bytes
returns c = rw (sym c.is_same.ensures ∙ c.if-is_same.false, sym c.is_same-2.ensures ∙ c.if-is_same-2.false)
