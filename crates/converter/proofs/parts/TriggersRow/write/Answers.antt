-- A trigger's words, or none.
use mathlib.Core.Path.{sym, ap, ◌∙◌}
use Rattle.text.specs.Texts.{bytes}
use Rattle.schema.specs.SchemaCode.{names, name_in}
use Rattle.tables.specs.RowsCode.{is_under}
use Rattle.converter.specs.PlanCode.{trigger_row}
use Rattle.converter.proofs.Writes.{wrote_none}
use Rattle.converter.proofs.parts.TriggersRow.write.Goals as goal

pub write_words-requires : goal.write_words-requires
unfolding trigger_row names name_in bytes
write_words-requires c = rw (c.trigger_words-row.ensures, c.trigger_from-trigger.ensures) (rw (sym (ap (is_under "TRIGGERS") c.kind.ensures) ∙ sym c.is_in.ensures ∙ c.if-is_in.true) at c.requires)

pub returns-then-is_in : goal.returns-then-is_in
unfolding trigger_row names name_in bytes
returns-then-is_in c = rw (← c.trigger_from-trigger.ensures, ← c.trigger_words-row.ensures, ← c.kind.ensures, sym c.is_in.ensures ∙ c.if-is_in.true) c.write_words.ensures

pub returns : goal.returns
unfolding trigger_row names name_in bytes
returns c = rw (← c.kind.ensures, sym c.is_in.ensures ∙ c.if-is_in.false) (wrote_none _)
