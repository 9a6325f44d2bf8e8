-- A filter's words, or none.
use mathlib.Core.Path.{sym, ap, ◌∙◌}
use Rattle.text.specs.Texts.{bytes}
use Rattle.schema.specs.SchemaCode.{names, name_in}
use Rattle.document.specs.EntriesCode.{entries_in}
use Rattle.converter.specs.PlanCode.{filter_row}
use Rattle.converter.proofs.Writes.{wrote_none}
use Rattle.converter.proofs.parts.FiltersRow.write.Goals as goal

pub write_words-requires : goal.write_words-requires
unfolding filter_row names name_in bytes
write_words-requires c = rw c.filter_words-row.ensures (rw (← c.kind.ensures, sym c.is_in.ensures ∙ c.if-is_in.true) at c.requires)

pub returns-then-is_in : goal.returns-then-is_in
unfolding filter_row names name_in bytes
returns-then-is_in c = rw (← ap entries_in c.rest.ensures, ← c.mask_from-mask.ensures, ← c.filter_from-filter.ensures, ← c.filter_words-row.ensures, ← c.kind.ensures, sym c.is_in.ensures ∙ c.if-is_in.true) c.write_words.ensures

pub returns : goal.returns
unfolding filter_row names name_in bytes
returns c = rw (← c.kind.ensures, sym c.is_in.ensures ∙ c.if-is_in.false) (wrote_none _)
