-- `tables::cells::Entry::given` meets its contract.
use mathlib.Core.Path.{sym, ◌∙◌}
use Rattle.tables.proofs.cells.Entry.given.Goals as goal

pub returns-then-has_bit : goal.returns-then-has_bit
returns-then-has_bit c = rw (← c.row_word-low.ensures, ← c.row_word-high.ensures, ← c.set_from.ensures, sym c.has_bit.ensures ∙ c.if-has_bit.true, c.value.ensures)

pub returns-else-has_bit : goal.returns-else-has_bit
returns-else-has_bit c = rw (← c.row_word-low.ensures, ← c.row_word-high.ensures, ← c.set_from.ensures, sym c.has_bit.ensures ∙ c.if-has_bit.false)
