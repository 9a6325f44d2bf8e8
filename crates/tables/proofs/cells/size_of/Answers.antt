-- `tables::cells::size_of` meets its contract.
use mathlib.Core.Path.{sym, ◌∙◌}
use native.Mathlib.Omega.{arith}
use Rattle.document.specs.EntriesCode.{row_size}
use Rattle.tables.proofs.cells.size_of.Goals as goal

pub returns-then-is_ruled : goal.returns-then-is_ruled
unfolding row_size
returns-then-is_ruled c = (rw (sym c.is_ruled.ensures ∙ c.if-is_ruled.true), omega arith)

pub returns-else-is_ruled : goal.returns-else-is_ruled
unfolding row_size
returns-else-is_ruled c = (rw (sym c.is_ruled.ensures ∙ c.if-is_ruled.false), omega arith)
