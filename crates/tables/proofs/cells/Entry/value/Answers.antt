-- `tables::cells::Entry::value` meets its contract: a row has 27 words, or none.
use Prim.Native.Nat.{◌+◌}
use native.Mathlib.Omega.{arith}
use Rattle.tables.proofs.RowsTurns.{row_past}
use Rattle.tables.proofs.cells.Entry.value.Goals as goal

pub returns-else-attribute-lt-ATTRIBUTES : goal.returns-else-attribute-lt-ATTRIBUTES
returns-else-attribute-lt-ATTRIBUTES c = row_past c.args.self.words.now (c.args.attribute + 2) (omega (arith, c.if-attribute-lt-ATTRIBUTES.false))
