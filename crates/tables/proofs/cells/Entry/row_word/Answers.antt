-- `tables::cells::Entry::row_word` meets its contract: a row has 27 words, or none.
use mathlib.Core.Path.{sym, ◌∙◌}
use Rattle.tables.proofs.RowsTurns.{row_word, row_none, row_past}
use Rattle.tables.proofs.cells.Entry.row_word.Goals as goal

pub returns-then-j-ge-ROW : goal.returns-then-j-ge-ROW
returns-then-j-ge-ROW c = row_past c.args.self.words.now c.args.j c.if-j-ge-ROW.true

pub returns-then-is_ruled : goal.returns-then-is_ruled
returns-then-is_ruled c = c.word.ensures ∙ row_word c.args.self.words.now _ c.args.j c.kind-kind.ensures (sym c.is_ruled.ensures ∙ c.if-is_ruled.true) c.if-j-ge-ROW.false

pub returns-else-is_ruled : goal.returns-else-is_ruled
returns-else-is_ruled c = row_none c.args.self.words.now _ c.args.j c.kind-kind.ensures (sym c.is_ruled.ensures ∙ c.if-is_ruled.false)
