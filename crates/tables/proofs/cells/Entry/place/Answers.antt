-- `tables::cells::Entry::place` meets its contract.
use Rattle.document.specs.EntriesCode.{entry_from}
use Rattle.tables.proofs.cells.Entry.place.Goals as goal

pub returns : goal.returns
unfolding entry_from
returns c = c.word.ensures
