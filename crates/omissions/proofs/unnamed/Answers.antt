-- `omissions::unnamed` meets its contract: the entries are those of the document.
use mathlib.Core.Path.{sym}
use Rattle.converter.proofs.Laws.{end_count, end_within}
use Rattle.omissions.specs.Omissions.{Places}
use Rattle.omissions.proofs.Good.{good_meets, bad_none, entries_are, read_there}
use Rattle.omissions.proofs.TriggersLaws.{unnamed_laid}
use Rattle.omissions.proofs.unnamed.Goals as goal

pub returns-then-not-is_good : goal.returns-then-not-is_good
returns-then-not-is_good c = Places.refused (bad_none c.args.file.now _ c.is_good.ensures (c.if-not-is_good.true))

pub returns-in_default : goal.returns-in_default
returns-in_default c = let g = good_meets c.args.file.now _ c.is_good.ensures (c.if-not-is_good.false) in absurd (read_there c.args.file.now g.0 g.1 _ _ c.read_index.ensures c.in_default.not-Ok)

pub slice_bounds-entries-end : goal.slice_bounds-entries-end
slice_bounds-entries-end c = end_within c.args.file.now _ _ c.read_index.ensures _ c.in-Ok.is

pub slice_bounds-list-end : goal.slice_bounds-list-end
slice_bounds-list-end c = sym (end_count c.args.file.now _ _ c.read_index.ensures _ c.in-Ok.is)

pub returns : goal.returns
returns c = let g = good_meets c.args.file.now _ c.is_good.ensures (c.if-not-is_good.false) in unnamed_laid c.args.file.now g.0 g.1 c.args.places.now _ (entries_are c.args.file.now g.0 g.1 _ _ c.read_index.ensures _ c.in-Ok.is) _ _ c.list.ensures
