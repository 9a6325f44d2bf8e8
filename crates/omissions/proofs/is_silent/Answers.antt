-- `omissions::is_silent` meets its contract: the entries are those of the document.
use mathlib.Core.Path.{sym}
use Rattle.converter.proofs.Laws.{end_count, end_within}
use Rattle.omissions.specs.Omissions.{Recordless}
use Rattle.omissions.proofs.Good.{good_meets, bad_none, entries_are, read_there, silent_is}
use Rattle.omissions.proofs.is_silent.Goals as goal

pub returns-then-not-is_good : goal.returns-then-not-is_good
returns-then-not-is_good c = Recordless.refused (bad_none c.args.file.now _ c.is_good.ensures (c.if-not-is_good.true))

pub returns-in_default : goal.returns-in_default
returns-in_default c = let g = good_meets c.args.file.now _ c.is_good.ensures (c.if-not-is_good.false) in absurd (read_there c.args.file.now g.0 g.1 _ _ c.read_index.ensures c.in_default.not-Ok)

pub slice_bounds-entries-end : goal.slice_bounds-entries-end
slice_bounds-entries-end c = end_within c.args.file.now _ _ c.read_index.ensures _ c.in-Ok.is

pub slice_bounds-tell-end : goal.slice_bounds-tell-end
slice_bounds-tell-end c = sym (end_count c.args.file.now _ _ c.read_index.ensures _ c.in-Ok.is)

pub slice_bounds-entries-end-2 : goal.slice_bounds-entries-end-2
slice_bounds-entries-end-2 c = end_within c.args.file.now _ _ c.read_index.ensures _ c.in-Ok.is

pub slice_bounds-has_start-end : goal.slice_bounds-has_start-end
slice_bounds-has_start-end c = sym (end_count c.args.file.now _ _ c.read_index.ensures _ c.in-Ok.is)

pub returns : goal.returns
returns c = let g = good_meets c.args.file.now _ c.is_good.ensures (c.if-not-is_good.false) in silent_is c.args.file.now g.0 g.1 _ (entries_are c.args.file.now g.0 g.1 _ _ c.read_index.ensures _ c.in-Ok.is) _ c.tell-told.ensures _ c.has_start-starts.ensures
