-- The entries that are left become those behind the first.
use Rattle.std.proofs.Common.{rules, ◌≡◌, ◌<◌, length}
use mathlib.Core.Path.{refl}
use borrow.Author.Tests.{tests}
use Rattle.tables.proofs.RowsTurns.{entries_front, entries_none, went_on}
use Rattle.tables.proofs.cells.EntriesIterator.next.Goals as goal

pub returns-then-is_empty-clause-steps : goal.returns-then-is_empty-clause-steps
returns-then-is_empty-clause-steps c = let n : length c.args.self.now.words.now ≡ 0 = search (rules, tests) in
    (entries_none _ n, refl)

pub returns-clause-steps : goal.returns-clause-steps
returns-clause-steps c = let n : 0 < length c.args.self.now.words.now = search (rules, tests) in
    (rw c.rest.ensures (entries_front _ n), refl, c.rest.ensures)

pub returns-clause-goes : goal.returns-clause-goes
returns-clause-goes c = let n : 0 < length c.args.self.now.words.now = search (rules, tests) in
    went_on _ _ _ (rw c.rest.ensures (entries_front _ n))
