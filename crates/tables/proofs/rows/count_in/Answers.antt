-- `tables::rows::count_in` meets its contract.
use Prim.Native.Nat.{◌<◌}
use mathlib.Core.Logic.{inl}
use mathlib.Core.Path.{ap}
use native.Mathlib.Omega.{arith}
use lib.ListN.{length}
use borrow.Author.Rules.{rules}
use borrow.Author.Tests.{tests}
use Rattle.std.proofs.lemmas.Iterator.Consumers.{YieldsList-at, YieldsList-from_filter, count_from_yields_List}
use Rattle.tables.specs.RowsCode.{left}
use Rattle.tables.proofs.RowsTurns.{entries_few, left_is, stands_in, counting}
use Rattle.tables.proofs.rows.count_in.Goals as goal

pub returns : goal.returns
returns c = counting c.args.parent _ c.args.words.now (count_from_yields_List c.filter.result _ c.count.ensures.ran (YieldsList-from_filter _ (stands_in c.args.parent) (YieldsList-at c.filter.ensures.source (left_is _)) c.filter.ensures.closure (λ x r q k. search (rules, tests))))

pub count-requires-clause-fits : goal.count-requires-clause-fits
count-requires-clause-fits c = let w : length c.args.words.now < 18446744073709551616 = search rules in
    let e = ap left c.filter.ensures.source in
    inl (omega (arith, w, ap length e, entries_few c.args.words.now))
