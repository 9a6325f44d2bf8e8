-- `tables::channel_fault` meets its contract.
use borrow.Author.Rules.{rules}
use borrow.Author.Tests.{tests}
use Rattle.std.proofs.lemmas.Iterator.Search.{find_from_yields_List}
use Rattle.tables.specs.TablesCode.{is_beyond, channel_fault}
use Rattle.tables.proofs.RowsTurns.{left_is}
use Rattle.tables.proofs.Turns.{first_found}
use Rattle.tables.proofs.channel_fault.Goals as goal

pub returns : goal.returns
unfolding channel_fault
returns c = first_found (is_beyond c.args.head.channels) _ c.find.result _ (find_from_yields_List (is_beyond c.args.head.channels) c.find.new.self _ c.find.result c.find.ensures.ran (left_is _) (λ x b q k. search (rules, tests))) (search (rules, tests))
