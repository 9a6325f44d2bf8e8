-- `omissions::triggers::is_named` meets its contract.
use borrow.Author.Rules.{rules}
use borrow.Author.Tests.{tests}
use mathlib.Core.Path.{◌∙◌}
use Rattle.std.proofs.lemmas.Iterator.Search.{any_from_yields_List}
use Rattle.tables.proofs.RowsTurns.{left_is}
use Rattle.omissions.specs.TriggersCode.{says_word}
use Rattle.omissions.proofs.TriggersTurns.{any_is}
use Rattle.omissions.proofs.triggers.is_named.Goals as goal

pub returns : goal.returns
returns c = any_from_yields_List (says_word c.args.file.now c.args.word.now) c.any.new.self _ _ c.any.ensures.ran (left_is _) (λ x b q k. search (rules, tests)) ∙ any_is _ _
