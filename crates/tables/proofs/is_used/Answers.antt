-- `tables::is_used` meets its contract.
use borrow.Author.Rules.{rules}
use borrow.Author.Tests.{tests}
use mathlib.Core.Path.{◌∙◌}
use lib.ListN.{take, drop}
use Rattle.text.specs.Texts.{same}
use Rattle.std.proofs.lemmas.Iterator.{YieldsList-from_slice, YieldsList-from_zip}
use Rattle.std.proofs.lemmas.Iterator.Consumers.{YieldsList-at}
use Rattle.std.proofs.lemmas.Iterator.Search.{any_from_yields_List}
use Rattle.tables.proofs.Turns.{used_is}
use Rattle.tables.proofs.is_used.Goals as goal

pub returns : goal.returns
returns c = any_from_yields_List (λ p. same (drop c.args.start (take c.args.end c.args.file.now)) (drop p.0 (take p.1 c.args.file.now))) c.any.new.self _ _ c.any.ensures.ran (YieldsList-from_zip (YieldsList-at c.zip.ensures.first (YieldsList-from_slice c.args.starts.now cc)) (YieldsList-from_slice c.args.ends.now cc)) (λ x b q k. search (rules, tests)) ∙ used_is c.args.file.now _ c.args.starts.now c.args.ends.now
