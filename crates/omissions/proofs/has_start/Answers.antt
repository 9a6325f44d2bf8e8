-- `omissions::has_start` meets its contract.
use borrow.Author.Rules.{rules}
use borrow.Author.Tests.{tests}
use mathlib.Core.Path.{◌∙◌}
use Rattle.std.proofs.lemmas.Iterator.Search.{any_from_yields_List}
use Rattle.text.specs.Texts.{bytes}
use Rattle.schema.specs.SchemaCode.{names, name_in}
use Rattle.element.specs.ElementCode.{is_kind}
use Rattle.tables.proofs.RowsTurns.{left_is}
use Rattle.omissions.proofs.TriggersTurns.{any_is}
use Rattle.omissions.proofs.has_start.Goals as goal

pub returns : goal.returns
unfolding names name_in bytes
returns c = any_from_yields_List (λ e. is_kind e.kind "ACTION_START_LOG") c.any.new.self _ _ c.any.ensures.ran (left_is _) (λ x b q k. search (rules, tests)) ∙ any_is _ _
