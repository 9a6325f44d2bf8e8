-- `tables::bus_fault` meets its contract.
use borrow.Author.Rules.{rules}
use borrow.Author.Tests.{tests}
use mathlib.Core.Path.{sym, ◌∙◌}
use Rattle.std.proofs.lemmas.Iterator.Search.{find_from_yields_List}
use Rattle.text.specs.Texts.{bytes}
use Rattle.schema.specs.SchemaCode.{names, name_in}
use Rattle.element.specs.ElementCode.{is_kind}
use Rattle.tables.specs.TablesCode.{bus_fault}
use Rattle.tables.proofs.RowsTurns.{left_is}
use Rattle.tables.proofs.Turns.{first_found}
use Rattle.tables.proofs.bus_fault.Goals as goal

pub returns-then-not-lacks_first : goal.returns-then-not-lacks_first
unfolding bus_fault
returns-then-not-lacks_first c = rw (sym c.lacks_first.ensures ∙ c.if-not-lacks_first.true)

pub returns : goal.returns
unfolding bus_fault names name_in bytes
returns c = rw (sym c.lacks_first.ensures ∙ c.if-not-lacks_first.false)
    (first_found (λ e. is_kind e.kind "CAN_BUS") _ c.find.result _ (find_from_yields_List (λ e. is_kind e.kind "CAN_BUS") c.find.new.self _ c.find.result c.find.ensures.ran (left_is _) (λ x b q k. search (rules, tests))) (search (rules, tests)))
