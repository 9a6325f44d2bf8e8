-- `schema::attributes::attribute_in` meets its contract.
use Rattle.std.proofs.Common.{sym, ◌∙◌}
use Rattle.schema.proofs.Laws.{none_known, marked, unmarked}
use Rattle.schema.proofs.attributes.attribute_in.Goals as goal

pub returns-in_err-a : goal.returns-in_err-a
returns-in_err-a c = c.from_residual.ensures ∙ none_known _ _ (sym c.in_err-a.was ∙ c.number_in.ensures)

pub returns-then-has_bit : goal.returns-then-has_bit
returns-then-has_bit c =
    marked _ _ _ _ c.all_of.ensures.0 (sym c.in_ok-a.was ∙ c.number_in.ensures) (sym c.has_bit.ensures ∙ c.if-has_bit.true)

pub returns-else-has_bit : goal.returns-else-has_bit
returns-else-has_bit c =
    unmarked _ _ _ _ c.all_of.ensures.0 (sym c.in_ok-a.was ∙ c.number_in.ensures) (sym c.has_bit.ensures ∙ c.if-has_bit.false)
