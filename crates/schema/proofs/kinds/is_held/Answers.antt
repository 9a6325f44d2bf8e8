-- `schema::kinds::is_held` meets its contract.
use Rattle.std.proofs.Common.{sym, ◌∙◌, arith}
use Rattle.schema.specs.Schema.{one_of, under}
use Rattle.schema.specs.SchemaCode.{kind_count, kind_name, held_in}
use Rattle.lists.specs.BitsCode.{has_bit}
use Rattle.lists.proofs.BitLaws.{everywhere}
use Rattle.schema.proofs.kinds.is_held.Goals as goal

pub returns-then-has_bit : goal.returns-then-has_bit
unfolding held_in
returns-then-has_bit c = rw (sym (everywhere (has_bit _) (λ j. one_of (under (kind_name c.args.q)).carried (kind_name j)) 64 c.carried_in.ensures _ (omega arith)) ∙ sym c.has_bit.ensures ∙ c.if-has_bit.true) c.if-has_bit.true

pub returns-else-has_bit : goal.returns-else-has_bit
unfolding held_in
returns-else-has_bit c = rw (sym (everywhere (has_bit _) (λ j. one_of (under (kind_name c.args.q)).carried (kind_name j)) 64 c.carried_in.ensures _ (omega arith)) ∙ sym c.has_bit.ensures ∙ c.if-has_bit.false)
    (c.has_bit-else-has_bit.ensures ∙ everywhere (has_bit _) (λ j. one_of (under (kind_name c.args.q)).barred (kind_name j)) kind_count c.barred_in.ensures _ c.requires)
