-- `schema::kinds::is_in` meets its contract.
use Rattle.std.proofs.Common.{refl, ◌∙◌, arith, false}
use borrow.Author.Tests.{le-ltb}
use Rattle.schema.specs.Schema.{one_of, under}
use Rattle.schema.specs.SchemaCode.{kind_count, names, kind_name}
use Rattle.lists.specs.BitsCode.{has_bit}
use Rattle.lists.proofs.BitLaws.{everywhere}
use Rattle.schema.proofs.Tables.{past_last}
use Rattle.schema.proofs.Laws.{no_name_carried}
use Rattle.schema.proofs.kinds.is_in.Goals as goal

pub returns-then-kind-lt-KINDS : goal.returns-then-kind-lt-KINDS
returns-then-kind-lt-KINDS c = c.has_bit.ensures ∙ everywhere (has_bit _) (λ k. one_of (under (kind_name c.args.parent)).carried (kind_name k)) 64 c.carried_in.ensures _ (omega arith)

pub returns-else-kind-lt-KINDS : goal.returns-else-kind-lt-KINDS
unfolding names
returns-else-kind-lt-KINDS c = le-ltb _ _ c.if-kind-lt-KINDS.false ∙ past_last names kind_count refl (one_of (under (kind_name c.args.parent)).carried) false (no_name_carried (kind_name c.args.parent)) _ c.if-kind-lt-KINDS.false
