-- `schema::kinds::kind_under` meets its contract.
use Rattle.std.proofs.Common.{sym, ◌∙◌}
use Rattle.schema.specs.SchemaCode.{names, kind_name, held_in, kind_under}
use Rattle.lists.proofs.Cases.{by_cases}
use Rattle.schema.proofs.Tables.{some_back, unnumbered}
use Rattle.schema.proofs.kinds.kind_under.Goals as goal

pub returns-in_default : goal.returns-in_default
unfolding kind_under names
returns-in_default c =
    let q = unnumbered _ names (sym c.in_default.is ∙ c.number_in.ensures) in
    by_cases (held_in (kind_name c.args.parent) c.args.name.now) (λ t. rw (t, q)) (λ t. rw t)

pub is_held-requires : goal.is_held-requires
unfolding names
is_held-requires c = (some_back _ _ _ (sym c.in-Some.is ∙ c.number_in.ensures)).1

pub returns-then-is_held : goal.returns-then-is_held
unfolding kind_under
returns-then-is_held c =
    let b = some_back _ _ _ (sym c.in-Some.is ∙ c.number_in.ensures) in
    rw (sym (rw b.2 at c.is_held.ensures) ∙ c.if-is_held.true) b.0

pub returns-else-is_held : goal.returns-else-is_held
unfolding kind_under
returns-else-is_held c =
    let b = some_back _ _ _ (sym c.in-Some.is ∙ c.number_in.ensures) in
    rw (sym (rw b.2 at c.is_held.ensures) ∙ c.if-is_held.false)
