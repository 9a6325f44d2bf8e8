-- `document::lacks_some` meets its contract.
use borrow.Author.Rules.{rules}
use mathlib.Core.Path.{sym, ap, ◌∙◌}
use Rattle.document.specs.DocumentCode.{lacks_by, lacks_some}
use Rattle.lists.proofs.BitLaws.{lacks_marked}
use Rattle.document.proofs.lacks_some.Goals as goal

pub returns-in-Once : goal.returns-in-Once
unfolding lacks_some
returns-in-Once c = lacks_marked c.args.seen.kinds _ _ c.carried_in-carried.ensures (search rules) _ c.has_all.ensures ∙ ap (λ t. lacks_by t c.args.kind c.args.seen) (sym (sym c.times_of-limit.ensures ∙ c.in-Once.is))

pub returns-in-OneTo : goal.returns-in-OneTo
unfolding lacks_some
returns-in-OneTo c = ap (λ t. lacks_by t c.args.kind c.args.seen) (sym (sym c.times_of-limit.ensures ∙ c.in-OneTo.is))

pub returns-in-UpTo : goal.returns-in-UpTo
unfolding lacks_some
returns-in-UpTo c = ap (λ t. lacks_by t c.args.kind c.args.seen) (sym (sym c.times_of-limit.ensures ∙ c.in-UpTo.is))
