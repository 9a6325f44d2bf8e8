-- `document::settle` meets its contract.
use mathlib.Core.Path.{sym, ap, ◌∙◌}
use Rattle.std.specs.Prelude.{Err}
use Rattle.std.proofs.lemmas.Result.{err_from_is_err_and}
use Rattle.std.specs.Result.{result_from_control_flow}
use Rattle.document.proofs.Entries.{settle_lacks, settle_holds, settle_refused}
use Rattle.document.proofs.settle.Goals as goal

pub returns-then-walk : goal.returns-then-walk
returns-then-walk c = λ ms s. settle_lacks c.args.walk c.args.root _ (c.branch-end.ensures ∙ ap result_from_control_flow c.in_ok-end.is) c.if-walk.true _ c.refusal.ensures ms

pub returns-in_err-end : goal.returns-in_err-end
returns-in_err-end c = let p = err_from_is_err_and c.from_residual.result c.from_residual.ensures.1 in
    λ ms s. settle_refused c.args.walk c.args.root p.0 (c.branch-end.ensures ∙ ap result_from_control_flow c.in_err-end.is ∙ ap Err (sym p.2)) _ p.1 ms

pub returns : goal.returns
returns c = settle_holds c.args.walk c.args.root _ (c.branch-end.ensures ∙ ap result_from_control_flow c.in_ok-end.is) c.if-walk.false
