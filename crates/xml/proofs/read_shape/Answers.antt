-- `xml::read_shape` meets its contract.
use Rattle.shape.proofs.Viability.{by_run, by_stop}
use Rattle.shape.specs.ReadsCode.{as_shape}
use mathlib.Core.Path.{sym, ap, ◌∙◌}
use Rattle.xml.proofs.read_shape.Goals as goal

pub returns-in_err-body : goal.returns-in_err-body
returns-in_err-body c = by_stop _ _ c.if-file-gt-LONGEST.false c.in_err-body.ensures c.from_residual.ensures.1

pub returns-in_err-past : goal.returns-in_err-past
returns-in_err-past c = by_stop _ _ c.if-file-gt-LONGEST.false (c.in_ok-body.ensures ∙ c.in_err-past.ensures) c.from_residual-in_err-past.ensures.1

pub returns-in_err-rest : goal.returns-in_err-rest
returns-in_err-rest c = by_stop _ _ c.if-file-gt-LONGEST.false (c.in_ok-body.ensures ∙ c.in_ok-past.ensures ∙ c.in_err-rest.ensures) c.from_residual-in_err-rest.ensures.1

pub returns : goal.returns
returns c = by_run _ _ c.if-file-gt-LONGEST.false (sym (ap as_shape (c.in_ok-body.ensures ∙ c.in_ok-past.ensures ∙ c.in_ok-rest.ensures)))
