-- `document::fault_of` meets its contract.
use mathlib.Core.Path.{sym, ◌∙◌}
use Rattle.document.specs.DocumentCode.{first_fault}
use Rattle.document.proofs.fault_of.Goals as goal

pub returns-then-is_barred : goal.returns-then-is_barred
unfolding first_fault
returns-then-is_barred c = rw (sym c.is_barred.ensures ∙ c.if-is_barred.true)

pub returns-then-over : goal.returns-then-over
unfolding first_fault
returns-then-over c = rw (sym c.is_barred.ensures ∙ c.if-is_barred.false, c.if-over.true)

pub returns : goal.returns
unfolding first_fault
returns c = c.verdict_of.ensures ∙ rw (sym c.is_barred.ensures ∙ c.if-is_barred.false, c.if-over.false)
