-- `document::refused` meets its contract.
use mathlib.Core.Path.{refl}
use Rattle.document.specs.DocumentCode.{found}
use Rattle.document.proofs.refused.Goals as goal

pub returns : goal.returns
unfolding found
returns c = (λ ms. rw c.refusal-first.ensures, refl, rw c.refusal-first.ensures)
