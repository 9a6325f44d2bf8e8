-- `document::move_to` meets its contract.
use mathlib.Core.Path.{refl}
use Rattle.document.specs.DocumentCode.{found}
use Rattle.document.proofs.move_to.Goals as goal

pub returns : goal.returns
unfolding found
returns c = (λ ms. refl, refl, refl)
