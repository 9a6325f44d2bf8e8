-- `document::close` meets its contract.
use mathlib.Core.Path.{refl}
use Rattle.document.specs.DocumentCode.{closed_walk, found}
use Rattle.document.proofs.close.Goals as goal

pub returns : goal.returns
unfolding closed_walk found
returns c = (λ ms. rw c.lacks_some.ensures, refl, refl, refl)
