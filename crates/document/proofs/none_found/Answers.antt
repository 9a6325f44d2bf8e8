-- `document::none_found` meets its contract.
use mathlib.Core.Path.{refl}
use Rattle.document.specs.DocumentCode.{found}
use Rattle.document.specs.EntriesCode.{entries_from}
use Rattle.document.proofs.none_found.Goals as goal

pub returns : goal.returns
unfolding found entries_from
returns c = (λ ms. refl, refl, refl)
