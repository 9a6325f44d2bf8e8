-- `loader::header_ok` meets its contract.
use mathlib.Core.Path.{refl}
use Rattle.loader.specs.ScanCode.{header_ok}
use Rattle.loader.proofs.header_ok.Goals as goal

pub returns : goal.returns
unfolding header_ok
returns c = refl
