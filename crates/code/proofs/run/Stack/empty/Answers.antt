use mathlib.Core.Path.{refl}
use Rattle.code.specs.RunCode.{bits_of}
use Rattle.code.proofs.run.Stack.empty.Goals as goal

pub returns : goal.returns
unfolding bits_of
returns c = refl
