-- `code_ok` meets its contract. The loop's invariant: from the words that are left and the height now, the height comes out as from all and 0.
use mathlib.Core.Path.{◌≡◌}
use lib.ListN.{drop}
use Rattle.code.specs.Code.{limit}
use Rattle.code.specs.HeightsCode.{height}
use Rattle.code.proofs.code_ok.Given as goal

abbrev pub invariant-loop-w : goal.invariant-loop-w
invariant-loop-w l = height limit l.triggers l.code 0 ≡ height limit l.triggers (drop l.w-index l.code) l.h
