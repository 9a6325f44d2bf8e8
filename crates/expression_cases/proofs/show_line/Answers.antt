use native.Mathlib.Omega.{arith}
use lib.ListN.{length-take}
use Rattle.expression_cases.proofs.show_line.Goals as goal

pub slice_bounds-show_case-end : goal.slice_bounds-show_case-end
slice_bounds-show_case-end g c = simp length-take (omega (arith, c.spell-n.ensures.bound))
