use native.Mathlib.Omega.{arith}
use lib.ListN.{length-take}
use Rattle.shape_cases.proofs.show_case.Goals as goal

pub slice_bounds-show_prefixes-end-then-kind-eq112 : goal.slice_bounds-show_prefixes-end-then-kind-eq112
slice_bounds-show_prefixes-end-then-kind-eq112 g c = simp length-take (omega (arith, c.spell-n.ensures.bound))

pub slice_bounds-show-end-2 : goal.slice_bounds-show-end-2
slice_bounds-show-end-2 g c = simp length-take (omega (arith, c.size_of-size.ensures, c.requires))
