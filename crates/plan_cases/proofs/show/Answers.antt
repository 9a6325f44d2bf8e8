-- `show` touches no byte out of range: what was printed lies in the buffer.
use native.Mathlib.Omega.{arith}
use Rattle.printing.proofs.Room.{room}
use Rattle.plan_cases.proofs.show.Goals as goal

pub slice_bounds-text-end : goal.slice_bounds-text-end
slice_bounds-text-end g c = let h = room c.print_answer-n.ensures in omega arith
