-- `main` touches no byte out of range: what was printed lies in the buffer.
use native.Mathlib.Omega.{arith}
use lib.ListN.{length-take}
use Rattle.printing.proofs.Room.{room}
use Rattle.plan.proofs.main.Goals as goal

pub slice_bounds-text-end : goal.slice_bounds-text-end
slice_bounds-text-end c = let h = room c.print_answer-m.ensures in omega arith

pub slice_bounds-write_all-end : goal.slice_bounds-write_all-end
slice_bounds-write_all-end c = let h = room c.print_answer-m.ensures in simp length-take (omega arith)
