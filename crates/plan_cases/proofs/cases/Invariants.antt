-- `cases` touches no byte out of range, and ends: each turn leaves less input.
use Prim.Native.Nat.{◌-◌}
use mathlib.Core.Path.{◌≡◌}
use lib.ListN.{length}
use Rattle.plan_cases.proofs.cases.Given as goal

abbrev pub invariant-loop-i : goal.invariant-loop-i
invariant-loop-i g l = length l.words ≡ length l.initial.words

abbrev pub decreases-loop-i : goal.decreases-loop-i
decreases-loop-i g l = length l.input - l.i
