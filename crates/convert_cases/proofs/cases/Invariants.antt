-- `cases` touches no byte out of range, and ends: each turn leaves fewer lines.
use Rattle.std.proofs.Common.{◌-◌, ◌≡◌, length}
use Rattle.convert_cases.proofs.cases.Given as goal

abbrev pub invariant-loop-i : goal.invariant-loop-i
invariant-loop-i g l = length l.plan ≡ length l.initial.plan

abbrev pub decreases-loop-i : goal.decreases-loop-i
decreases-loop-i g l = length l.lines - l.i
