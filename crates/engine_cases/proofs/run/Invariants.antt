-- `run`. Invariant: the buffers stay as long, the plan fits its own.
use Rattle.std.proofs.Common.{◌-◌, ◌≤◌, ◌≡◌, length}
use Rattle.engine_cases.proofs.run.Given as goal

abbrev pub invariant-loop-at : goal.invariant-loop-at
invariant-loop-at g l =
    (l.at ≤ length l.input)
    × (length l.words ≡ length l.initial.words)
    × (length l.numbers ≡ length l.initial.numbers)
    × (4 ≤ length l.numbers)
    × (length l.numbers ≤ length l.words)
    × (l.s.count ≤ length l.words)

abbrev pub decreases-loop-at : goal.decreases-loop-at
decreases-loop-at g l = length l.input - l.at
