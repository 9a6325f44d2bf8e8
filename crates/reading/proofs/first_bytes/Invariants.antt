-- `first_bytes` ends. The loop's invariant: what the reader gave stands at the front.
use Rattle.std.proofs.Common.{length, ◌-◌, ◌≤◌, take}
use Rattle.std.specs.Io.KnownBytes.{Consumes}
use Rattle.reading.proofs.first_bytes.Given as goal

abbrev pub invariant-loop-n : goal.invariant-loop-n
invariant-loop-n g l = (l.n ≤ length l.out) × Consumes (g.R.Read.remaining l.initial.reader) (g.R.Read.remaining l.reader) (take l.n l.out)

abbrev pub decreases-loop-n : goal.decreases-loop-n
decreases-loop-n g l = length l.out - l.n
