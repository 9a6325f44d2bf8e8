-- `number`. The loop's invariant: what the digits so far spell.
use Rattle.std.proofs.Common.{ℕ, ◌≡◌, ◌≤◌, ◌+◌, ◌*◌, ◌%◌, min, take}
use Rattle.std.specs.List.{fold}
use Rattle.reading.proofs.number.Given as goal

abbrev pub invariant-loop-d : goal.invariant-loop-d
invariant-loop-d l = (l.n ≤ l.most) × (l.n ≡ fold (λ (n d : ℕ). min (n * 10 + d % 16) l.most) 0 (take l.d-index l.digits))
