-- `forget`. Invariant: the first i are forgotten.
use Rattle.std.specs.Prelude.{◌≡◌, length, map, take, drop, ◌++◌}
use Rattle.replay.specs.ReplayCode.{forgotten}
use Rattle.replay.proofs.forget.Given as goal

abbrev pub invariant-loop-i : goal.invariant-loop-i
invariant-loop-i l =
    (length l.initial.fired ≡ 32) × (length l.fired ≡ 32)
    × (l.fired ≡ map forgotten (take l.i l.initial.fired) ++ drop l.i l.initial.fired)
