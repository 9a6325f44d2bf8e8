-- `replay` meets its contract. The loop's invariant: the answers written, with those of the events left, are those of all events.
use Prim.Native.Nat.{◌*◌}
use Rattle.engine.specs.EventCode.{engine_of}
use Rattle.replay.specs.ReplayCode.{step_loaded}
use Rattle.replay.specs.Replay.{replayed}
use Rattle.replay.proofs.Replays.{Turns}
use Rattle.replay.proofs.replay.Given as goal

abbrev pub invariant-loop-i : goal.invariant-loop-i
invariant-loop-i l = Turns (step_loaded l.words l.loaded) l.n l.events l.initial.out (replayed (step_loaded l.words l.loaded) l.n l.events (engine_of l.initial.s l.initial.fired) l.initial.k) (32 * l.i) l.i (engine_of l.s l.fired) l.k l.out
