-- `keep_firings`. Invariant: the first i are kept.
use Rattle.engine.proofs.TriggersLoops.{Keeps}
use Rattle.engine.proofs.triggers.keep_firings.Given as goal

abbrev pub invariant-loop-i : goal.invariant-loop-i
invariant-loop-i l = Keeps l.fires l.u l.initial.fired l.i l.fired
