-- `tables::used_name` meets its contract. The loop's invariant: no name before i is one before it.
use Rattle.tables.proofs.Turns.{Passed}
use Rattle.tables.proofs.used_name.Given as goal

abbrev pub invariant-loop-i : goal.invariant-loop-i
invariant-loop-i l = Passed l.file l.starts l.ends l.places l.i
