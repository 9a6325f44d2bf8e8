-- `fire_all`. Invariant: the triggers that are left, from here, give what all give from the start.
use Prim.Native.Nat.{◌≤◌, ◌-◌, ◌*◌}
use mathlib.Core.Path.{◌≡◌}
use lib.ListN.{length, drop}
use Rattle.records.specs.RecordsCode.{trigger_size, trigger_at}
use Rattle.loader.specs.ScanCode.{records_of}
use Rattle.engine.specs.RowsCode.{rows_of}
use Rattle.engine.specs.TriggersCode.{fire_all}
use Rattle.engine.proofs.triggers.fire_all.Given as goal

abbrev pub invariant-loop-i : goal.invariant-loop-i
invariant-loop-i l = (l.n ≤ 32) × (l.at ≡ 6 * l.i) × (fire_all (records_of trigger_size trigger_at (l.n - l.i) (drop l.at l.triggers)) l.first l.e l.fired l.i l.s ≡ fire_all (rows_of trigger_size trigger_at 32 l.count l.triggers) l.first l.e l.fired 0 l.initial.s) × (length l.fired ≡ 32)
