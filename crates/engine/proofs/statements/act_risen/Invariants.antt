-- `act_risen`. Invariant: the statements that are left, from the state now, give what all give from the first.
use Prim.Native.Nat.{◌≤◌, ◌-◌, ◌*◌}
use mathlib.Core.Path.{◌≡◌}
use mathlib.Core.List.{map}
use lib.ListN.{drop}
use Rattle.records.specs.RecordsCode.{statement_size, statement_at}
use Rattle.loader.specs.ScanCode.{records_of}
use Rattle.engine.specs.RowsCode.{rows_of}
use Rattle.event_rules.specs.Calls.{statement_of}
use Rattle.engine.specs.StatementsCode.{act_risen}
use Rattle.engine.proofs.statements.act_risen.Given as goal

abbrev pub invariant-loop-i : goal.invariant-loop-i
invariant-loop-i l = (l.count ≤ 16) × (l.at ≤ 8589934600 * l.i) × (act_risen (map statement_of (records_of statement_size statement_at (l.count - l.i) (drop l.at l.statements))) l.u l.was l.truth l.i l.l ≡ act_risen (map statement_of (rows_of statement_size statement_at 16 l.count l.statements)) l.u l.was l.truth 0 l.initial.l)
