-- `evaluate_all`. Invariant: the statements that are left, from here, give what all give from the start.
use Prim.Native.Nat.{◌≤◌, ◌-◌, ◌*◌}
use mathlib.Core.Path.{◌≡◌}
use mathlib.Core.List.{map}
use lib.ListN.{drop}
use Rattle.records.specs.RecordsCode.{statement_size, statement_at}
use Rattle.loader.specs.ScanCode.{records_of}
use Rattle.engine.specs.RowsCode.{rows_of}
use Rattle.event_rules.specs.Calls.{statement_of}
use Rattle.engine.specs.StatementsCode.{evaluate_all}
use Rattle.engine.proofs.statements.evaluate_all.Given as goal

abbrev pub invariant-loop-i : goal.invariant-loop-i
invariant-loop-i l = (l.count ≤ 16) × (l.at ≤ 8589934600 * l.i) × (evaluate_all (map statement_of (records_of statement_size statement_at (l.count - l.i) (drop l.at l.statements))) l.states l.i l.truth ≡ evaluate_all (map statement_of (rows_of statement_size statement_at 16 l.count l.statements)) l.states 0 l.initial.truth)
