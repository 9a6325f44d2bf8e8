-- A taken plan is read as itself, and is the plan that the words are.
use Prim.Native.Nat.{ℕ}
use mathlib.Core.Path.{◌≡◌}
use mathlib.Core.List.{List}
use lib.ListN.{get_or, drop}
use borrow.Author.Tests.{le-leb}
use Rattle.records.specs.RecordsCode.{trigger_size, trigger_at, statement_size, statement_at}
use Rattle.loader.specs.Plan.{PlanOf, Loads}
use Rattle.loader.specs.ScanCode.{plan_at}
use Rattle.loader.specs.LaidCode.{Laid}
use Rattle.loader.specs.declared.Layout.{Layout}
use Rattle.std.specs.Prelude.{Some}
use Rattle.loader.proofs.Exact as exact
use Rattle.engine.proofs.RowsLaws.{rows_all}
use Rattle.engine.specs.EventCode.{plan_by}

pub laid_plan : {ws : List ℕ} {lay : Layout} → Laid ws lay → plan_by ws lay ≡ plan_at ws
unfolding plan_at
laid_plan {ws} {lay} l =
    rw (
      rows_all trigger_size trigger_at 32 (get_or ws 3 0) (drop 6 ws) (le-leb _ _ l.few_triggers),
      rows_all statement_size statement_at 16 (get_or ws 5 0) (drop lay.statements ws) (le-leb _ _ l.few_statements),
      l.filters_at,
      l.statements_at,
    )

-- for callers of the loader
pub taken : {ws : List ℕ} {lay : Layout} → Loads ws (Some lay) → PlanOf ws
taken {ws} l = record { plan = plan_at ws; is_in_range = (exact.taken_plan l).0; words = (exact.taken_plan l).1 }

pub read_is : {ws : List ℕ} {lay : Layout} (l : Loads ws (Some lay)) → plan_by ws lay ≡ (taken l).plan
unfolding taken
read_is l = laid_plan (exact.laid l)
