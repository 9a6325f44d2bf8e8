-- `converter::convert` meets its contract: refused by its shape or an element, by its tables, or behind them.
use mathlib.Core.Path.{sym, ap, ◌∙◌}
use Rattle.shape.proofs.Steps.{handed_on}
use Rattle.tables.specs.declared.Telling.{Telling}
use Rattle.converter.proofs.Laws.{end_count, end_within, index_refused, plain, few_entries, tables_refused}
use Rattle.converter.proofs.convert.Goals as goal

pub returns-in_err-end : goal.returns-in_err-end
returns-in_err-end c = rw (handed_on _ c.from_residual.ensures.1) (index_refused c.args.file.now _ _ c.read_index.ensures c.args.plan.now _ c.in_err-end.was)

pub slice_bounds-entries-end : goal.slice_bounds-entries-end
slice_bounds-entries-end c = end_within c.args.file.now _ _ c.read_index.ensures _ c.in_ok-end.was

pub slice_bounds-read_tables-end : goal.slice_bounds-read_tables-end
slice_bounds-read_tables-end c = sym (end_count c.args.file.now _ _ c.read_index.ensures _ c.in_ok-end.was)

pub returns-in-Some : goal.returns-in-Some
returns-in-Some c = tables_refused c.args.file.now c.args.plan.now _ (plain c.args.file.now _ _ c.read_index.ensures _ c.in_ok-end.was) _ c.read_tables-telling.ensures _ c.in-Some.is

pub slice_bounds-entries-end-2 : goal.slice_bounds-entries-end-2
slice_bounds-entries-end-2 c = end_within c.args.file.now _ _ c.read_index.ensures _ c.in_ok-end.was

pub slice_bounds-write_plan-end : goal.slice_bounds-write_plan-end
slice_bounds-write_plan-end c = sym (end_count c.args.file.now _ _ c.read_index.ensures _ c.in_ok-end.was)

pub write_plan-requires : goal.write_plan-requires
write_plan-requires c = (plain c.args.file.now _ _ c.read_index.ensures _ c.in_ok-end.was, ap (λ (y : Telling). y.told) c.read_tables-telling.ensures, sym (ap (λ (y : Telling). y.fault) c.read_tables-telling.ensures) ∙ c.in_default.is, few_entries c.args.file.now _ _ c.read_index.ensures _ c.in_ok-end.was)
