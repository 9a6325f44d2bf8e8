-- `converter::write_sheet` meets its contract: the first words, and behind them the three kinds of records.
use mathlib.Core.Path.{refl, ap}
use mathlib.Core.List.{◌++◌}
use native.Mathlib.Omega.{arith}
use lib.ListN.{length}
use Rattle.document.specs.EntriesCode.{entries_in}
use Rattle.tables.specs.TablesCode.{names_at}
use Rattle.converter.specs.PlanCode.{rows_of, trigger_row, filter_row, line_row}
use Rattle.shape.proofs.Steps.{handed_on}
use Rattle.converter.proofs.Writes.{behind_within, behind_room, behind_most, behind_next, or_room, or_long, last_words, last_none}
use Rattle.converter.proofs.Turns.{sheet_room, sheet_begun, sheet_triggers, sheet_filters}
use Rattle.converter.proofs.write_sheet.Goals as goal

pub write_words-triggers_at-requires : goal.write_words-triggers_at-requires
write_words-triggers_at-requires c = omega (arith, sheet_room c.args.file.now c.args.told.now (entries_in c.args.entries.now) c.args.out.now c.requires.1, ap length c.head_of-head.ensures)

pub slice_bounds-write_rows-count : goal.slice_bounds-write_rows-count
slice_bounds-write_rows-count c = behind_within (sheet_begun c.args.file.now c.args.told.now (entries_in c.args.entries.now) c.args.out.now c.requires.1 c.head_of-head.ensures c.write_words-triggers_at.ensures)

pub slice_bounds-write_rows-start : goal.slice_bounds-write_rows-start
slice_bounds-write_rows-start c = behind_within (sheet_begun c.args.file.now c.args.told.now (entries_in c.args.entries.now) c.args.out.now c.requires.1 c.head_of-head.ensures c.write_words-triggers_at.ensures)

pub write_rows-requires : goal.write_rows-requires
write_rows-requires c = behind_next (sheet_begun c.args.file.now c.args.told.now (entries_in c.args.entries.now) c.args.out.now c.requires.1 c.head_of-head.ensures c.write_words-triggers_at.ensures) (rows_of trigger_row (entries_in c.args.entries.now)) (rows_of filter_row (entries_in c.args.entries.now) ++ rows_of (line_row c.args.file.now (names_at c.args.file.now c.args.told.now.names)) (entries_in c.args.entries.now)) refl

pub overflow_add-filters_at : goal.overflow_add-filters_at
overflow_add-filters_at c = let b = sheet_triggers c.args.file.now c.args.told.now (entries_in c.args.entries.now) c.args.out.now c.requires.1 c.head_of-head.ensures c.write_words-triggers_at.ensures c.write_rows.ensures in omega (arith, b.room)

pub offset_bounds-out-filters_at : goal.offset_bounds-out-filters_at
offset_bounds-out-filters_at c = let b = sheet_triggers c.args.file.now c.args.told.now (entries_in c.args.entries.now) c.args.out.now c.requires.1 c.head_of-head.ensures c.write_words-triggers_at.ensures c.write_rows.ensures in omega (arith, b.room, b.filled.long)

pub slice_bounds-write_rows-count-2 : goal.slice_bounds-write_rows-count-2
slice_bounds-write_rows-count-2 c = behind_within (sheet_triggers c.args.file.now c.args.told.now (entries_in c.args.entries.now) c.args.out.now c.requires.1 c.head_of-head.ensures c.write_words-triggers_at.ensures c.write_rows.ensures)

pub slice_bounds-write_rows-start-2 : goal.slice_bounds-write_rows-start-2
slice_bounds-write_rows-start-2 c = behind_within (sheet_triggers c.args.file.now c.args.told.now (entries_in c.args.entries.now) c.args.out.now c.requires.1 c.head_of-head.ensures c.write_words-triggers_at.ensures c.write_rows.ensures)

pub write_rows-requires-2 : goal.write_rows-requires-2
write_rows-requires-2 c = behind_next (sheet_triggers c.args.file.now c.args.told.now (entries_in c.args.entries.now) c.args.out.now c.requires.1 c.head_of-head.ensures c.write_words-triggers_at.ensures c.write_rows.ensures) (rows_of filter_row (entries_in c.args.entries.now)) (rows_of (line_row c.args.file.now (names_at c.args.file.now c.args.told.now.names)) (entries_in c.args.entries.now)) refl

pub overflow_add-lines_at : goal.overflow_add-lines_at
overflow_add-lines_at c = let b = sheet_filters c.args.file.now c.args.told.now (entries_in c.args.entries.now) c.args.out.now c.requires.1 c.head_of-head.ensures c.write_words-triggers_at.ensures c.write_rows.ensures c.write_rows-2.ensures in omega (arith, b.room)

pub offset_bounds-out-lines_at : goal.offset_bounds-out-lines_at
offset_bounds-out-lines_at c = let b = sheet_filters c.args.file.now c.args.told.now (entries_in c.args.entries.now) c.args.out.now c.requires.1 c.head_of-head.ensures c.write_words-triggers_at.ensures c.write_rows.ensures c.write_rows-2.ensures in omega (arith, b.room, b.filled.long)

pub slice_bounds-write_statements-count : goal.slice_bounds-write_statements-count
slice_bounds-write_statements-count c = behind_within (sheet_filters c.args.file.now c.args.told.now (entries_in c.args.entries.now) c.args.out.now c.requires.1 c.head_of-head.ensures c.write_words-triggers_at.ensures c.write_rows.ensures c.write_rows-2.ensures)

pub slice_bounds-write_statements-start : goal.slice_bounds-write_statements-start
slice_bounds-write_statements-start c = behind_within (sheet_filters c.args.file.now c.args.told.now (entries_in c.args.entries.now) c.args.out.now c.requires.1 c.head_of-head.ensures c.write_words-triggers_at.ensures c.write_rows.ensures c.write_rows-2.ensures)

pub write_statements-requires : goal.write_statements-requires
write_statements-requires c = (rw (c.starts.ensures, c.ends.ensures) (behind_room (sheet_filters c.args.file.now c.args.told.now (entries_in c.args.entries.now) c.args.out.now c.requires.1 c.head_of-head.ensures c.write_words-triggers_at.ensures c.write_rows.ensures c.write_rows-2.ensures)), behind_most (sheet_filters c.args.file.now c.args.told.now (entries_in c.args.entries.now) c.args.out.now c.requires.1 c.head_of-head.ensures c.write_words-triggers_at.ensures c.write_rows.ensures c.write_rows-2.ensures) c.requires.2)

pub shape_of-out-in_err-lines : goal.shape_of-out-in_err-lines
shape_of-out-in_err-lines c = or_long (sheet_filters c.args.file.now c.args.told.now (entries_in c.args.entries.now) c.args.out.now c.requires.1 c.head_of-head.ensures c.write_words-triggers_at.ensures c.write_rows.ensures c.write_rows-2.ensures) c.write_statements.ensures

pub returns-in_err-lines : goal.returns-in_err-lines
returns-in_err-lines c = rw (handed_on _ c.from_residual.ensures.1) (last_none (sheet_filters c.args.file.now c.args.told.now (entries_in c.args.entries.now) c.args.out.now c.requires.1 c.head_of-head.ensures c.write_words-triggers_at.ensures c.write_rows.ensures c.write_rows-2.ensures) (rw (c.starts.ensures, c.ends.ensures) at c.write_statements.ensures) _ c.in_err-lines.was)

pub overflow_add-result : goal.overflow_add-result
overflow_add-result c = omega (arith, or_room (sheet_filters c.args.file.now c.args.told.now (entries_in c.args.entries.now) c.args.out.now c.requires.1 c.head_of-head.ensures c.write_words-triggers_at.ensures c.write_rows.ensures c.write_rows-2.ensures) c.write_statements.ensures _ c.in_ok-lines.was, c.requires.2)

pub shape_of-out : goal.shape_of-out
shape_of-out c = or_long (sheet_filters c.args.file.now c.args.told.now (entries_in c.args.entries.now) c.args.out.now c.requires.1 c.head_of-head.ensures c.write_words-triggers_at.ensures c.write_rows.ensures c.write_rows-2.ensures) c.write_statements.ensures

pub returns : goal.returns
returns c = last_words (sheet_filters c.args.file.now c.args.told.now (entries_in c.args.entries.now) c.args.out.now c.requires.1 c.head_of-head.ensures c.write_words-triggers_at.ensures c.write_rows.ensures c.write_rows-2.ensures) (rw (c.starts.ensures, c.ends.ensures) at c.write_statements.ensures) _ c.in_ok-lines.was
