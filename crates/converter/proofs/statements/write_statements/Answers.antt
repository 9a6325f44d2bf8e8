use mathlib.Core.Path.{refl, ap}
use native.Mathlib.Omega.{arith}
use Rattle.grammar.specs.TokensCode.{names_in}
use Rattle.document.specs.EntriesCode.{entries_in}
use Rattle.converter.specs.PlanCode.{line_row}
use Rattle.shape.proofs.Steps.{handed_on}
use Rattle.converter.proofs.Writes.{behind_none, behind_within, behind_most, or_room}
use Rattle.converter.proofs.Rows.{rows_next}
use Rattle.converter.proofs.Turns.{lined_refused, lined_more, lined_all}
use Rattle.converter.proofs.statements.write_statements.Goals as goal

pub loop-element-init : goal.loop-element-init
loop-element-init c = (tt, tt, rw c.into_iter-element-iterator.ensures.into_iter_gives (behind_none c.requires.0, refl))

pub slice_bounds-write_statement-count : goal.slice_bounds-write_statement-count
slice_bounds-write_statement-count c = behind_within c.loop-element.invariant.2.0

pub slice_bounds-write_statement-start : goal.slice_bounds-write_statement-start
slice_bounds-write_statement-start c = behind_within c.loop-element.invariant.2.0

pub write_statement-requires : goal.write_statement-requires
write_statement-requires c = (rows_next (line_row c.args.names.file.now (names_in c.args.names.file.now c.args.names.starts.now c.args.names.ends.now)) c.loop-element.invariant.2.0 (c.in-Some.ensures.steps.0, ap entries_in c.in-Some.ensures.steps.2), behind_most c.loop-element.invariant.2.0 c.requires.1)

pub returns-in_err-n : goal.returns-in_err-n
returns-in_err-n c = rw (handed_on _ c.from_residual.ensures.1) (lined_refused c.args.names.file.now (names_in c.args.names.file.now c.args.names.starts.now c.args.names.ends.now) (entries_in c.args.words.now) c.loop-element.invariant.2 (c.in-Some.ensures.steps.0, ap entries_in c.in-Some.ensures.steps.2) c.write_statement.ensures _ c.in_err-n.was)

pub overflow_add-n : goal.overflow_add-n
overflow_add-n c = omega (arith, or_room c.loop-element.invariant.2.0 c.write_statement.ensures _ c.in_ok-n.was)

pub loop-element-preserved : goal.loop-element-preserved
loop-element-preserved c = (tt, tt, lined_more c.args.names.file.now (names_in c.args.names.file.now c.args.names.starts.now c.args.names.ends.now) (entries_in c.args.words.now) c.loop-element.invariant.2 (c.in-Some.ensures.steps.0, ap entries_in c.in-Some.ensures.steps.2) c.write_statement.ensures _ c.in_ok-n.was)

pub shape_of-out : goal.shape_of-out
shape_of-out c = c.loop-element.invariant.2.0.filled.long

pub returns : goal.returns
returns c = lined_all c.args.names.file.now (names_in c.args.names.file.now c.args.names.starts.now c.args.names.ends.now) (entries_in c.args.words.now) c.loop-element.invariant.2 c.in-None.ensures.steps.0
