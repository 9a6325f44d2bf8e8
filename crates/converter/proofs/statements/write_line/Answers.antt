-- `converter::statements::write_line` meets its contract: three words, behind them the actions, behind those the code.
use mathlib.Core.Path.{refl}
use native.Mathlib.Omega.{arith}
use Rattle.tables.specs.RowsCode.{left}
use Rattle.converter.proofs.Writes.{wrote_long, behind_within, behind_room, behind_next}
use Rattle.converter.proofs.Rows.{actions_in}
use Rattle.converter.proofs.Turns.{line_begun, line_acted, line_ended, line_written}
use Rattle.converter.proofs.statements.write_line.Goals as goal

pub write_actions-n-requires : goal.write_actions-n-requires
write_actions-n-requires c = behind_next (line_begun c.args.post (actions_in (left c.args.entries)) c.args.code.now c.args.out.now c.requires.0 c.write_words-acts_at.ensures) (actions_in (left c.args.entries)) c.args.code.now refl

pub overflow_add-code_at : goal.overflow_add-code_at
overflow_add-code_at c = let b = line_acted c.args.post (actions_in (left c.args.entries)) c.args.code.now c.args.out.now c.requires.0 c.write_words-acts_at.ensures c.write_actions-n.ensures in omega (arith, b.room)

pub offset_bounds-out-code_at : goal.offset_bounds-out-code_at
offset_bounds-out-code_at c = let b = line_acted c.args.post (actions_in (left c.args.entries)) c.args.code.now c.args.out.now c.requires.0 c.write_words-acts_at.ensures c.write_actions-n.ensures in omega (arith, b.room, b.filled.long)

pub slice_bounds-write_words-count : goal.slice_bounds-write_words-count
slice_bounds-write_words-count c = behind_within (line_acted c.args.post (actions_in (left c.args.entries)) c.args.code.now c.args.out.now c.requires.0 c.write_words-acts_at.ensures c.write_actions-n.ensures)

pub slice_bounds-write_words-start : goal.slice_bounds-write_words-start
slice_bounds-write_words-start c = behind_within (line_acted c.args.post (actions_in (left c.args.entries)) c.args.code.now c.args.out.now c.requires.0 c.write_words-acts_at.ensures c.write_actions-n.ensures)

pub write_words-requires : goal.write_words-requires
write_words-requires c = behind_room (line_acted c.args.post (actions_in (left c.args.entries)) c.args.code.now c.args.out.now c.requires.0 c.write_words-acts_at.ensures c.write_actions-n.ensures)

pub overflow_add-end : goal.overflow_add-end
overflow_add-end c = let b = line_ended c.args.post (actions_in (left c.args.entries)) c.args.code.now c.args.out.now c.requires.0 c.write_words-acts_at.ensures c.write_actions-n.ensures c.write_words.ensures in omega (arith, b.room)

pub overflow_cast-out : goal.overflow_cast-out
overflow_cast-out c = let b = line_acted c.args.post (actions_in (left c.args.entries)) c.args.code.now c.args.out.now c.requires.0 c.write_words-acts_at.ensures c.write_actions-n.ensures in omega (arith, b.room, c.requires.1)

pub shape_of-out : goal.shape_of-out
shape_of-out c = let b = line_ended c.args.post (actions_in (left c.args.entries)) c.args.code.now c.args.out.now c.requires.0 c.write_words-acts_at.ensures c.write_actions-n.ensures c.write_words.ensures in wrote_long (line_written c.args.post (actions_in (left c.args.entries)) c.args.code.now c.args.out.now c.requires.0 c.write_words-acts_at.ensures c.write_actions-n.ensures c.write_words.ensures) b.filled.within

pub returns : goal.returns
returns c = line_written c.args.post (actions_in (left c.args.entries)) c.args.code.now c.args.out.now c.requires.0 c.write_words-acts_at.ensures c.write_actions-n.ensures c.write_words.ensures
