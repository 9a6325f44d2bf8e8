-- `rise` meets its contract: one law for each kind of word.
use native.Mathlib.Omega.{arith}
use borrow.Author.Tests.{lt-leb, le-leb}
use Rattle.code.proofs.Levels.{rise_push, rise_two, rise_one, rise_none}
use Rattle.code.proofs.rise.Goals as goal

pub returns-then-h-ge1 : goal.returns-then-h-ge1
returns-then-h-ge1 c = rw (rise_one _ _ _ c.in-34.is, le-leb 1 _ c.if-h-ge1.true)

pub returns-else-h-ge1 : goal.returns-else-h-ge1
returns-else-h-ge1 c = rw (rise_one _ _ _ c.in-34.is, lt-leb 1 _ c.if-h-ge1.false)

pub returns-then-w-triggers : goal.returns-then-w-triggers
returns-then-w-triggers c = rw (rise_push c.args.triggers c.args.w c.args.h (omega arith), c.if-w-triggers.true)

pub returns-else-w-triggers : goal.returns-else-w-triggers
returns-else-w-triggers c = rw (rise_push c.args.triggers c.args.w c.args.h (omega arith), c.if-w-triggers.false)

pub returns-then-h-ge2 : goal.returns-then-h-ge2
returns-then-h-ge2 c = rw (rise_two c.args.triggers c.args.w c.args.h (omega arith) (omega arith), le-leb 2 _ c.if-h-ge2.true)

pub returns-else-h-ge2 : goal.returns-else-h-ge2
returns-else-h-ge2 c = rw (rise_two c.args.triggers c.args.w c.args.h (omega arith) (omega arith), lt-leb 2 _ c.if-h-ge2.false)

pub returns-in_default : goal.returns-in_default
returns-in_default c = rw (rise_none _ c.args.w _ (omega arith))
