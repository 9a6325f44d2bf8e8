-- `xml::after_lt` meets its contract.
use Rattle.shape.proofs.Elements.{lt_comment, lt_close, lt_dead}
use Rattle.shape.proofs.Run.{at_end}
use Rattle.shape.proofs.Steps.{handed_on}
use Rattle.shape.specs.MachineCode.{inside}
use Rattle.shape.specs.ReadsCode.{in_lt}
use mathlib.Core.Path.{sym, ◌∙◌}
use native.Mathlib.Omega.{arith}
use Rattle.xml.proofs.after_lt.Goals as goal

pub returns-in_err-end : goal.returns-in_err-end
returns-in_err-end c = rw (handed_on c.from_residual.result c.from_residual.ensures.1) (record { run = λ x. lt_comment c.args.file.now x c.args.from c.if-from-file.true c.if-b-eq33.true ∙ c.in_err-end.ensures.run (inside x.1 x.0); past = tt })

pub returns-then-b-eq33 : goal.returns-then-b-eq33
returns-then-b-eq33 c = let y = c.in_ok-end.ensures in record { run = λ x. lt_comment c.args.file.now x c.args.from c.if-from-file.true c.if-b-eq33.true ∙ y.run (inside x.1 x.0); past = omega (arith, y.past.0, y.past.1) }

pub returns-then-b-eq47 : goal.returns-then-b-eq47
returns-then-b-eq47 c = record { run = λ x. lt_close c.args.file.now x c.args.from c.if-from-file.true c.if-b-eq47.true; past = omega arith }

pub returns-else-is_start : goal.returns-else-is_start
returns-else-is_start c = record { run = λ x. lt_dead c.args.file.now x c.args.from c.if-from-file.true c.if-b-eq33.false c.if-b-eq47.false (sym c.is_start.ensures ∙ c.if-is_start.false); past = tt }

pub returns-else-from-file : goal.returns-else-from-file
returns-else-from-file c = record { run = λ x. at_end (in_lt x) c.args.file.now c.args.from c.if-from-file.false; past = tt }
