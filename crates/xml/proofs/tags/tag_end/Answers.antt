-- `xml::tags::tag_end` meets its contract.
use Rattle.shape.proofs.Run.{at_end}
use Rattle.shape.proofs.Steps.{handed_on}
use Rattle.shape.proofs.Tags.{tag_open, tag_dead, tag_empty, tag_empty_bad}
use Rattle.shape.specs.MachineCode.{tag, valued}
use native.Mathlib.Omega.{arith}
use Rattle.xml.proofs.tags.tag_end.Goals as goal

pub returns-in_err-end : goal.returns-in_err-end
returns-in_err-end c = rw (handed_on c.from_residual.result c.from_residual.ensures.1) (tag_empty_bad c.if-from-file.true c.if-b-eq47.true c.in_err-end.ensures)

pub returns-then-b-eq47 : goal.returns-then-b-eq47
returns-then-b-eq47 c = tag_empty c.if-from-file.true c.if-b-eq47.true c.in_ok-end.ensures

pub returns-then-b-eq62 : goal.returns-then-b-eq62
returns-then-b-eq62 c = record { run = λ b x. tag_open c.args.file.now x c.args.from c.if-from-file.true c.if-b-eq62.true; past = omega arith }

pub returns-else-b-eq62 : goal.returns-else-b-eq62
returns-else-b-eq62 c = record { run = λ b x. tag_dead c.args.file.now x c.args.from c.if-from-file.true (b c.if-from-file.true) c.if-b-eq47.false c.if-b-eq62.false; past = tt }

pub returns-else-from-file : goal.returns-else-from-file
returns-else-from-file c = record { run = λ b x. at_end (tag valued x.0 x.1) c.args.file.now c.args.from c.if-from-file.false; past = tt }
