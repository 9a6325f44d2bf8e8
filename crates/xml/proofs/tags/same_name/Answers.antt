use Rattle.shape.proofs.Steps.{handed_on}
use Rattle.shape.proofs.Tags.{name_step, name_over}
use mathlib.Core.Path.{sym, ◌∙◌}
use native.Mathlib.Omega.{arith}
use Rattle.xml.proofs.tags.same_name.Goals as goal

pub returns-in_err-here : goal.returns-in_err-here
returns-in_err-here c = let l = c.loop-letter in rw (handed_on c.from_residual.result c.from_residual.ensures.1) (record { run = λ k. sym (l.invariant.1 k) ∙ name_step c.args.file.now c.args.name.now k l.letter-index l.here c.loop-letter-test.true c.in_err-here.ensures; from = tt })

pub loop-letter-preserved : goal.loop-letter-preserved
loop-letter-preserved c = let l = c.loop-letter in (omega (arith, l.invariant.0, c.in_ok-here.ensures.past.0), λ k. sym (name_step c.args.file.now c.args.name.now k l.letter-index l.here c.loop-letter-test.true c.in_ok-here.ensures) ∙ l.invariant.1 k)

pub returns : goal.returns
returns c = let l = c.loop-letter in record { run = λ k. sym (l.invariant.1 k) ∙ name_over c.args.file.now c.args.name.now k l.letter-index l.here c.loop-letter-test.false; from = l.invariant.0 }
