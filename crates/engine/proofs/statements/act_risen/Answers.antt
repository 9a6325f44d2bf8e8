use native.Mathlib.Omega.{arith}
use mathlib.Core.Path.{◌∙◌}
use borrow.Author.Tests.{le-leb, lt-leb}
use Rattle.engine.proofs.StatementsLoops.{risen_none, risen_start, risen_turn, risen_end}
use Rattle.engine.proofs.statements.act_risen.Goals as goal

pub returns-then-count-gt16 : goal.returns-then-count-gt16
returns-then-count-gt16 c = rw (le-leb _ _ c.if-u-gt10000000000000000.false) (risen_none c.args.statements.now c.args.u c.args.was c.args.truth c.args.count _ (lt-leb _ _ c.if-count-gt16.true))

pub loop-i-init : goal.loop-i-init
loop-i-init c = (omega arith, omega arith, risen_start c.args.statements.now c.args.u c.args.was c.args.truth c.args.count _ (le-leb _ _ c.if-count-gt16.false))

pub loop-i-preserved : goal.loop-i-preserved
loop-i-preserved c = (
  omega arith,
  omega (arith, c.statement_size-at.ensures.1, c.loop-i.invariant.1),
  risen_turn c.args.statements.now c.args.u c.args.was c.args.truth _ _ c.loop-i.at _ c.loop-i-test.true c.tail-rest.result.now c.tail-rest.ensures _ c.statement_size-at.ensures.0 _ c.act_statement-l.ensures ∙ c.loop-i.invariant.2,
)

pub returns : goal.returns
returns c = rw (le-leb _ _ c.if-u-gt10000000000000000.false) (risen_end c.args.statements.now c.args.u c.args.was c.args.truth _ c.loop-i.i c.loop-i.at _ c.loop-i-test.false ∙ c.loop-i.invariant.2)
