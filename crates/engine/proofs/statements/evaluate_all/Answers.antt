use native.Mathlib.Omega.{arith}
use mathlib.Core.Path.{refl, ◌∙◌, sym}
use borrow.Author.Tests.{le-leb, lt-leb}
use Rattle.engine.proofs.StatementsLoops.{evaluate_none, evaluate_start, evaluate_turn, evaluate_fault, evaluate_end}
use Rattle.engine.proofs.statements.evaluate_all.Goals as goal

pub returns-then-count-gt16 : goal.returns-then-count-gt16
returns-then-count-gt16 c = evaluate_none c.args.statements.now c.args.states _ _ (lt-leb _ _ c.if-count-gt16.true)

pub loop-i-init : goal.loop-i-init
loop-i-init c = (omega arith, omega arith, evaluate_start c.args.statements.now c.args.states c.args.count _ (le-leb _ _ c.if-count-gt16.false))

pub returns-in_err-truth : goal.returns-in_err-truth
returns-in_err-truth c = c.from_residual.ensures ∙ evaluate_fault c.args.statements.now c.args.states _ _ c.loop-i.at c.loop-i.truth c.loop-i-test.true c.tail-rest.result.now c.tail-rest.ensures _ refl (sym c.evaluate_one.ensures ∙ c.in_err-truth.was) ∙ c.loop-i.invariant.2

pub loop-i-preserved : goal.loop-i-preserved
loop-i-preserved c = (
  omega arith,
  omega (arith, c.statement_size.ensures.1, c.loop-i.invariant.1),
  evaluate_turn c.args.statements.now c.args.states _ _ c.loop-i.at c.loop-i.truth c.loop-i-test.true c.tail-rest.result.now c.tail-rest.ensures _ c.statement_size.ensures.0 c.in_ok-truth.field-0 (sym c.evaluate_one.ensures ∙ c.in_ok-truth.was) ∙ c.loop-i.invariant.2,
)

pub returns : goal.returns
returns c = evaluate_end c.args.statements.now c.args.states _ c.loop-i.i c.loop-i.at _ c.loop-i-test.false ∙ c.loop-i.invariant.2
