use native.Mathlib.Omega.{arith}
use borrow.Author.Tests.{not-true, not-false}
use mathlib.Core.Path.{sym}
use Rattle.code.specs.Code.{word_of}
use Rattle.grammar.specs.Tree as tree
use Rattle.grammar.proofs.Laws.{onward, as_operand, more_none, more_one, chain_ends, chain_breaks, no_chain, no_operand, and_first, or_first, close_first, a_word, not_operand, not_nothing, in_brackets, too_deep, nothing_inside, closes, not_closed}
use Rattle.expression.proofs.Gets.{is_there, not_there}
use Rattle.expression.proofs.+readers.Goals as goal

pub read_and-returns-in_err-here : goal.read_and-returns-in_err-here
read_and-returns-in_err-here t c = rw c.from_residual.ensures (no_chain tree.and c.args.depth c.read_not.ensures c.in_err-here.was)

pub read_and-loop-out-init : goal.read_and-loop-out-init
read_and-loop-out-init t c = let o = onward c.read_not.ensures c.in_ok-here.was in (o.0, more_none o.1)

pub read_and-returns-in_err-here-2 : goal.read_and-returns-in_err-here-2
unfolding word_of
read_and-returns-in_err-here-2 t c = rw c.from_residual-in_err-here-2.ensures (chain_breaks c.loop-out.invariant.1 c.read_not.ensures c.in_ok-here.was (is_there _ _ _ _ c.get.ensures.lookup.3 (sym c.loop-out-test.ensures)) c.read_not-in-loop-out.ensures c.in_err-here-2.was)

pub read_and-loop-out-preserved : goal.read_and-loop-out-preserved
unfolding word_of
read_and-loop-out-preserved t c = let o = onward c.read_not-in-loop-out.ensures c.in_ok-here-2.was in (
  omega (arith, o),
  more_one c.loop-out.invariant.1 (is_there _ _ _ _ c.get.ensures.lookup.3 (sym c.loop-out-test.ensures)) c.read_not-in-loop-out.ensures c.in_ok-here-2.was c.push.ensures,
)

pub read_and-returns : goal.read_and-returns
unfolding word_of
read_and-returns t c = chain_ends c.loop-out.invariant.1 c.read_not.ensures c.in_ok-here.was (not_there _ _ _ _ c.get.ensures.lookup.3 (sym c.loop-out-test.ensures))

pub read_or-returns-in_err-here : goal.read_or-returns-in_err-here
read_or-returns-in_err-here t c = rw c.from_residual.ensures (no_chain tree.or c.args.depth (as_operand c.args.depth _ c.read_and.ensures) c.in_err-here.was)

pub read_or-loop-out-init : goal.read_or-loop-out-init
read_or-loop-out-init t c = let o = onward c.read_and.ensures c.in_ok-here.was in (o.0, more_none o.1)

pub read_or-returns-in_err-here-2 : goal.read_or-returns-in_err-here-2
unfolding word_of
read_or-returns-in_err-here-2 t c = rw c.from_residual-in_err-here-2.ensures (chain_breaks c.loop-out.invariant.1 (as_operand c.args.depth _ c.read_and.ensures) c.in_ok-here.was (is_there _ _ _ _ c.get.ensures.lookup.3 (sym c.loop-out-test.ensures)) (as_operand c.args.depth _ c.read_and-in-loop-out.ensures) c.in_err-here-2.was)

pub read_or-loop-out-preserved : goal.read_or-loop-out-preserved
unfolding word_of
read_or-loop-out-preserved t c = let o = onward c.read_and-in-loop-out.ensures c.in_ok-here-2.was in (
  omega (arith, o),
  more_one c.loop-out.invariant.1 (is_there _ _ _ _ c.get.ensures.lookup.3 (sym c.loop-out-test.ensures)) (as_operand c.args.depth _ c.read_and-in-loop-out.ensures) c.in_ok-here-2.was c.push.ensures,
)

pub read_or-returns : goal.read_or-returns
unfolding word_of
read_or-returns t c = chain_ends c.loop-out.invariant.1 (as_operand c.args.depth _ c.read_and.ensures) c.in_ok-here.was (not_there _ _ _ _ c.get.ensures.lookup.3 (sym c.loop-out-test.ensures))

pub read_not-returns-in_err-word : goal.read_not-returns-in_err-word
read_not-returns-in_err-word t c = rw c.from_residual.ensures (no_operand c.args.depth c.in_err-word.ensures.lookup.3)

pub read_not-returns-in_err-negated-in-34 : goal.read_not-returns-in_err-negated-in-34
read_not-returns-in_err-negated-in-34 t c = rw c.from_residual-in_err-negated-in-34.ensures (not_nothing c.args.depth (c.in_ok-word.ensures.lookup.3.0, sym (c.in_ok-word.ensures.lookup.3.1 0)) c.in-34.is c.read_not.ensures c.in_err-negated-in-34.was)

pub read_not-returns-in_ok-negated-in-34 : goal.read_not-returns-in_ok-negated-in-34
read_not-returns-in_ok-negated-in-34 t c = not_operand c.args.depth (c.in_ok-word.ensures.lookup.3.0, sym (c.in_ok-word.ensures.lookup.3.1 0)) c.in-34.is c.read_not.ensures c.in_ok-negated-in-34.was c.push.ensures

pub read_not-returns-in-35 : goal.read_not-returns-in-35
read_not-returns-in-35 t c = in_brackets c.args.depth (c.in_ok-word.ensures.lookup.3.0, sym (c.in_ok-word.ensures.lookup.3.1 0)) c.in-35.is c.read_bracket.ensures

pub read_not-returns-in-32 : goal.read_not-returns-in-32
read_not-returns-in-32 t c = and_first c.args.depth (c.in_ok-word.ensures.lookup.3.0, sym (c.in_ok-word.ensures.lookup.3.1 0)) c.in-32.is

pub read_not-returns-in-33 : goal.read_not-returns-in-33
read_not-returns-in-33 t c = or_first c.args.depth (c.in_ok-word.ensures.lookup.3.0, sym (c.in_ok-word.ensures.lookup.3.1 0)) c.in-33.is

pub read_not-returns-in-36 : goal.read_not-returns-in-36
read_not-returns-in-36 t c = close_first c.args.depth (c.in_ok-word.ensures.lookup.3.0, sym (c.in_ok-word.ensures.lookup.3.1 0)) c.in-36.is

pub read_not-returns-in_default : goal.read_not-returns-in_default
read_not-returns-in_default t c = a_word c.args.depth (c.in_ok-word.ensures.lookup.3.0, sym (c.in_ok-word.ensures.lookup.3.1 0)) c.push-in_default.ensures (λ e. omega arith) (λ e. omega arith) (λ e. omega arith) (λ e. omega arith) (λ e. omega arith)

pub read_bracket-returns-in_err-checked_sub : goal.read_bracket-returns-in_err-checked_sub
read_bracket-returns-in_err-checked_sub t c = rw c.from_residual.ensures (too_deep c.args.depth (omega (arith, c.in_err-checked_sub.ensures)) _)

pub read_bracket-returns-in_err-inner : goal.read_bracket-returns-in_err-inner
read_bracket-returns-in_err-inner t c = rw c.from_residual-in_err-inner.ensures (nothing_inside c.args.depth c.in_ok-checked_sub.ensures c.read_or.ensures c.in_err-inner.was)

pub read_bracket-returns-then-ne : goal.read_bracket-returns-then-ne
read_bracket-returns-then-ne t c = not_closed c.args.depth c.in_ok-checked_sub.ensures c.read_or.ensures c.in_ok-inner.was (not_there _ _ _ _ c.get.ensures.lookup.3 (not-true _ (sym c.if-ne.ensures)))

pub read_bracket-returns : goal.read_bracket-returns
read_bracket-returns t c = closes c.args.depth c.in_ok-checked_sub.ensures c.read_or.ensures c.in_ok-inner.was (is_there _ _ _ _ c.get.ensures.lookup.3 (not-false _ (sym c.if-ne.ensures)))
