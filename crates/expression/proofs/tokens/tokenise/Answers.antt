use native.Mathlib.Omega.{arith}
use Prim.Native.Nat.{ℕ}
use mathlib.Core.Path.{sym, subst, ◌∙◌}
use Rattle.std.specs.Prelude.{Option, Some}
use Rattle.grammar.specs.TokensCode.{names_in, LexemeAt, lexed}
use Rattle.grammar.proofs.Tokens.{first_turn, onwards, token_turn, blank_turn, wrong_there, full, all_read}
use Rattle.expression.proofs.tokens.tokenise.Goals as goal

pub loop-at-init : goal.loop-at-init
loop-at-init c = rw c.new-out.ensures (first_turn _ _)

pub next_token-requires : goal.next_token-requires
next_token-requires c = c.loop-at-test.true

pub returns-in_err-lexeme : goal.returns-in_err-lexeme
unfolding lexed
returns-in_err-lexeme c = c.from_residual.ensures ∙ sym (wrong_there c.loop-at.invariant c.in_err-lexeme.ensures)

pub returns-then-out-eq-MOST : goal.returns-then-out-eq-MOST
unfolding lexed
returns-then-out-eq-MOST c = sym (full c.loop-at.invariant c.if-out-eq-MOST.true (subst (λ (o : Option ℕ). LexemeAt (names_in c.args.names.file.now c.args.names.starts.now c.args.names.ends.now) c.args.text.now c.loop-at.at (Some (record { token = o; end = c.in_ok-lexeme.lexeme.end }))) c.in-Some.is c.in_ok-lexeme.ensures))

pub loop-at-smaller-in-Some : goal.loop-at-smaller-in-Some
loop-at-smaller-in-Some c = omega (arith, onwards c.loop-at-test.true c.in_ok-lexeme.ensures)

pub loop-at-preserved-in-Some : goal.loop-at-preserved-in-Some
loop-at-preserved-in-Some c = token_turn c.loop-at.invariant c.if-out-eq-MOST.false c.push.ensures (subst (λ (o : Option ℕ). LexemeAt (names_in c.args.names.file.now c.args.names.starts.now c.args.names.ends.now) c.args.text.now c.loop-at.at (Some (record { token = o; end = c.in_ok-lexeme.lexeme.end }))) c.in-Some.is c.in_ok-lexeme.ensures)

pub loop-at-smaller : goal.loop-at-smaller
loop-at-smaller c = omega (arith, onwards c.loop-at-test.true c.in_ok-lexeme.ensures)

pub loop-at-preserved : goal.loop-at-preserved
loop-at-preserved c = blank_turn c.loop-at.invariant c.loop-at-test.true (subst (λ (o : Option ℕ). LexemeAt (names_in c.args.names.file.now c.args.names.starts.now c.args.names.ends.now) c.args.text.now c.loop-at.at (Some (record { token = o; end = c.in_ok-lexeme.lexeme.end }))) c.in_default.is c.in_ok-lexeme.ensures)

pub returns : goal.returns
unfolding lexed
returns c = sym (all_read c.loop-at.invariant c.loop-at-test.false)
