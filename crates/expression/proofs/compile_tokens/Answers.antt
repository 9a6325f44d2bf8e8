-- `compile_tokens` meets its contract: each return cites one law of `Whole`.
use mathlib.Core.Path.{◌≡◌, sym, ◌∙◌}
use Rattle.std.specs.Prelude.{Err}
use Rattle.std.proofs.Common.{rules}
use Rattle.grammar.specs.declared.Unfit.TheVariants.{Broken}
use Rattle.grammar.proofs.Whole.{no_expression, left_over, some_unnamed, all_named_lem}
use Rattle.expression.proofs.compile_tokens.Goals as goal

pub returns-in_err-end : goal.returns-in_err-end
returns-in_err-end c = let q : c.from_residual.result ≡ Err Broken = search rules in q ∙ sym (no_expression c.read_or.ensures c.in_err-end.ensures.ok_part)

pub returns-then-end-toks : goal.returns-then-end-toks
returns-then-end-toks c = sym (left_over c.read_or.ensures c.in_ok-end.ensures.ok_part c.if-end-toks.true)

pub returns-then-not-all_named : goal.returns-then-not-all_named
returns-then-not-all_named c = sym (some_unnamed c.read_or.ensures c.in_ok-end.ensures.ok_part c.if-end-toks.false (sym c.all_named.ensures ∙ c.if-not-all_named.true))

pub returns : goal.returns
returns c = sym (all_named_lem c.read_or.ensures c.in_ok-end.ensures.ok_part c.new-out.ensures c.requires c.if-end-toks.false (sym c.all_named.ensures ∙ c.if-not-all_named.false))
