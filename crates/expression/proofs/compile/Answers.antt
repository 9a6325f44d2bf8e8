-- `compile` meets its contract: the tokens are those of the text, at most 64.
use mathlib.Core.Path.{◌≡◌, sym, ap, ◌∙◌}
use Rattle.std.specs.Prelude.{Err}
use Rattle.std.proofs.Common.{rules}
use Rattle.grammar.specs.declared.Unfit.TheVariants.{Broken}
use Rattle.grammar.specs.GrammarCode.{compiled_from}
use Rattle.grammar.proofs.Whole.{unfit_text, fit_text}
use Rattle.expression.proofs.compile.Goals as goal

pub returns-in_err-tokens : goal.returns-in_err-tokens
returns-in_err-tokens c = let q : c.from_residual.result ≡ Err Broken = search rules in q ∙ sym (unfit_text _ _ c.tokenise.ensures c.in_err-tokens.ensures.ok_part)

pub returns : goal.returns
returns c = c.compile_tokens.ensures ∙ ap compiled_from c.as_slice.ensures.0 ∙ sym (fit_text _ _ c.tokenise.ensures c.in_ok-tokens.ensures.ok_part)
