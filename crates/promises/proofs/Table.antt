-- The checks by hand, computed.
use Prim.Native.Nat.{ℕ}
use native.Mathlib.Omega.{arith}
use mathlib.Core.Path.{refl}
use mathlib.Core.List.{List, zip_with}
use Rattle.text.specs.Texts.{bytes, same}
use Rattle.text.specs.Kinds.{is_blank, is_start, is_digit, is_name}
use Rattle.values.specs.Numbers.{digit}
use Rattle.values.specs.NumbersCode.{digits_from, digits, number_spelt}
use Rattle.code.specs.Code.{word_of}
use Rattle.grammar.specs.TokensCode.{lex_from, lex, find, number_of, numbered_token, numbers}
use Rattle.grammar.specs.Tree.{code}
use Rattle.grammar.specs.Outcome.{Becomes}
use Rattle.grammar.specs.GrammarCode.{read_chain, parse_chain, verdict_refusal, code_in, compiled_from, compiled}
use Rattle.grammar.proofs.Ruled.{compiled_becomes}
use Rattle.event_rules.specs.Rules.{matches, filters_on, first_match, passes, fires, states, firings}
use Rattle.lists.specs.Lists.{Every}
use Rattle.promises.specs.Checks.{abc, Holds, table}

-- what becomes of a text is what `compile` answers, which is computed
given : (text : List ℕ)
    → Becomes abc text (verdict_refusal (compiled abc text)) (code_in (compiled abc text))
given text = compiled_becomes abc text (omega arith)

pub hand_checks : Every Holds table
unfolding Every table bytes same is_blank is_start is_digit is_name find number_of numbered_token lex_from lex numbers compiled compiled_from
    parse_chain read_chain code word_of digit digits_from digits number_spelt matches filters_on first_match passes fires states firings
    zip_with
hand_checks = (
  given _,
  (
    given _,
    (
      given _,
      (
        given _,
        (
          given _,
          (
            given _,
            (
              given _,
              (refl, (refl, (refl, (refl, (refl, (refl, (refl, (refl, tt)))))))),
            ),
          ),
        ),
      ),
    ),
  ),
)
