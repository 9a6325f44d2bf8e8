-- The checks by hand of paper 01 on expressions: one table under one theorem, from quoted texts.
use Prim.Native.Nat.{ℕ}
use Prim.Native.String.{String}
use native.Mathlib.Omega.{arith}
use mathlib.Core.Option.{Option, none, some}
use mathlib.Core.List.{List, [], ◌∷◌}
use Rattle.text.specs.Texts.{bytes, same}
use Rattle.text.specs.Kinds.{is_blank, is_start, is_digit, is_name}
use Rattle.code.specs.Code.{word_of}
use Rattle.grammar.specs.TokensCode.{lex_from, lex, find, number_of, numbered_token, numbers}
use Rattle.grammar.specs.Tree.{code}
use Rattle.grammar.specs.Outcome.{Becomes}
use Rattle.grammar.specs.GrammarCode.{read_chain, parse_chain, verdict_refusal, code_in, compiled_from, compiled}
use Rattle.grammar.proofs.Ruled.{compiled_becomes}

-- a text, its refusal if it has one, and its words
pub record Check : Type 0 where
  pub text : String
  pub refused : Option ℕ
  pub words : List ℕ

-- "with a, b, c as 0, 1, 2"
unfoldable pub abc : List (List ℕ)
abc = bytes "a" ∷ bytes "b" ∷ bytes "c" ∷ []

unfoldable pub table : List Check
table =
    record { text = "a OR b AND NOT c"; refused = none; words = 0 ∷ 1 ∷ 2 ∷ 34 ∷ 32 ∷ 33 ∷ [] } ∷
    record { text = "(a OR b) AND c"; refused = none; words = 0 ∷ 1 ∷ 33 ∷ 2 ∷ 32 ∷ [] } ∷
    record { text = "NOT NOT a"; refused = none; words = 0 ∷ 34 ∷ 34 ∷ [] } ∷
    record { text = ""; refused = some 11; words = [] } ∷
    record { text = "a AND"; refused = some 11; words = [] } ∷
    record { text = "a b"; refused = some 11; words = [] } ∷
    record { text = "d"; refused = some 12; words = [] } ∷
    []

unfoldable pub Holds : List Check → Type 0
Holds [] = Unit {0}
Holds (c ∷ cs) = Becomes abc (bytes c.text) c.refused c.words × Holds cs

-- what becomes of a text is what `compile` answers, which is computed
given : (text : List ℕ)
    → Becomes abc text (verdict_refusal (compiled abc text)) (code_in (compiled abc text))
unfolding abc
given text = compiled_becomes abc text (omega arith)

pub checks : Holds table
unfolding Holds table abc bytes same is_blank is_start is_digit is_name find number_of numbered_token lex_from lex numbers compiled compiled_from
    parse_chain read_chain code word_of
checks = (given _, (given _, (given _, (given _, (given _, (given _, (given _, tt)))))))

-- "equal operators group from the left": the first OR stands before the third operand
pub from_the_left : Becomes abc (bytes "a OR b OR c") none (0 ∷ 1 ∷ 33 ∷ 2 ∷ 33 ∷ [])
unfolding abc bytes same is_blank is_start is_digit is_name find number_of numbered_token lex_from lex numbers compiled compiled_from parse_chain
    read_chain code word_of
from_the_left = given _
