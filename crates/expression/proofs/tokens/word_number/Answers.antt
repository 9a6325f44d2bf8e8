-- `word_number` meets its contract: AND, OR and NOT are asked first.
use mathlib.Core.Path.{sym, ◌∙◌}
use Rattle.text.specs.Texts.{bytes}
use Rattle.grammar.specs.TokensCode.{number_of}
use Rattle.expression.proofs.tokens.word_number.Goals as goal

pub returns-then-same_text : goal.returns-then-same_text
unfolding number_of bytes
returns-then-same_text c = rw (sym c.same_text.ensures ∙ c.if-same_text.true)

pub returns-then-same_text-2 : goal.returns-then-same_text-2
unfolding number_of bytes
returns-then-same_text-2 c = rw (sym c.same_text.ensures ∙ c.if-same_text.false, sym c.same_text-2.ensures ∙ c.if-same_text-2.true)

pub returns-then-same_text-3 : goal.returns-then-same_text-3
unfolding number_of bytes
returns-then-same_text-3 c = rw (sym c.same_text.ensures ∙ c.if-same_text.false, sym c.same_text-2.ensures ∙ c.if-same_text-2.false, sym c.same_text-3.ensures ∙ c.if-same_text-3.true)

pub returns : goal.returns
unfolding number_of bytes
returns c = rw (sym c.same_text.ensures ∙ c.if-same_text.false, sym c.same_text-2.ensures ∙ c.if-same_text-2.false, sym c.same_text-3.ensures ∙ c.if-same_text-3.false) c.find_name.ensures
