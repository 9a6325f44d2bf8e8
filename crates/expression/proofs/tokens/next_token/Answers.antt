-- `next_token` meets its contract: one law for each kind of byte.
use native.Mathlib.Omega.{arith}
use mathlib.Core.Path.{sym, ◌∙◌}
use Rattle.text.specs.Kinds.{is_name}
use Rattle.text.proofs.Spans.{low_of, high_of}
use Rattle.grammar.proofs.Tokens.{at_word, at_blank, at_left, at_right, at_other}
use Rattle.expression.proofs.tokens.next_token.Goals as goal

pub slice_bounds-word_number-count : goal.slice_bounds-word_number-count
slice_bounds-word_number-count c = low_of is_name _ _ _ c.name_end-end.ensures

pub slice_bounds-word_number-start : goal.slice_bounds-word_number-start
slice_bounds-word_number-start c = low_of is_name _ _ _ c.name_end-end.ensures

pub slice_bounds-word_number-end : goal.slice_bounds-word_number-end
slice_bounds-word_number-end c = high_of is_name c.args.text.now c.args.at _ c.name_end-end.ensures (omega arith)

pub returns-then-is_name : goal.returns-then-is_name
returns-then-is_name c = at_word _ _ _ c.requires _ _ (sym c.is_name.ensures ∙ c.if-is_name.true) c.name_end-end.ensures c.word_number.ensures

pub returns-then-is_blank : goal.returns-then-is_blank
returns-then-is_blank c = at_blank _ _ _ c.requires (sym c.is_name.ensures ∙ c.if-is_name.false) (sym c.is_blank.ensures ∙ c.if-is_blank.true)

pub returns-in-40 : goal.returns-in-40
returns-in-40 c = at_left _ _ _ c.requires (sym c.is_name.ensures ∙ c.if-is_name.false) (sym c.is_blank.ensures ∙ c.if-is_blank.false) c.in-40.is

pub returns-in-41 : goal.returns-in-41
returns-in-41 c = at_right _ _ _ c.requires (sym c.is_name.ensures ∙ c.if-is_name.false) (sym c.is_blank.ensures ∙ c.if-is_blank.false) c.in-41.is

pub returns-in_default-3 : goal.returns-in_default-3
returns-in_default-3 c = at_other _ _ _ c.requires (sym c.is_name.ensures ∙ c.if-is_name.false) (sym c.is_blank.ensures ∙ c.if-is_blank.false) (λ e. omega arith) (λ e. omega arith)
