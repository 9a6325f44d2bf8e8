-- `walk::tags::part_at` meets its contract.
use mathlib.Core.Path.{sym, ◌∙◌}
use native.Mathlib.Omega.{arith}
use Rattle.walk.proofs.WalkAnswers.{read_inside, part_open, part_empty, part_attribute, part_broken}
use Rattle.walk.proofs.tags.part_at.Goals as goal

pub overflow_add-result : goal.overflow_add-result
overflow_add-result c = let h = read_inside c.args.file.now c.blanks_end-a.result c.byte_at-b.result 61 c.byte_at-b.ensures c.if-b-eq62.true in omega arith

pub returns-then-b-eq62 : goal.returns-then-b-eq62
returns-then-b-eq62 c = sym (part_open _ _ _ _ c.blanks_end-a.ensures c.byte_at-b.ensures c.if-b-eq62.true)

pub returns-then-b-eq47 : goal.returns-then-b-eq47
returns-then-b-eq47 c = sym (part_empty _ _ _ _ c.blanks_end-a.ensures c.byte_at-b.ensures _ c.ahead-e.ensures c.if-b-eq47.true)

pub returns-then-is_start : goal.returns-then-is_start
returns-then-is_start c = c.attribute_at.ensures ∙ sym (part_attribute _ _ _ _ c.blanks_end-a.ensures c.byte_at-b.ensures c.if-b-eq62.false c.if-b-eq47.false (sym c.is_start.ensures ∙ c.if-is_start.true))

pub returns-else-is_start : goal.returns-else-is_start
returns-else-is_start c = sym (part_broken _ _ _ _ c.blanks_end-a.ensures c.byte_at-b.ensures c.if-b-eq62.false c.if-b-eq47.false (sym c.is_start.ensures ∙ c.if-is_start.false))
