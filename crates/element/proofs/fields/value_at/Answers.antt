use mathlib.Core.Path.{sym, ◌∙◌}
use native.Mathlib.Omega.{arith}
use Rattle.walk.proofs.Bounds.{part_from_lem}
use Rattle.element.specs.ElementCode.{value_in, value_at}
use Rattle.element.proofs.Turns.{tag_start, value_found, value_again, tag_done, tag_over, last_of}
use Rattle.element.proofs.fields.value_at.Goals as goal

pub loop-j-init : goal.loop-j-init
unfolding value_at
loop-j-init c = rw c.name_of-j.ensures (tag_start (value_in c.args.name.now c.args.file.now) c.args.file.now _)

pub slice_bounds-same_text-count : goal.slice_bounds-same_text-count
slice_bounds-same_text-count c = let h = part_from_lem c.args.file.now c.loop-j.j _ (sym c.in-Attribute.is ∙ c.part_at.ensures) in omega (arith, h.1, h.2, h.3, h.4)

pub slice_bounds-same_text-start : goal.slice_bounds-same_text-start
slice_bounds-same_text-start c = let h = part_from_lem c.args.file.now c.loop-j.j _ (sym c.in-Attribute.is ∙ c.part_at.ensures) in omega (arith, h.1, h.2, h.3, h.4)

pub slice_bounds-same_text-end : goal.slice_bounds-same_text-end
slice_bounds-same_text-end c = let h = part_from_lem c.args.file.now c.loop-j.j _ (sym c.in-Attribute.is ∙ c.part_at.ensures) in omega (arith, h.1, h.2, h.3, h.4)

pub returns-then-same_text : goal.returns-then-same_text
returns-then-same_text c = value_found c.args.name.now c.args.file.now c.loop-j.j _ c.loop-j.invariant c.loop-j-test.true _ _ _ _ (sym c.in-Attribute.is ∙ c.part_at.ensures) _ c.same_text.ensures c.if-same_text.true

pub overflow_add-j : goal.overflow_add-j
overflow_add-j c = let h = part_from_lem c.args.file.now c.loop-j.j _ (sym c.in-Attribute.is ∙ c.part_at.ensures) in omega (arith, h.4)

pub loop-j-smaller : goal.loop-j-smaller
loop-j-smaller c = let h = part_from_lem c.args.file.now c.loop-j.j _ (sym c.in-Attribute.is ∙ c.part_at.ensures) in omega (arith, h.0, h.1, h.2, h.3, h.4)

pub loop-j-preserved : goal.loop-j-preserved
loop-j-preserved c = value_again c.args.name.now c.args.file.now c.loop-j.j _ c.loop-j.invariant c.loop-j-test.true _ _ _ _ (sym c.in-Attribute.is ∙ c.part_at.ensures) _ c.same_text.ensures c.if-same_text.false

pub returns-in_default : goal.returns-in_default
unfolding value_in
returns-in_default c = tag_done (value_in c.args.name.now c.args.file.now) c.args.file.now c.loop-j.j _ c.loop-j.invariant c.loop-j-test.true _ c.part_at.ensures (last_of _ c.in_default.not-Attribute)

pub returns-after-loop-j : goal.returns-after-loop-j
unfolding value_in
returns-after-loop-j c = tag_over (value_in c.args.name.now c.args.file.now) c.args.file.now c.loop-j.j _ c.loop-j.invariant c.loop-j-test.false
