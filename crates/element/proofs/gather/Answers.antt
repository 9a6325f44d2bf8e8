use mathlib.Core.Path.{refl, sym, ◌∙◌}
use native.Mathlib.Omega.{arith}
use Rattle.walk.specs.WalkCode.{content_from}
use Rattle.walk.proofs.Bounds.{part_from_lem}
use Rattle.walk.proofs.Turns.{start, content_again, content_opens, content_ends, content_breaks, content_stops}
use Rattle.element.specs.ElementCode.{rules_for, nothing_gathered, gathered_list}
use Rattle.element.proofs.Turns.{tag_start, gathering, gather_again, tag_done, tag_over}
use Rattle.element.proofs.gather.Goals as goal

pub loop-j-init : goal.loop-j-init
unfolding nothing_gathered
loop-j-init c = (tag_start (gathering (rules_for c.args.kind) c.args.file.now nothing_gathered) c.args.file.now c.args.to, start (content_from c.args.file.now) _ c.args.to _ refl)

pub slice_bounds-judge-count : goal.slice_bounds-judge-count
slice_bounds-judge-count c = let h = part_from_lem c.args.file.now c.loop-j.j _ (sym c.in-Attribute.is ∙ c.part_at.ensures) in omega (arith, h.1, h.2, h.3, h.4)

pub slice_bounds-judge-start : goal.slice_bounds-judge-start
slice_bounds-judge-start c = let h = part_from_lem c.args.file.now c.loop-j.j _ (sym c.in-Attribute.is ∙ c.part_at.ensures) in omega (arith, h.1, h.2, h.3, h.4)

pub slice_bounds-judge-end : goal.slice_bounds-judge-end
slice_bounds-judge-end c = let h = part_from_lem c.args.file.now c.loop-j.j _ (sym c.in-Attribute.is ∙ c.part_at.ensures) in omega (arith, h.1, h.2, h.3, h.4)

pub slice_bounds-judge-count-in-Attribute : goal.slice_bounds-judge-count-in-Attribute
slice_bounds-judge-count-in-Attribute c = let h = part_from_lem c.args.file.now c.loop-j.j _ (sym c.in-Attribute.is ∙ c.part_at.ensures) in omega (arith, h.1, h.2, h.3, h.4)

pub slice_bounds-judge-start-in-Attribute : goal.slice_bounds-judge-start-in-Attribute
slice_bounds-judge-start-in-Attribute c = let h = part_from_lem c.args.file.now c.loop-j.j _ (sym c.in-Attribute.is ∙ c.part_at.ensures) in omega (arith, h.1, h.2, h.3, h.4)

pub slice_bounds-judge-end-in-Attribute : goal.slice_bounds-judge-end-in-Attribute
slice_bounds-judge-end-in-Attribute c = let h = part_from_lem c.args.file.now c.loop-j.j _ (sym c.in-Attribute.is ∙ c.part_at.ensures) in omega (arith, h.1, h.2, h.3, h.4)

pub overflow_add-j : goal.overflow_add-j
overflow_add-j c = let h = part_from_lem c.args.file.now c.loop-j.j _ (sym c.in-Attribute.is ∙ c.part_at.ensures) in omega (arith, h.4)

pub loop-j-smaller : goal.loop-j-smaller
loop-j-smaller c = let h = part_from_lem c.args.file.now c.loop-j.j _ (sym c.in-Attribute.is ∙ c.part_at.ensures) in omega (arith, h.0, h.1, h.2, h.3, h.4)

pub loop-j-preserved : goal.loop-j-preserved
loop-j-preserved c = (gather_again (rules_for c.args.kind) c.args.file.now c.loop-j.j _ c.loop-j.gathered c.loop-j.invariant.0 c.loop-j-test.true _ _ _ _ (sym c.in-Attribute.is ∙ c.part_at.ensures) _ c.judge-gathered.ensures, content_again c.args.file.now _ _ c.loop-j.invariant.1 c.loop-j-test.true _ _ _ _ (sym c.in-Attribute.is ∙ c.part_at.ensures))

pub returns-in-Open : goal.returns-in-Open
unfolding gathered_list
returns-in-Open c = (tag_done (gathering (rules_for c.args.kind) c.args.file.now c.loop-j.gathered) c.args.file.now c.loop-j.j _ c.loop-j.invariant.0 c.loop-j-test.true _ (sym c.in-Open.is ∙ c.part_at.ensures) tt, content_opens c.args.file.now _ _ c.loop-j.invariant.1 c.loop-j-test.true _ (sym c.in-Open.is ∙ c.part_at.ensures))

pub returns-in-Empty : goal.returns-in-Empty
unfolding gathered_list
returns-in-Empty c = (tag_done (gathering (rules_for c.args.kind) c.args.file.now c.loop-j.gathered) c.args.file.now c.loop-j.j _ c.loop-j.invariant.0 c.loop-j-test.true _ (sym c.in-Empty.is ∙ c.part_at.ensures) tt, content_ends c.args.file.now _ _ c.loop-j.invariant.1 c.loop-j-test.true _ (sym c.in-Empty.is ∙ c.part_at.ensures))

pub returns-in-Broken : goal.returns-in-Broken
unfolding gathered_list
returns-in-Broken c = (tag_done (gathering (rules_for c.args.kind) c.args.file.now c.loop-j.gathered) c.args.file.now c.loop-j.j _ c.loop-j.invariant.0 c.loop-j-test.true _ (sym c.in-Broken.is ∙ c.part_at.ensures) tt, content_breaks c.args.file.now _ _ c.loop-j.invariant.1 c.loop-j-test.true (sym c.in-Broken.is ∙ c.part_at.ensures))

pub returns-after-loop-j : goal.returns-after-loop-j
unfolding gathered_list
returns-after-loop-j c = (tag_over (gathering (rules_for c.args.kind) c.args.file.now c.loop-j.gathered) c.args.file.now c.loop-j.j _ c.loop-j.invariant.0 c.loop-j-test.false, content_stops c.args.file.now _ _ c.loop-j.invariant.1 c.loop-j-test.false)
