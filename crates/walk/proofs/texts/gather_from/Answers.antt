use Prim.Native.Nat.{◌-◌}
use mathlib.Core.Path.{sym, ◌∙◌}
use mathlib.Core.List.{◌++◌}
use mathlib.Core.Logic.{inl, inr}
use native.Mathlib.Omega.{arith}
use lib.ListN.{length, take, drop, length-take}
use Rattle.walk.specs.WalkCode.{texting}
use Rattle.walk.proofs.Bounds.{item_from, skipped_bounds}
use Rattle.walk.proofs.Turns.{on_remark, on_child, on_close, on_broken, on_end}
use Rattle.walk.proofs.Buffers.{laid_room, laid_long}
use Rattle.walk.proofs.Strays.{gather_start, gather_text, gather_to, gather_done}
use Rattle.walk.proofs.texts.gather_from.Goals as goal

pub loop-j-init : goal.loop-j-init
loop-j-init c = gather_start c.args.file.now c.args.o c.args.scratch.now

pub slice_bounds-lay-count : goal.slice_bounds-lay-count
slice_bounds-lay-count c = let h = item_from c.args.file.now c.loop-j.j _ (sym c.in-Text.is ∙ c.item_at.ensures) in omega (arith, h.0, h.1)

pub slice_bounds-lay-start : goal.slice_bounds-lay-start
slice_bounds-lay-start c = let h = item_from c.args.file.now c.loop-j.j _ (sym c.in-Text.is ∙ c.item_at.ensures) in omega (arith, h.0, h.1)

pub slice_bounds-lay-end : goal.slice_bounds-lay-end
slice_bounds-lay-end c = let h = item_from c.args.file.now c.loop-j.j _ (sym c.in-Text.is ∙ c.item_at.ensures) in omega (arith, h.0, h.1)

pub slice_bounds-lay-count-in-Text : goal.slice_bounds-lay-count-in-Text
slice_bounds-lay-count-in-Text c = let h = laid_room c.loop-j.invariant.text c.args.scratch.now c.loop-j.n c.loop-j.scratch c.loop-j.invariant.laid in let l = laid_long c.loop-j.invariant.text c.args.scratch.now c.loop-j.n c.loop-j.scratch c.loop-j.invariant.laid in omega (arith, h, l)

pub overflow_add-n : goal.overflow_add-n
overflow_add-n c = let h = laid_room c.loop-j.invariant.text c.args.scratch.now c.loop-j.n c.loop-j.scratch c.loop-j.invariant.laid in let l = laid_long c.loop-j.invariant.text c.args.scratch.now c.loop-j.n c.loop-j.scratch c.loop-j.invariant.laid in let r = laid_room _ (take (length c.loop-j.scratch - c.loop-j.n) (drop c.loop-j.n c.loop-j.scratch)) _ _ c.lay-n.ensures in omega (arith, h, l, r, length-take (length c.loop-j.scratch - c.loop-j.n) (drop c.loop-j.n c.loop-j.scratch))

pub loop-j-smaller-in-Text : goal.loop-j-smaller-in-Text
loop-j-smaller-in-Text c = let h = item_from c.args.file.now c.loop-j.j _ (sym c.in-Text.is ∙ c.item_at.ensures) in omega (arith, h.0, h.1)

pub loop-j-preserved-in-Text : goal.loop-j-preserved-in-Text
loop-j-preserved-in-Text c = gather_text c.args.file.now _ c.args.scratch.now c.loop-j.j c.loop-j.n c.loop-j.scratch c.loop-j.invariant c.loop-j-test.true _ _ _ (sym c.in-Text.is ∙ c.item_at.ensures) c.lay-n.ensures

pub loop-j-smaller-in-Remark : goal.loop-j-smaller-in-Remark
loop-j-smaller-in-Remark c = let h = item_from c.args.file.now c.loop-j.j _ (sym c.in-Remark.is ∙ c.item_at.ensures) in omega (arith, h.0, h.1)

pub loop-j-preserved-in-Remark : goal.loop-j-preserved-in-Remark
loop-j-preserved-in-Remark c = gather_to c.args.file.now _ c.args.scratch.now c.loop-j.j c.loop-j.n c.loop-j.scratch c.loop-j.invariant _ (on_remark (texting c.args.file.now) c.args.file.now (λ a. c.loop-j.invariant.text ++ a) c.loop-j.j _ c.loop-j.invariant.turn _ c.loop-j-test.true (sym c.in-Remark.is ∙ c.item_at.ensures))

pub loop-j-smaller : goal.loop-j-smaller
loop-j-smaller c = let h = skipped_bounds c.args.file.now c.loop-j.j c.loop-j-test.true in omega (arith, h.0, h.1, c.skip-j.ensures)

pub loop-j-preserved : goal.loop-j-preserved
loop-j-preserved c = let h = skipped_bounds c.args.file.now c.loop-j.j c.loop-j-test.true in gather_to c.args.file.now _ c.args.scratch.now c.loop-j.j c.loop-j.n c.loop-j.scratch c.loop-j.invariant _ (on_child (texting c.args.file.now) c.args.file.now (λ a. c.loop-j.invariant.text ++ a) c.loop-j.j _ c.loop-j.invariant.turn _ c.loop-j-test.true (sym c.in-Child.is ∙ c.item_at.ensures) c.skip-j.ensures (omega (arith, h.0, c.skip-j.ensures)))

pub shape_of-scratch-in-Close : goal.shape_of-scratch-in-Close
shape_of-scratch-in-Close c = laid_long c.loop-j.invariant.text _ c.loop-j.n _ c.loop-j.invariant.laid

pub returns-in-Close : goal.returns-in-Close
returns-in-Close c =
    gather_done c.args.file.now _ c.args.scratch.now c.loop-j.j c.loop-j.n c.loop-j.scratch c.loop-j.invariant
    (elim c.in-Close.is [
      | inl p ↦ on_close (texting c.args.file.now) c.args.file.now (λ a. c.loop-j.invariant.text ++ a) c.loop-j.j _ c.loop-j.invariant.turn p.0 c.loop-j-test.true (sym p.1 ∙ c.item_at.ensures)
      | inr p ↦ on_broken (texting c.args.file.now) c.args.file.now (λ a. c.loop-j.invariant.text ++ a) c.loop-j.j _ c.loop-j.invariant.turn c.loop-j-test.true (sym p ∙ c.item_at.ensures)
    ])

pub shape_of-scratch : goal.shape_of-scratch
shape_of-scratch c = laid_long c.loop-j.invariant.text _ c.loop-j.n _ c.loop-j.invariant.laid

pub returns : goal.returns
returns c = gather_done c.args.file.now _ c.args.scratch.now c.loop-j.j c.loop-j.n c.loop-j.scratch c.loop-j.invariant (on_end (texting c.args.file.now) c.args.file.now (λ a. c.loop-j.invariant.text ++ a) c.loop-j.j _ c.loop-j.invariant.turn c.loop-j-test.false)
