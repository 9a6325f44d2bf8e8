use Prim.Native.Nat.{◌-◌}
use mathlib.Core.Path.{refl, sym, ◌∙◌}
use native.Mathlib.Omega.{arith}
use Rattle.walk.specs.WalkCode.{skipping, skip_from}
use Rattle.walk.proofs.Bounds.{item_from, skip_from_bounds}
use Rattle.walk.proofs.Turns.{skip_none, skip_open, skip_empty, skip_broken, on_text, on_remark, on_child, on_close, on_broken, on_end}
use Rattle.walk.proofs.elements.+skip_from.Goals as goal

pub returns-then-left-eq0 : goal.returns-then-left-eq0
returns-then-left-eq0 t c = skip_none _ _ _ c.if-left-eq0.true

pub loop-j-init : goal.loop-j-init
loop-j-init t c = skip_open c.args.file.now _ _ _ c.content_at.ensures c.if-left-eq0.false _ c.in-Open.is

pub loop-j-smaller-in-Text : goal.loop-j-smaller-in-Text
loop-j-smaller-in-Text t c = let h = item_from c.args.file.now c.loop-j.j _ (sym c.in-Text.is ∙ c.item_at.ensures) in omega (arith, h.0, h.1)

pub loop-j-preserved-in-Text : goal.loop-j-preserved-in-Text
loop-j-preserved-in-Text t c = on_text (skipping (skip_from c.args.file.now (c.args.left - 1)) c.args.file.now) c.args.file.now (λ x. x) _ _ c.loop-j.invariant (λ x. x) _ c.loop-j-test.true (sym c.in-Text.is ∙ c.item_at.ensures) (λ x. refl)

pub loop-j-smaller-in-Remark : goal.loop-j-smaller-in-Remark
loop-j-smaller-in-Remark t c = let h = item_from c.args.file.now c.loop-j.j _ (sym c.in-Remark.is ∙ c.item_at.ensures) in omega (arith, h.0, h.1)

pub loop-j-preserved-in-Remark : goal.loop-j-preserved-in-Remark
loop-j-preserved-in-Remark t c = on_remark (skipping (skip_from c.args.file.now (c.args.left - 1)) c.args.file.now) c.args.file.now (λ x. x) _ _ c.loop-j.invariant _ c.loop-j-test.true (sym c.in-Remark.is ∙ c.item_at.ensures)

pub loop-j-smaller : goal.loop-j-smaller
loop-j-smaller t c = let h = skip_from_bounds c.args.file.now c.loop-j.j _ _ c.skip_from-j.ensures c.loop-j-test.true in omega (arith, h.0, h.1)

pub loop-j-preserved : goal.loop-j-preserved
loop-j-preserved t c = let h = skip_from_bounds c.args.file.now c.loop-j.j _ _ c.skip_from-j.ensures c.loop-j-test.true in on_child (skipping (skip_from c.args.file.now (c.args.left - 1)) c.args.file.now) c.args.file.now (λ x. x) _ _ c.loop-j.invariant _ c.loop-j-test.true (sym c.in-Child.is ∙ c.item_at.ensures) c.skip_from-j.ensures h.0

pub returns-in-Close : goal.returns-in-Close
returns-in-Close t c = on_close (skipping (skip_from c.args.file.now (c.args.left - 1)) c.args.file.now) c.args.file.now (λ x. x) _ _ c.loop-j.invariant _ c.loop-j-test.true (sym c.in-Close.is ∙ c.item_at.ensures)

pub returns-in-Broken-item_at : goal.returns-in-Broken-item_at
returns-in-Broken-item_at t c = on_broken (skipping (skip_from c.args.file.now (c.args.left - 1)) c.args.file.now) c.args.file.now (λ x. x) _ _ c.loop-j.invariant c.loop-j-test.true (sym c.in-Broken-item_at.is ∙ c.item_at.ensures)

pub returns-in-Broken : goal.returns-in-Broken
returns-in-Broken t c = skip_broken c.args.file.now _ _ _ c.content_at.ensures c.if-left-eq0.false c.in-Broken.is

pub returns-in-Empty : goal.returns-in-Empty
returns-in-Empty t c = skip_empty c.args.file.now _ _ _ c.content_at.ensures c.if-left-eq0.false _ c.in-Empty.is

pub returns-after-loop-j : goal.returns-after-loop-j
returns-after-loop-j t c = on_end (skipping (skip_from c.args.file.now (c.args.left - 1)) c.args.file.now) c.args.file.now (λ x. x) _ _ c.loop-j.invariant c.loop-j-test.false
