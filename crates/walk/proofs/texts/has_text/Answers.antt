use mathlib.Core.Path.{sym, ◌∙◌}
use mathlib.Core.Logic.{inl, inr}
use native.Mathlib.Omega.{arith}
use Rattle.walk.specs.WalkCode.{texting, stray}
use Rattle.walk.proofs.Bounds.{item_from, skipped_bounds}
use Rattle.walk.proofs.Turns.{on_remark, on_child, on_close, on_broken, on_end}
use Rattle.walk.proofs.Strays.{stray_start, stray_is, stray_on}
use Rattle.walk.proofs.texts.has_text.Goals as goal

pub loop-j-init : goal.loop-j-init
loop-j-init c = stray_start c.args.file.now c.args.o

pub returns-then-blanks_end-k : goal.returns-then-blanks_end-k
returns-then-blanks_end-k c = stray_is c.args.file.now _ c.loop-j.j _ _ c.loop-j.invariant c.loop-j-test.true (sym c.in-Text.is ∙ c.item_at.ensures) c.blanks_end.ensures c.if-blanks_end-k.true

pub loop-j-smaller-in-Text : goal.loop-j-smaller-in-Text
loop-j-smaller-in-Text c = let h = item_from c.args.file.now c.loop-j.j _ (sym c.in-Text.is ∙ c.item_at.ensures) in omega (arith, h.0, h.1)

pub loop-j-preserved-in-Text : goal.loop-j-preserved-in-Text
loop-j-preserved-in-Text c = stray_on c.args.file.now _ c.loop-j.j _ _ c.loop-j.invariant c.loop-j-test.true (sym c.in-Text.is ∙ c.item_at.ensures) c.blanks_end.ensures c.if-blanks_end-k.false

pub loop-j-smaller-in-Remark : goal.loop-j-smaller-in-Remark
loop-j-smaller-in-Remark c = let h = item_from c.args.file.now c.loop-j.j _ (sym c.in-Remark.is ∙ c.item_at.ensures) in omega (arith, h.0, h.1)

pub loop-j-preserved-in-Remark : goal.loop-j-preserved-in-Remark
loop-j-preserved-in-Remark c = on_remark (texting c.args.file.now) c.args.file.now stray _ _ c.loop-j.invariant _ c.loop-j-test.true (sym c.in-Remark.is ∙ c.item_at.ensures)

pub loop-j-smaller : goal.loop-j-smaller
loop-j-smaller c = let h = skipped_bounds c.args.file.now c.loop-j.j c.loop-j-test.true in omega (arith, h.0, h.1, c.skip-j.ensures)

pub loop-j-preserved : goal.loop-j-preserved
loop-j-preserved c = let h = skipped_bounds c.args.file.now c.loop-j.j c.loop-j-test.true in on_child (texting c.args.file.now) c.args.file.now stray _ _ c.loop-j.invariant _ c.loop-j-test.true (sym c.in-Child.is ∙ c.item_at.ensures) c.skip-j.ensures (omega (arith, h.0, c.skip-j.ensures))

pub returns-in-Close : goal.returns-in-Close
unfolding stray
returns-in-Close c =
    elim c.in-Close.is [
      | inl p ↦ on_close (texting c.args.file.now) c.args.file.now stray _ _ c.loop-j.invariant p.0 c.loop-j-test.true (sym p.1 ∙ c.item_at.ensures)
      | inr p ↦ on_broken (texting c.args.file.now) c.args.file.now stray _ _ c.loop-j.invariant c.loop-j-test.true (sym p ∙ c.item_at.ensures)
    ]

pub returns : goal.returns
unfolding stray
returns c = on_end (texting c.args.file.now) c.args.file.now stray _ _ c.loop-j.invariant c.loop-j-test.false
