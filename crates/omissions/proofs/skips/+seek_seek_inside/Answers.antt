use mathlib.Core.Path.{refl, sym, ◌∙◌}
use native.Mathlib.Omega.{arith}
use Rattle.walk.proofs.Bounds.{item_from}
use Rattle.omissions.proofs.Buffers.{adds_one}
use Rattle.omissions.proofs.SkipsLaws.{standing_deep, standing_inside, standing_low, sought_known, sought_other, within_start, sought_empty, broken_none, inner_broken, inner_over, within_text, within_remark, child_stands, child_on, within_child, sought_close}
use Rattle.omissions.proofs.skips.+seek_seek_inside.Goals as goal

pub seek-overflow_sub-left : goal.seek-overflow_sub-left
seek-overflow_sub-left t c = let n = standing_deep _ _ _ c.requires in omega (arith, n)

pub seek-seek_inside-requires : goal.seek-seek_inside-requires
seek-seek_inside-requires t c = let n = standing_deep _ _ _ c.requires in (omega (arith, n), standing_inside _ _ _ c.requires)

pub seek-returns-then-is_carried-is_barred : goal.seek-returns-then-is_carried-is_barred
seek-returns-then-is_carried-is_barred t c = sought_known c.args.file.now _ _ _ c.requires _ c.child_at-child.ensures.0 _ _ _ (rw (← c.is_carried.ensures, ← c.is_barred.ensures) c.if-is_carried-is_barred.true) c.seek_inside.ensures

pub seek-overflow_add-count : goal.seek-overflow_add-count
seek-overflow_add-count t c = omega (arith, standing_low c.args.file.now _ _ c.requires)

pub seek-returns : goal.seek-returns
seek-returns t c = sought_other c.args.file.now _ _ _ c.requires _ c.child_at-child.ensures.0 _ _ _ (rw (← c.is_carried.ensures, ← c.is_barred.ensures) c.if-is_carried-is_barred.false) (adds_one _ _ _ _ c.put.ensures) (omega arith) c.skip-at.ensures

pub seek_inside-loop-all-init : goal.seek_inside-loop-all-init
seek_inside-loop-all-init t c = (within_start c.args.file.now _ _ _ c.requires _ _ (sym c.in-Open.is ∙ c.content_at.ensures), refl)

pub seek_inside-loop-all-smaller-in-Text : goal.seek_inside-loop-all-smaller-in-Text
seek_inside-loop-all-smaller-in-Text t c = let h = item_from c.args.file.now c.loop-all.all.at _ (sym c.in-Text.is ∙ c.item_at.ensures) in omega (arith, h.0, h.1, c.loop-all-test.true)

pub seek_inside-loop-all-preserved-in-Text : goal.seek_inside-loop-all-preserved-in-Text
seek_inside-loop-all-preserved-in-Text t c = (within_text c.args.file.now _ _ _ c.requires _ _ _ c.loop-all.invariant.0 _ (sym c.in-Text.is ∙ c.item_at.ensures), c.loop-all.invariant.1)

pub seek_inside-loop-all-smaller-in-Remark : goal.seek_inside-loop-all-smaller-in-Remark
seek_inside-loop-all-smaller-in-Remark t c = let h = item_from c.args.file.now c.loop-all.all.at _ (sym c.in-Remark.is ∙ c.item_at.ensures) in omega (arith, h.0, h.1, c.loop-all-test.true)

pub seek_inside-loop-all-preserved-in-Remark : goal.seek_inside-loop-all-preserved-in-Remark
seek_inside-loop-all-preserved-in-Remark t c = (within_remark c.args.file.now _ _ _ c.requires _ _ _ c.loop-all.invariant.0 _ (sym c.in-Remark.is ∙ c.item_at.ensures), c.loop-all.invariant.1)

pub seek_inside-seek-all-requires : goal.seek_inside-seek-all-requires
seek_inside-seek-all-requires t c = (omega arith, child_stands c.args.file.now _ _ _ c.requires _ _ _ c.loop-all.invariant.0 (sym c.in-Child.is ∙ c.item_at.ensures))

pub seek_inside-loop-all-smaller : goal.seek_inside-loop-all-smaller
seek_inside-loop-all-smaller t c = let h = child_on c.args.file.now _ _ _ c.requires _ _ _ c.loop-all.invariant.0 (sym c.in-Child.is ∙ c.item_at.ensures) _ _ c.seek-all.ensures in omega (arith, h, c.loop-all-test.true)

pub seek_inside-loop-all-preserved : goal.seek_inside-loop-all-preserved
seek_inside-loop-all-preserved t c = (within_child c.args.file.now _ _ _ c.requires _ _ _ c.loop-all.invariant.0 (sym c.in-Child.is ∙ c.item_at.ensures) _ _ c.seek-all.ensures, c.seek-all.auto.places ∙ c.loop-all.invariant.1)

pub seek_inside-shape_of-places-in-Close : goal.seek_inside-shape_of-places-in-Close
seek_inside-shape_of-places-in-Close t c = c.loop-all.invariant.1

pub seek_inside-returns-in-Close : goal.seek_inside-returns-in-Close
seek_inside-returns-in-Close t c = sought_close c.args.file.now _ _ _ c.requires _ _ _ c.loop-all.invariant.0 _ (sym c.in-Close.is ∙ c.item_at.ensures)

pub seek_inside-shape_of-places-in-Broken-item_at : goal.seek_inside-shape_of-places-in-Broken-item_at
seek_inside-shape_of-places-in-Broken-item_at t c = c.loop-all.invariant.1

pub seek_inside-returns-in-Broken-item_at : goal.seek_inside-returns-in-Broken-item_at
seek_inside-returns-in-Broken-item_at t c = absurd (inner_broken c.args.file.now _ _ _ c.requires _ _ _ c.loop-all.invariant.0 (sym c.in-Broken-item_at.is ∙ c.item_at.ensures))

pub seek_inside-returns-in-Broken : goal.seek_inside-returns-in-Broken
seek_inside-returns-in-Broken t c = absurd (broken_none c.args.file.now c.args.kind _ _ c.requires c.args.places.now (sym c.in-Broken.is ∙ c.content_at.ensures))

pub seek_inside-returns-in-Empty : goal.seek_inside-returns-in-Empty
seek_inside-returns-in-Empty t c = sought_empty c.args.file.now _ _ _ c.requires _ _ (sym c.in-Empty.is ∙ c.content_at.ensures)

pub seek_inside-shape_of-places : goal.seek_inside-shape_of-places
seek_inside-shape_of-places t c = c.loop-all.invariant.1

pub seek_inside-returns-after-loop-all : goal.seek_inside-returns-after-loop-all
seek_inside-returns-after-loop-all t c = absurd (inner_over c.args.file.now _ _ _ c.requires _ _ _ c.loop-all.invariant.0 c.loop-all-test.false)
