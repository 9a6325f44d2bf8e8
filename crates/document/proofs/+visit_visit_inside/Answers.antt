use mathlib.Core.Bool.{not}
use mathlib.Core.Path.{refl, sym, ap, ◌∙◌}
use native.Mathlib.Omega.{arith}
use Rattle.text.specs.Kinds.{is_blank}
use Rattle.text.proofs.Spans.{low_of}
use Rattle.walk.specs.declared.Item.{Item}
use Rattle.walk.specs.WalkCode.{content_at, skipped}
use Rattle.walk.proofs.Bounds.{item_from, skipped_bounds}
use Rattle.file_rules.specs.declared.Breach.TheVariants.{Misvalued}
use Rattle.document.specs.DocumentCode.{FoundSoFar, visit_body, visit_from, found}
use Rattle.document.proofs.Entries.{sound_refused, sound_same}
use Rattle.document.proofs.Turns.{visit_past, visit_fault, visit_good, looked_low, none_of, read_here, refuses, stray_fault, no_fault, entered_is, refused_same}
use Rattle.document.proofs.Insides.{ready_deep, ready_inside, inside_moved, inner_start_lem, empty_leaves, broken_none, inner_over, inner_broken, inner_remark, child_ready, inner_child, inner_leaves, inner_passed}
use Rattle.document.proofs.+visit_visit_inside.Goals as goal

pub visit-returns-then-not-is_looked_at : goal.visit-returns-then-not-is_looked_at
visit-returns-then-not-is_looked_at t c = record { walks = c.pass.ensures.0 c.args.words.now ∙ visit_past c.args.file.now _ _ _ _ _ _ (c.is_looked_at.ensures c.args.words.now) (ap not c.if-not-is_looked_at.true); ends = c.pass.ensures.1; sound = sound_same _ _ _ c.requires.0.sound c.pass.ensures.2 }

pub visit-returns-in-Some : goal.visit-returns-in-Some
visit-returns-in-Some t c = let x = read_here c.args.file.now _ _ _ _ _ _ c.requires.1 c.gather-body.ensures.0 c.gather-body.ensures.1 c.read_text-said.ensures _ c.is_none-misspelt.ensures _ c.unwrap_or-number.ensures in
    let y = refuses c.args.file.now _ _ _ _ _ _ x _ _ c.fault_of.ensures _ c.in-Some.is _ c.bad_text-bad.ensures _ c.fault_of-in-Some.ensures _ c.unwrap_or-first.ensures in
    record { walks = visit_fault c.args.file.now _ _ _ _ _ (c.is_looked_at.ensures c.args.words.now) (ap not c.if-not-is_looked_at.false) _ y _ (ready_deep _ _ _ _ c.requires.0) _ (c.pass-in-Some.ensures.0 c.args.words.now ∙ c.refused-faulty.ensures.0 c.args.words.now); ends = c.pass-in-Some.ensures.1 ∙ ap (skipped c.args.file.now) c.refused-faulty.ensures.1; sound = sound_refused _ _ _ (c.pass-in-Some.ensures.2 ∙ c.refused-faulty.ensures.2) }

pub visit-enter-entered-requires : goal.visit-enter-entered-requires
visit-enter-entered-requires t c = (c.requires.0.room, omega (arith, c.requires.0.short, c.requires.0.stands.before, c.requires.0.stands.within), looked_low _ _ _ (c.is_looked_at.ensures c.args.words.now) (ap not c.if-not-is_looked_at.false), c.requires.0.sound)

pub visit-overflow_sub-left : goal.visit-overflow_sub-left
visit-overflow_sub-left t c = let n = ready_deep _ _ _ _ c.requires.0 in omega (arith, n)

pub visit-visit_inside-inside-requires : goal.visit-visit_inside-inside-requires
visit-visit_inside-inside-requires t c = let n = ready_deep _ _ _ _ c.requires.0 in
    let x = read_here c.args.file.now _ _ _ _ _ _ c.requires.1 c.gather-body.ensures.0 c.gather-body.ensures.1 c.read_text-said.ensures _ c.is_none-misspelt.ensures _ c.unwrap_or-number.ensures in
    (omega (arith, n), (ready_inside _ _ _ _ _ _ c.requires.0 c.enter-entered.ensures.stays c.enter-entered.auto.words c.enter-entered.ensures.sound, x.content ∙ ap (content_at c.args.file.now) (sym c.enter-entered.ensures.stays)))

pub visit-shape_of-words-then-is_worded-inside : goal.visit-shape_of-words-then-is_worded-inside
visit-shape_of-words-then-is_worded-inside t c = c.visit_inside-inside.auto.words ∙ c.enter-entered.auto.words

pub visit-returns-then-is_worded-inside : goal.visit-returns-then-is_worded-inside
visit-returns-then-is_worded-inside t c = let x = read_here c.args.file.now _ _ _ _ _ _ c.requires.1 c.gather-body.ensures.0 c.gather-body.ensures.1 c.read_text-said.ensures _ c.is_none-misspelt.ensures _ c.unwrap_or-number.ensures in
    let y = inside_moved c.args.file.now _ _ _ _ _ _ _ c.enter-entered.ensures.stays c.visit_inside-inside.ensures in
    record { walks = visit_fault c.args.file.now _ _ _ _ _ (c.is_looked_at.ensures c.args.words.now) (ap not c.if-not-is_looked_at.false) Misvalued (stray_fault c.args.file.now _ _ _ _ _ _ x _ _ c.fault_of.ensures (none_of _ c.in_default.not-Some) _ _ c.is_worded.ensures y.strays c.if-is_worded-inside.true) _ (ready_deep _ _ _ _ c.requires.0) _ (c.move_to.ensures.0 _ ∙ (c.refused-strayed.ensures.0 _ ∙ refused_same _ _ _ Misvalued c.args.walk.at)); ends = c.move_to.ensures.1 ∙ y.ends; sound = sound_refused _ _ _ (c.move_to.ensures.2 ∙ c.refused-strayed.ensures.2) }

pub visit-shape_of-words : goal.visit-shape_of-words
visit-shape_of-words t c = c.visit_inside-inside.auto.words ∙ c.enter-entered.auto.words

pub visit-returns : goal.visit-returns
visit-returns t c = let x = read_here c.args.file.now _ _ _ _ _ _ c.requires.1 c.gather-body.ensures.0 c.gather-body.ensures.1 c.read_text-said.ensures _ c.is_none-misspelt.ensures _ c.unwrap_or-number.ensures in
    let y = inside_moved c.args.file.now _ _ _ _ _ _ _ c.enter-entered.ensures.stays c.visit_inside-inside.ensures in
    record { walks = visit_good c.args.file.now _ _ _ _ _ (c.is_looked_at.ensures c.args.words.now) (ap not c.if-not-is_looked_at.false) (no_fault c.args.file.now _ _ _ _ _ _ x _ _ c.fault_of.ensures (none_of _ c.in_default.not-Some) _ _ c.is_worded.ensures y.strays c.if-is_worded-inside.false) _ (ready_deep _ _ _ _ c.requires.0) _ _ (entered_is c.args.file.now _ _ _ _ _ _ x _ _ c.enter-entered.ensures.walks) y.walks; ends = y.ends; sound = y.sound }

pub visit_inside-loop-all-init : goal.visit_inside-loop-all-init
visit_inside-loop-all-init t c = (inner_start_lem c.args.file.now _ _ _ c.requires.0 _ _ _ _ _ (sym c.requires.1 ∙ c.in-Open.is) c.move_to-all.ensures.1 refl, refl, sound_same _ _ _ c.requires.0.sound c.move_to-all.ensures.2)

pub visit_inside-loop-all-smaller-in-Text : goal.visit_inside-loop-all-smaller-in-Text
visit_inside-loop-all-smaller-in-Text t c = let l = low_of is_blank c.args.file.now c.loop-all.all.at _ c.blanks_end.ensures in
    let h = item_from c.args.file.now c.blanks_end.result _ (sym c.in-Text.is ∙ c.item_at.ensures) in
    omega (arith, h.0, h.1, l, c.loop-all-test.true)

pub visit_inside-loop-all-preserved-in-Text : goal.visit_inside-loop-all-preserved-in-Text
unfolding found
visit_inside-loop-all-preserved-in-Text t c = (inner_passed c.args.file.now _ _ _ _ _ _ _ _ c.loop-all.all.at c.loop-all.invariant.0 c.blanks_end.ensures (Item.Text _) (sym c.in-Text.is ∙ c.item_at.ensures), c.loop-all.invariant.1, c.loop-all.invariant.2)

pub visit_inside-loop-all-smaller-in-Remark : goal.visit_inside-loop-all-smaller-in-Remark
visit_inside-loop-all-smaller-in-Remark t c = let l = low_of is_blank c.args.file.now c.loop-all.all.at _ c.blanks_end.ensures in
    let h = item_from c.args.file.now c.blanks_end.result _ (sym c.in-Remark.is ∙ c.item_at.ensures) in
    omega (arith, h.0, h.1, l, c.loop-all-test.true)

pub visit_inside-loop-all-preserved-in-Remark : goal.visit_inside-loop-all-preserved-in-Remark
unfolding found
visit_inside-loop-all-preserved-in-Remark t c = (inner_remark c.args.file.now _ _ _ _ _ _ _ _ (inner_passed c.args.file.now _ _ _ _ _ _ _ _ c.loop-all.all.at c.loop-all.invariant.0 c.blanks_end.ensures (Item.Remark _) (sym c.in-Remark.is ∙ c.item_at.ensures)) _ (sym c.in-Remark.is ∙ c.item_at.ensures), c.loop-all.invariant.1, c.loop-all.invariant.2)

pub visit_inside-visit-all-requires : goal.visit_inside-visit-all-requires
visit_inside-visit-all-requires t c = (omega arith, (child_ready c.args.file.now _ _ _ _ _ _ _ _ (inner_passed c.args.file.now _ _ _ _ _ _ _ _ c.loop-all.all.at c.loop-all.invariant.0 c.blanks_end.ensures Item.Child (sym c.in-Child.is ∙ c.item_at.ensures)) _ _ _ _ c.requires.0 c.loop-all.invariant.1 (sym c.in-Child.is ∙ c.item_at.ensures) refl c.loop-all.invariant.2, c.child_at-child.ensures.1))

pub visit_inside-loop-all-smaller : goal.visit_inside-loop-all-smaller
visit_inside-loop-all-smaller t c = let l = low_of is_blank c.args.file.now c.loop-all.all.at _ c.blanks_end.ensures in
    let h = skipped_bounds c.args.file.now c.blanks_end.result (item_from c.args.file.now _ Item.Child (sym c.in-Child.is ∙ c.item_at.ensures)) in
    omega (arith, h.0, h.1, l, c.visit-all.ensures.ends, c.loop-all-test.true)

pub visit_inside-loop-all-preserved : goal.visit_inside-loop-all-preserved
unfolding found
visit_inside-loop-all-preserved t c = (inner_child c.args.file.now _ _ _ _ _ _ _ _ (inner_passed c.args.file.now _ _ _ _ _ _ _ _ c.loop-all.all.at c.loop-all.invariant.0 c.blanks_end.ensures Item.Child (sym c.in-Child.is ∙ c.item_at.ensures)) c.requires.0.shallow _ _ _ _ _ (sym c.in-Child.is ∙ c.item_at.ensures) c.child_at-child.ensures.0 c.is_over-surplus.ensures c.visit-all.ensures.walks c.mark-seen.ensures c.visit-all.ensures.ends, c.visit-all.auto.words ∙ c.loop-all.invariant.1, c.visit-all.ensures.sound)

pub visit_inside-shape_of-words-in-Close : goal.visit_inside-shape_of-words-in-Close
visit_inside-shape_of-words-in-Close t c = c.loop-all.invariant.1

pub visit_inside-returns-in-Close : goal.visit_inside-returns-in-Close
unfolding found
visit_inside-returns-in-Close t c = inner_leaves c.args.file.now _ _ _ _ _ _ _ _ (inner_passed c.args.file.now _ _ _ _ _ _ _ _ c.loop-all.all.at c.loop-all.invariant.0 c.blanks_end.ensures (Item.Close _) (sym c.in-Close.is ∙ c.item_at.ensures)) _ _ _ _ (sym c.in-Close.is ∙ c.item_at.ensures) (c.close-in-Close.ensures.0 c.loop-all.words) c.close-in-Close.ensures.1 c.close-in-Close.ensures.2 (sound_same _ _ _ c.loop-all.invariant.2 c.close-in-Close.ensures.3) (ap (λ (r : FoundSoFar). visit_body (visit_from c.args.file.now c.args.left) c.args.file.now c.args.kind r (content_at c.args.file.now c.args.entered.at)) (c.move_to-all.ensures.0 c.args.words.now))

pub visit_inside-shape_of-words-in-Broken-item_at : goal.visit_inside-shape_of-words-in-Broken-item_at
visit_inside-shape_of-words-in-Broken-item_at t c = c.loop-all.invariant.1

pub visit_inside-returns-in-Broken-item_at : goal.visit_inside-returns-in-Broken-item_at
visit_inside-returns-in-Broken-item_at t c = absurd (inner_broken c.args.file.now _ _ _ _ _ _ _ _ (inner_passed c.args.file.now _ _ _ _ _ _ _ _ c.loop-all.all.at c.loop-all.invariant.0 c.blanks_end.ensures Item.Broken (sym c.in-Broken-item_at.is ∙ c.item_at.ensures)) (sym c.in-Broken-item_at.is ∙ c.item_at.ensures))

pub visit_inside-returns-in-Broken : goal.visit_inside-returns-in-Broken
visit_inside-returns-in-Broken t c = absurd (broken_none c.args.file.now _ _ _ c.requires.0 (sym c.in-Broken.is ∙ c.requires.1))

pub visit_inside-returns-in-Empty : goal.visit_inside-returns-in-Empty
visit_inside-returns-in-Empty t c = empty_leaves c.args.file.now _ _ _ c.requires.0 _ _ _ _ _ _ (sym c.in-Empty.is ∙ c.requires.1) refl (c.close-in-Empty.ensures.0 c.args.words.now) c.close-in-Empty.ensures.1 c.close-in-Empty.ensures.2 (sound_same _ _ _ c.requires.0.sound c.close-in-Empty.ensures.3)

pub visit_inside-shape_of-words : goal.visit_inside-shape_of-words
visit_inside-shape_of-words t c = c.loop-all.invariant.1

pub visit_inside-returns-after-loop-all : goal.visit_inside-returns-after-loop-all
visit_inside-returns-after-loop-all t c = absurd (inner_over c.args.file.now _ _ _ c.loop-all.all.at _ _ _ _ c.loop-all.invariant.0 c.loop-all-test.false)
