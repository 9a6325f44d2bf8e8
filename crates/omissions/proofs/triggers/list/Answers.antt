use native.Mathlib.Omega.{arith}
use borrow.Author.Rules.{rules}
use Prim.Native.Nat.{◌<◌}
use lib.ListN.{length}
use Rattle.tables.proofs.RowsTurns.{entries_few}
use Rattle.omissions.proofs.TriggersTurns.{laying_none, laying_more, laying_same, laying_all}
use Rattle.omissions.proofs.triggers.list.Goals as goal

pub loop-element-init : goal.loop-element-init
loop-element-init c = (tt, tt, rw c.into_iter-element-iterator.ensures.into_iter_gives (laying_none _ _ _))

pub overflow_add-n : goal.overflow_add-n
overflow_add-n c = let w : length c.args.words.now < 18446744073709551615 = search rules in
    let m = laying_more _ _ _ _ _ c.loop-element.invariant.2 c.in-Some.ensures.steps.0 _ c.is_unnamed.ensures c.if-is_unnamed.true _ c.place.ensures _ c.put.ensures in
    omega (arith, w, m.few, entries_few c.args.words.now)

pub loop-element-preserved-then-is_unnamed : goal.loop-element-preserved-then-is_unnamed
loop-element-preserved-then-is_unnamed c = (tt, tt, laying_more _ _ _ _ _ c.loop-element.invariant.2 c.in-Some.ensures.steps.0 _ c.is_unnamed.ensures c.if-is_unnamed.true _ c.place.ensures _ c.put.ensures)

pub loop-element-preserved : goal.loop-element-preserved
loop-element-preserved c = (tt, tt, laying_same _ _ _ _ _ c.loop-element.invariant.2 c.in-Some.ensures.steps.0 _ c.is_unnamed.ensures c.if-is_unnamed.false)

pub returns : goal.returns
returns c = laying_all _ _ _ _ _ c.loop-element.invariant.2 c.in-None.ensures.steps.0
