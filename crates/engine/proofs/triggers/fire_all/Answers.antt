use native.Mathlib.Omega.{arith}
use mathlib.Core.Path.{◌≡◌, refl, ◌∙◌}
use lib.ListN.{length}
use Rattle.engine.proofs.TriggersLoops.{fire_start, fire_turn, fire_end}
use borrow.Author.Rules.{rules}
use Rattle.engine.proofs.triggers.fire_all.Goals as goal

pub loop-i-init : goal.loop-i-init
loop-i-init c = let z : length c.args.fired.now ≡ 32 = search rules in (omega (arith, z, c.at_most-n.ensures.1), refl, fire_start c.args.triggers.now c.args.count _ _ _ _ (length c.args.fired.now) _ c.at_most-n.ensures.0 z, z)

pub loop-i-preserved : goal.loop-i-preserved
loop-i-preserved c = (
  omega arith,
  omega (arith, c.trigger_size-at.ensures, c.loop-i.invariant.1),
  fire_turn c.args.triggers.now _ _ _ _ _ c.loop-i.at _ c.loop-i-test.true c.tail-rest.result.now c.tail-rest.ensures _ c.trigger_size-at.ensures _ refl _ c.turn_of-turn.ensures ∙ c.loop-i.invariant.2,
  c.loop-i.invariant.3,
)

pub returns : goal.returns
returns c = (fire_end c.args.triggers.now _ c.args.first c.args.e _ c.loop-i.i c.loop-i.at _ c.loop-i-test.false ∙ c.loop-i.invariant.2, c.loop-i.invariant.3)
