use native.Mathlib.Omega.{arith}
use Rattle.std.proofs.Common.{rules, ◌≡◌, ◌≤◌}
use mathlib.Core.Path.{refl, ap, ◌∙◌}
use mathlib.Core.List.{append-nil}
use lib.ListN.{length, get_or, set, length-set, drop_of_length-le}
use lib.Seq.{take_all}
use Rattle.std.proofs.lemmas.List.{get_or_default}
use Rattle.std.proofs.lemmas.List.Edits.{map_over_more}
use Rattle.engine.specs.TriggersCode.{never}
use Rattle.replay.specs.ReplayCode.{forgotten}
use Rattle.replay.proofs.forget.Goals as goal

pub loop-i-init : goal.loop-i-init
loop-i-init c = (search rules, search rules, refl)

pub loop-i-preserved : goal.loop-i-preserved
loop-i-preserved c =
    let x = get_or c.loop-i.fired c.loop-i.i never in (
      c.loop-i.invariant.0,
      length-set c.loop-i.fired c.loop-i.i _ ∙ c.loop-i.invariant.1,
      rw c.forget_one.ensures (map_over_more forgotten c.args.fired.now c.loop-i.fired c.loop-i.i x (omega (arith, c.loop-i.invariant.0, c.loop-i-test.true)) c.loop-i.invariant.2
          (get_or_default c.loop-i.fired c.loop-i.i never x (omega (arith, c.loop-i.invariant.1, c.loop-i-test.true)))),
    )

pub returns : goal.returns
returns c =
    let h : length c.args.fired.now ≤ c.loop-i.i = omega (arith, c.loop-i.invariant.0, c.loop-i-test.false) in
    c.loop-i.invariant.2 ∙ rw (take_all c.loop-i.i c.args.fired.now h, drop_of_length-le c.args.fired.now h) (append-nil _)
