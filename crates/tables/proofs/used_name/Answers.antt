use mathlib.Core.Path.{sym}
use native.Mathlib.Omega.{arith}
use lib.Seq.{length-take-le}
use Rattle.tables.proofs.Turns.{passed_first, passed_hit, passed_on, passed_all}
use Rattle.tables.proofs.used_name.Goals as goal

pub loop-i-init : goal.loop-i-init
loop-i-init c = passed_first _ _ _ _

pub bounds-ends-i : goal.bounds-ends-i
bounds-ends-i c = omega (arith, c.requires.0, c.loop-i-test.true)

pub bounds-places-i : goal.bounds-places-i
bounds-places-i c = omega (arith, c.requires.1, c.loop-i-test.true)

pub slice_bounds-is_used-end : goal.slice_bounds-is_used-end
slice_bounds-is_used-end c = sym (length-take-le c.loop-i.i c.args.starts.now (omega (arith, c.loop-i-test.true)))

pub slice_bounds-is_used-end-in-loop-i : goal.slice_bounds-is_used-end-in-loop-i
slice_bounds-is_used-end-in-loop-i c = sym (length-take-le c.loop-i.i c.args.ends.now (omega (arith, c.requires.0, c.loop-i-test.true)))

pub returns-then-is_used : goal.returns-then-is_used
returns-then-is_used c = passed_hit c.args.file.now c.args.starts.now c.args.ends.now c.args.places.now c.requires.0 c.requires.1 _ c.loop-i.invariant _ c.is_used.ensures c.loop-i-test.true c.if-is_used.true

pub loop-i-preserved : goal.loop-i-preserved
loop-i-preserved c = (passed_on c.args.file.now c.args.starts.now c.args.ends.now c.args.places.now c.requires.0 c.requires.1 _ c.loop-i.invariant _ c.is_used.ensures c.loop-i-test.true c.if-is_used.false)

pub returns : goal.returns
returns c = passed_all c.args.file.now c.args.starts.now c.args.ends.now c.args.places.now c.requires.0 c.requires.1 _ c.loop-i.invariant c.loop-i-test.false
