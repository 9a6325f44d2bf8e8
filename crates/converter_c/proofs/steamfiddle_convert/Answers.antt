-- `steamfiddle_convert` meets its contract: the number says what `convert` answered, and no place is too large for it.
use native.Mathlib.Omega.{arith}
use Rattle.converter_c.proofs.Packing.{packed_words, packed_refused, place_fits}
use Rattle.converter_c.proofs.steamfiddle_convert.Goals as goal

pub overflow_add-result : goal.overflow_add-result
overflow_add-result c = let h = place_fits c.args.file.now c.args.plan.now _ _ c.convert.ensures _ _ c.in-Err.is in omega (arith, h.0, h.1)

pub returns-in-Ok : goal.returns-in-Ok
returns-in-Ok c = packed_words c.args.file.now c.args.plan.now _ _ c.convert.ensures _ c.in-Ok.is

pub returns-in-Err : goal.returns-in-Err
returns-in-Err c = packed_refused c.args.file.now c.args.plan.now _ _ c.convert.ensures _ _ c.in-Err.is
