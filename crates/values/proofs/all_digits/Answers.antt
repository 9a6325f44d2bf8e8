use Rattle.std.proofs.Common.{sym, ◌∙◌, arith, ◌<◌}
use Rattle.values.proofs.Numbers.{digit_told, digit_not, digits_more, digits_bad, digits_end, one_more_lem, step_fits}
use Rattle.values.proofs.all_digits.Goals as goal

pub returns-in_err-d : goal.returns-in_err-d
returns-in_err-d c =
    let f : c.from.result < 256 = let g = c.type_inv.text c.loop-b.b-index in omega (arith, c.from.ensures) in
    let b = digit_not c.args.base _ f c.requires.1 c.in_err-d.ensures.value in
    c.from_residual.ensures ∙ sym (digits_bad _ _ _ _ c.loop-b-test.true (rw c.from.ensures at b)) ∙ c.loop-b.invariant.same

pub overflow_mul-v : goal.overflow_mul-v
overflow_mul-v c =
    let d : c.in_ok-d.d < c.args.base = omega (arith, c.in_ok-d.ensures.value.0, c.in_ok-d.ensures.value.1) in
    let h = step_fits c.args.base c.loop-b.v c.in_ok-d.d c.loop-b.b-index c.requires.1 (omega arith) c.loop-b.invariant.small d in
    rw c.from-in-loop-b.ensures (omega arith)

pub overflow_add-v : goal.overflow_add-v
overflow_add-v c =
    let d : c.in_ok-d.d < c.args.base = omega (arith, c.in_ok-d.ensures.value.0, c.in_ok-d.ensures.value.1) in
    let h = step_fits c.args.base c.loop-b.v c.in_ok-d.d c.loop-b.b-index c.requires.1 (omega arith) c.loop-b.invariant.small d in
    rw (c.from-in-loop-b.ensures, c.from-in-loop-b-2.ensures) (omega arith)

pub loop-b-preserved : goal.loop-b-preserved
loop-b-preserved c =
    let f : c.from.result < 256 = let g = c.type_inv.text c.loop-b.b-index in omega (arith, c.from.ensures) in
    let d = digit_told c.args.base _ f c.requires.1 c.in_ok-d.d c.in_ok-d.ensures.value in
    rw (c.from-in-loop-b.ensures, c.from-in-loop-b-2.ensures) (record {
      same = sym (digits_more _ _ _ _ _ c.loop-b-test.true (rw c.from.ensures at d.0) d.1) ∙ c.loop-b.invariant.same;
      within = omega arith;
      small = one_more_lem _ _ _ _ c.requires.1 c.loop-b.invariant.small d.1;
    })

pub returns : goal.returns
returns c = sym (digits_end _ _ _ _ c.loop-b-test.false) ∙ c.loop-b.invariant.same
