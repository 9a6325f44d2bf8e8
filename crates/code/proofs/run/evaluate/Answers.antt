use mathlib.Core.Path.{ap, sym, ◌∙◌}
use mathlib.Core.Bool.{◌&&◌, ◌||◌}
use native.Mathlib.Omega.{arith}
use borrow.Author.Tests.{ltb-true, ltb-false}
use Rattle.std.proofs.lemmas.Option.{MatchOption-at_none, MatchOption-at_some}
use Rattle.code.specs.Code.{limit, top_two}
use Rattle.code.proofs.Stacks.{word_both, word_either, word_not, word_empty, word_push, word_full, word_none, goes_on, stops, ends}
use Rattle.code.proofs.run.evaluate.Goals.{in-32+in_ok-b-in-32+in_ok-a-in-32, in-33+in_ok-b-in-33+in_ok-a-in-33, in-34+in_ok-a-in-34, in-0-to-31+else-not-has_room}
use Rattle.code.proofs.run.evaluate.Goals as goal

pub returns-in_err-b-in-32 : goal.returns-in_err-b-in-32
returns-in_err-b-in-32 c =
    c.from_residual.ensures
    ∙ stops _ _ _ _ c.loop-w.invariant c.loop-w-test.true
    (word_both _ _ _ c.in-32.is ∙ ap (top_two ◌&&◌) (MatchOption-at_none _ _ c.in_err-b-in-32.was c.pop.ensures))

pub returns-in_err-a-in-32 : goal.returns-in_err-a-in-32
returns-in_err-a-in-32 c =
    let p = (MatchOption-at_some _ _ _ c.in_ok-b-in-32.was c.pop.ensures).1 in
    let q = MatchOption-at_none _ _ c.in_err-a-in-32.was c.pop-in-32.ensures in
    c.from_residual-in_err-a-in-32.ensures
    ∙ stops _ _ _ _ c.loop-w.invariant c.loop-w-test.true (word_both _ _ _ c.in-32.is ∙ rw (p, q))

pub returns-in_err-b-in-33 : goal.returns-in_err-b-in-33
returns-in_err-b-in-33 c =
    c.from_residual-in_err-b-in-33.ensures
    ∙ stops _ _ _ _ c.loop-w.invariant c.loop-w-test.true
    (word_either _ _ _ c.in-33.is ∙ ap (top_two ◌||◌) (MatchOption-at_none _ _ c.in_err-b-in-33.was c.pop-in-33.ensures))

pub returns-in_err-a-in-33 : goal.returns-in_err-a-in-33
returns-in_err-a-in-33 c =
    let p = (MatchOption-at_some _ _ _ c.in_ok-b-in-33.was c.pop-in-33.ensures).1 in
    let q = MatchOption-at_none _ _ c.in_err-a-in-33.was c.pop-in-33-2.ensures in
    c.from_residual-in_err-a-in-33.ensures
    ∙ stops _ _ _ _ c.loop-w.invariant c.loop-w-test.true (word_either _ _ _ c.in-33.is ∙ rw (p, q))

pub returns-in_err-a-in-34 : goal.returns-in_err-a-in-34
returns-in_err-a-in-34 c =
    c.from_residual-in_err-a-in-34.ensures
    ∙ stops _ _ _ _ c.loop-w.invariant c.loop-w-test.true
    (word_empty _ _ _ c.in-34.is (MatchOption-at_none _ _ c.in_err-a-in-34.was c.pop-in-34.ensures))

pub returns-then-not-has_room : goal.returns-then-not-has_room
returns-then-not-has_room c =
    let f = ltb-false c.loop-w.s.h limit (sym c.has_room.ensures ∙ c.if-not-has_room.true) in
    stops _ _ _ _ c.loop-w.invariant c.loop-w-test.true (word_full _ _ _ _ (omega arith) f)

pub returns-in_default : goal.returns-in_default
returns-in_default c = stops _ _ _ _ c.loop-w.invariant c.loop-w-test.true (word_none _ _ _ (omega arith))

pub loop-w-preserved : goal.loop-w-preserved
loop-w-preserved c =
    elim c.match-w.branch [
      | in-32+in_ok-b-in-32+in_ok-a-in-32 a ↦
          let p = (MatchOption-at_some _ _ _ a.in_ok-b-in-32.was a.pop.ensures).1 in
          let q = (MatchOption-at_some _ _ _ a.in_ok-a-in-32.was a.pop-in-32.ensures).1 in
          rw (a.s-is, a.push-s.ensures) (goes_on _ _ _ _ c.loop-w.invariant c.loop-w-test.true (word_both _ _ _ a.in-32.is ∙ rw (p, q)))
      | in-33+in_ok-b-in-33+in_ok-a-in-33 a ↦
          let p = (MatchOption-at_some _ _ _ a.in_ok-b-in-33.was a.pop-in-33.ensures).1 in
          let q = (MatchOption-at_some _ _ _ a.in_ok-a-in-33.was a.pop-in-33-2.ensures).1 in
          rw (a.s-is, a.push-s-in-33.ensures) (goes_on _ _ _ _ c.loop-w.invariant c.loop-w-test.true (word_either _ _ _ a.in-33.is ∙ rw (p, q)))
      | in-34+in_ok-a-in-34 a ↦
          let p = (MatchOption-at_some _ _ _ a.in_ok-a-in-34.was a.pop-in-34.ensures).1 in
          rw (a.s-is, a.push-s-in-34.ensures) (goes_on _ _ _ _ c.loop-w.invariant c.loop-w-test.true (rw p (word_not _ _ _ _ a.in-34.is)))
      | in-0-to-31+else-not-has_room a ↦
          let f = ltb-true c.loop-w.s.h limit (sym a.has_room.ensures ∙ a.if-not-has_room.false) in
          rw (a.s-is, a.push-s-in-0-to-31.ensures) (goes_on _ _ _ _ c.loop-w.invariant c.loop-w-test.true (word_push _ _ _ _ (omega arith) f))
    ]

pub returns : goal.returns
returns c = c.value_left.ensures ∙ ends _ _ _ _ c.loop-w.invariant c.loop-w-test.false
