use Prim.Native.Nat.{◌*◌}
use mathlib.Core.Path.{refl, ap, ◌∙◌}
use Rattle.std.specs.Array.{IsFirstChunk}
use Rattle.event_rules.specs.declared.Event.{Event}
use Rattle.engine.specs.EventCode.{engine_of}
use Rattle.replay.specs.ReplayCode.{step_loaded}
use Rattle.lists.proofs.Parts.{lent}
use Rattle.replay.proofs.Replays.{event_taken, put_there, turns_more, turns_done, replays}
use Rattle.replay.proofs.replay.Goals as goal

pub loop-i-preserved : goal.loop-i-preserved
loop-i-preserved c =
    let taken : IsFirstChunk (lent c.args.events.now (32 * c.loop-i.i)) c.unwrap-event.result.now 32 = rw c.unwrap-event.ensures at c.first_chunk.ensures.cases in
    let e = event_taken c.args.events.now c.unwrap-event.result.now (32 * c.loop-i.i) _ refl taken.same in
    turns_more _ _ _ _ _ _ _ _ _ _ c.loop-i.invariant c.loop-i-test.true _ refl _
    (c.step_loaded-r.ensures ∙ ap (λ (x : Event). step_loaded c.args.words.now c.load-loaded.result (engine_of c.loop-i.s c.loop-i.fired) c.loop-i.k x) e) _
    (put_there c.loop-i.out _ _ (32 * c.loop-i.i) (c.copy_from_slice.ensures.after ∙ c.answer_bytes.ensures _ _ _ _))

pub returns : goal.returns
returns c = replays _ _ _ _ c.load-loaded.ensures _ c.min-n.ensures _ (ap (engine_of c.fresh_running-s.result) c.forget.ensures ∙ c.fresh_running-s.ensures) _ (turns_done _ _ _ _ _ _ _ _ _ _ c.loop-i.invariant c.loop-i-test.false)
