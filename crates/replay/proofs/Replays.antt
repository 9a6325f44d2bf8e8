-- The loop over a replay's events, and what the loader's answer makes of it.
use Prim.Native.Nat.{ℕ, zero, suc, ◌+◌, ◌-◌, ◌*◌, ◌≤◌, ◌<◌}
use mathlib.Core.Path.{◌≡◌, refl, sym, ap, subst, ◌∙◌}
use mathlib.Core.List.{List, ◌∷◌, ◌++◌, append_assoc, append-nil}
use native.Mathlib.Omega.{arith}
use lib.ListN.{length, take, drop}
use lib.Seq.{drop-drop}
use borrow.Rule.Slice.PartMut.{put_mid, Post-is}
use Rattle.std.proofs.lemmas.List.{get_or-take}
use Rattle.loader.specs.Plan.{Plan, PlanOf, Loads}
use Rattle.loader.specs.declared.Layout.{Layout}
use Rattle.std.specs.Prelude.{Option, None, Some}
use Rattle.loader.proofs.Exact as exact
use Rattle.event_rules.specs.declared.Event.{Event}
use Rattle.event_rules.specs.declared.Engine.{Engine}
use Rattle.event_rules.specs.declared.Counts.{Counts}
use Rattle.event_rules.specs.declared.Outcome.{Outcome}
use Rattle.event_rules.specs.Rules.{Config}
use Rattle.event_rules.specs.Calls.{fresh, config_of, step}
use Rattle.replay.specs.Wire.{bytes_at, frame_at, event_at, answer_bytes}
use Rattle.replay.proofs.Bytes.{length_answer}
use Rattle.lists.specs.FillsCode.{Filled}
use Rattle.lists.proofs.Fills.{filled_all, filled_take, filled_more}
use Rattle.replay.specs.ReplayCode.{step_loaded}
use Rattle.replay.specs.Replay.{replayed, events_answered, Replays, by_plan, no_plan}
use Rattle.engine.proofs.EventPlans.{taken, read_is}
use Rattle.lists.proofs.Parts.{fuel, spent, lent, lent_is}

-- 32 bytes are all that an event is
bytes_front : (s : List ℕ) (from size : ℕ) → from + size ≤ 32 → bytes_at from size (take 32 s) ≡ bytes_at from size s
unfolding bytes_at
bytes_front s from zero h = refl
bytes_front s from (suc size) h = λ i. get_or-take 32 s from 0 (omega arith) i ∷ bytes_front s (from + 1) size (omega arith) i

event_front : (s : List ℕ) → event_at (take 32 s) ≡ event_at s
unfolding frame_at
event_front s =
    rw (
      get_or-take 32 s 0 0 (omega arith),
      get_or-take 32 s 1 0 (omega arith),
      get_or-take 32 s 2 0 (omega arith),
      get_or-take 32 s 3 0 (omega arith),
      bytes_front s 4 4 (omega arith),
      bytes_front s 8 8 (omega arith),
      bytes_front s 16 8 (omega arith),
    )

-- so the chunk that is taken from `at` on is the event that stands there
pub event_taken : (events c : List ℕ) (at : ℕ) (e : Event) → e ≡ event_at c → c ≡ take 32 (lent events at) → e ≡ event_at (drop at events)
event_taken events c at e q z =
    q ∙ ap event_at (z ∙ ap (take 32) (lent_is events at)) ∙ event_front (drop at events)

-- and an answer's bytes are written into 32 of the room's
pub put_there : (out p w : List ℕ) (at : ℕ) → p ≡ w → put_mid at (at + 32 - at) out p ≡ take at out ++ (w ++ drop (at + 32) out)
put_there out p w at q = rw (q, Post-is at (at + 32) out (omega arith)) refl

-- ---- the loop over events: i of n are answered, and the next stands at `at`
module _ (by : Engine → Counts → Event → Outcome) where
  pub record Turns (n : ℕ) (events d all : List ℕ) (at i : ℕ) (en : Engine) (k : Counts) (e : List ℕ) : Type 0 where
    pub upto : i ≤ n
    pub place : at ≡ 32 * i
    pub enough : 32 * n ≤ length events
    pub room : 32 * n ≤ length d
    pub filled : Filled (take at e) d e at
    pub left : take at e ++ replayed by (n - i) (drop at events) en k ≡ all

  module _ (n : ℕ) (events d all : List ℕ) (at i : ℕ) (en : Engine) (k : Counts) (e : List ℕ) (t : Turns n events d all at i en k e) where
    pub turns_more : i < n → (next : ℕ) → next ≡ 32 * (i + 1) → (o : Outcome) → o ≡ by en k (event_at (drop at events)) → (f : List ℕ)
        → f ≡ take at e ++ (answer_bytes o ++ drop (at + 32) e)
        → Turns n events d all next (i + 1) o.engine o.counts f
    unfolding replayed
    turns_more h next m o q f g =
        let z : at + 32 ≡ next = omega (arith, t.place) in
        subst (λ (b : ℕ). Turns n events d all b (i + 1) o.engine o.counts f) z (
        let x =
        filled_more (take at e) d e at t.filled (answer_bytes o) f 32 (length_answer o) (omega (arith, t.place, t.room)) g in
        let a = rw (fuel n i h, sym q, drop-drop 32 at events) at t.left in
        record {
          upto = omega arith;
          place = omega (arith, t.place);
          enough = t.enough;
          room = t.room;
          filled = filled_take x;
          left =
              rw (
                x.words,
                append_assoc (take at e) (answer_bytes o)
                    (replayed by (n - (i + 1)) (drop (at + 32) events) o.engine o.counts),
              ) a;
        })

    pub turns_done : n ≤ i → e ≡ all ++ drop (32 * n) d
    unfolding replayed
    turns_done h =
        let j : at ≡ 32 * n = omega (arith, t.place, t.upto) in
        let a = rw (spent n i h, append-nil (take at e)) at t.left in
        filled_all t.filled ∙ rw (a, j)

-- the whole replay
pub replays : {ws : List ℕ} (loaded : Option Layout) (events : List ℕ) (k : Counts) (out : List ℕ) → Loads ws loaded → (n : ℕ)
    → n ≡ events_answered events out
    → (en : Engine) → en ≡ fresh → (after : List ℕ) → after ≡ replayed (step_loaded ws loaded) n events en k ++ drop (32 * n) out
    → (n ≡ events_answered events out) × Replays ws events k out after
replays {ws} loaded events k out l n q en f after e = (
  q,
  go loaded l (e ∙ ap (λ (m : ℕ). replayed (step_loaded ws loaded) m events en k ++ drop (32 * m) out) q
      ∙ ap
      (λ (x : Engine). replayed (step_loaded ws loaded) (events_answered events out) events x k
      ++ drop (32 * events_answered events out) out) f),
)
  where
    go : (loaded : Option Layout) → Loads ws loaded
        → after ≡ replayed (step_loaded ws loaded) (events_answered events out) events fresh k ++ drop (32 * events_answered events out) out
        → Replays ws events k out after
    go (Some lay) l e =
        subst (Replays ws events k out)
        (sym (e ∙ ap (λ (p : Plan). replayed (step (config_of p)) (events_answered events out) events fresh k
        ++ drop (32 * events_answered events out) out) (read_is l)))
        (by_plan (taken l))
    go None l e = subst (Replays ws events k out) (sym e) (no_plan (exact.no_plan l))

-- what a replay leaves is determined
pub replays_once : {ws events : List ℕ} {k : Counts} {out a b : List ℕ} → Replays ws events k out a → Replays ws events k out b → a ≡ b
replays_once {ws} {events} {k} {out} (by_plan p) (by_plan q) =
    ap (λ (x : Plan). replayed (step (config_of x)) (events_answered events out) events fresh k ++ drop (32 * events_answered events out) out)
    (exact.one_plan p q)
replays_once (by_plan p) (no_plan n) = absurd (n p)
replays_once (no_plan n) (by_plan q) = absurd (n q)
replays_once (no_plan n) (no_plan m) = refl

-- and is that of a configuration which every plan of the words has
pub replay_is : (ws events : List ℕ) (k : Counts) (out after : List ℕ) (c : Config) → ((p : PlanOf ws) → config_of p.plan ≡ c)
    → PlanOf ws
    → Replays ws events k out after
    → after ≡ replayed (step c) (events_answered events out) events fresh k ++ drop (32 * events_answered events out) out
replay_is ws events k out after c same p (by_plan q) =
    ap (λ (x : Config). replayed (step x) (events_answered events out) events fresh k ++ drop (32 * events_answered events out) out) (same q)
replay_is ws events k out after c same p (no_plan n) = absurd (n p)
