-- A refusal's byte is its number: no event is refused by one above 255, and no other answer has a byte from 20 on.
use Prim.Native.Nat.{ℕ, ◌≤◌, ◌<◌}
use mathlib.Core.Path.{◌≡◌, refl, ap}
use mathlib.Core.Logic.{◌↔◌}
use native.Mathlib.Omega.{arith}
use Rattle.std.proofs.Common.{Option, None, Some}
use Rattle.event_rules.specs.declared.Event.{Event}
use Rattle.event_rules.specs.declared.Event.TheVariants.{Frame as frame, Tick as tick}
use Rattle.event_rules.specs.declared.Refusal.{Refusal}
use Rattle.event_rules.specs.declared.Engine.{Engine}
use Rattle.event_rules.specs.declared.Counts.{Counts}
use Rattle.event_rules.specs.declared.Answer.{Answer}
use Rattle.event_rules.specs.declared.Answer.TheVariants as answers
use Rattle.event_rules.specs.Rules.{Config, answering, Result}
use Rattle.event_rules.specs.Calls.{refusal_number, event_refusal, answer_refusal, unless_refused, step}
use Rattle.event_rules.proofs.Outcomes.{refusal_range, Count, recorded, idle, stopped, halted, answer_of, ProcessGives, given, fails, process_gives}
use Rattle.replay.specs.Wire.{answer_byte}

abbrev number_of : Answer → ℕ
number_of answers.Recorded = 0
number_of answers.Idle = 0
number_of answers.Stopped = 0
number_of answers.Halted = 0
number_of answers.Ticked = 0
number_of (answers.Refused r) = refusal_number r

small_given : (e : Event) (w : Count) → number_of (answering e (answer_of w)) < 256
small_given (frame f) recorded = omega arith
small_given (frame f) idle = omega arith
small_given (frame f) stopped = omega arith
small_given (frame f) halted = omega arith
small_given (tick u) w = omega arith

small_step : (c : Config) (en : Engine) (k : Counts) (e : Event) → number_of (step c en k e).answer < 256
unfolding step
small_step c en k e = go (event_refusal c en k e) refl (process_gives c en e)
  where
    go : (o : Option Refusal) → event_refusal c en k e ≡ o → {x : Result} → ProcessGives e x
        → number_of (unless_refused o en k x).answer < 256
    go None q (given w after) = small_given e w
    go None q fails = omega arith
    go (Some r) q x = omega (arith, (refusal_range c en k e r q).1)

-- the byte of an answer that is a refusal, and no other byte, is its number
told_by : (a : Answer) (n : ℕ) → number_of a < 256 → 20 ≤ n → answer_byte a ≡ n → answer_refusal a ≡ Some (n, 0)
told_by answers.Recorded n s h e = absurd (omega (arith, h, e))
told_by answers.Idle n s h e = absurd (omega (arith, h, e))
told_by answers.Stopped n s h e = absurd (omega (arith, h, e))
told_by answers.Halted n s h e = absurd (omega (arith, h, e))
told_by answers.Ticked n s h e = absurd (omega (arith, h, e))
told_by (answers.Refused r) n s h e =
    let q : refusal_number r ≡ n = omega (arith, s, e) in
    ap (λ (k : ℕ). Some (k, 0)) q

tells : (a : Answer) (n : ℕ) → number_of a < 256 → answer_refusal a ≡ Some (n, 0) → answer_byte a ≡ n
tells answers.Recorded n s e = cc
tells answers.Idle n s e = cc
tells answers.Stopped n s e = cc
tells answers.Halted n s e = cc
tells answers.Ticked n s e = cc
tells (answers.Refused r) n s e =
    let q : ◌≡◌ {A = ℕ × ℕ} (refusal_number r, 0) (n, 0) = cc in
    omega (arith, s, ap (λ (p : ℕ × ℕ). p.0) q)

pub byte_exactly : (c : Config) (en : Engine) (k : Counts) (e : Event) (n : ℕ) → 20 ≤ n
    → (answer_byte (step c en k e).answer ≡ n) ↔ (answer_refusal (step c en k e).answer ≡ Some (n, 0))
byte_exactly c en k e n h =
    let s = small_step c en k e in
    (told_by (step c en k e).answer n s h, tells (step c en k e).answer n s)
