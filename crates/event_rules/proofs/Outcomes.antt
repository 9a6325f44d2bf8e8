-- What one event can give: a refusal that changes nothing, or an answer that is counted.
use Prim.Native.Nat.{◌≤◌}
use native.Mathlib.Omega.{arith}
use mathlib.Core.Path.{◌≡◌, refl, subst}
use mathlib.Core.List.{List, [], ◌∷◌, ◌++◌}
use mathlib.Core.Bool.{Bool, true, false, not, cond}
use Rattle.std.proofs.Common.{Option, None, Some}
use lib.Dec.{leb}
use Rattle.event_rules.specs.Types.{Event, frame, tick, Refusal, NoChannel, BadTime, OutOfRange, CountsFull, CodeFault, Logging, Off, On, Ending, EndingCompletely, Halted, Engine, Counts, Answer, Outcome}
use Rattle.event_rules.specs.declared.Answer.TheVariants as answers
use Rattle.event_rules.specs.Rules.{Config, time_of, answering, is_halted, ended_by, passes, states, evaluated, recorded_or_idle, Result, gives, faults, acted, triggered, answered, process}
use Rattle.event_rules.specs.Calls.{no_counts, late, out_of_range, full, refusal_number, event_refusal, answer_refusal, refused, closed, unless_refused, step}
use Rattle.event_rules.specs.History.{outcomes}

-- the refusals of an event on a plan: 21 to 24
abbrev Ranged : Option Refusal → Type 0
Ranged o = (r : Refusal) → o ≡ Some r → (21 ≤ refusal_number r) × (refusal_number r ≤ 24)

or_ranged : (b : Bool) (r : Refusal) (o : Option Refusal) → 21 ≤ refusal_number r → refusal_number r ≤ 24 → Ranged o
    → Ranged (cond b (Some r) o)
or_ranged true r o l h g s q = let e : r ≡ s = cc in rw (← e) (l, h)
or_ranged false r o l h g s q = g s q

none_ranged : Ranged None
none_ranged r q = cc

pub refusal_range : (c : Config) (en : Engine) (k : Counts) (e : Event) (r : Refusal) → event_refusal c en k e ≡ Some r
    → (21 ≤ refusal_number r) × (refusal_number r ≤ 24)
refusal_range c en k (frame f) =
    or_ranged (leb c.channels f.channel) NoChannel _ (omega arith) (omega arith)
    (or_ranged (late en.last f.time) BadTime _ (omega arith) (omega arith)
    (or_ranged (out_of_range f) OutOfRange _ (omega arith) (omega arith)
    (or_ranged (full k) CountsFull None (omega arith) (omega arith) none_ranged)))
refusal_range c en k (tick u) = or_ranged (late en.last u) BadTime None (omega arith) (omega arith) none_ranged

-- one of the four counts
pub data Count : Type 0 where
  recorded idle stopped halted : Count

-- the answer that it counts
abbrev pub answer_of : Count → Answer
answer_of recorded = answers.Recorded
answer_of idle = answers.Idle
answer_of stopped = answers.Stopped
answer_of halted = answers.Halted

pub not_refusal : (e : Event) (w : Count) → answer_refusal (answering e (answer_of w)) ≡ None
not_refusal (frame f) recorded = refl
not_refusal (frame f) idle = refl
not_refusal (frame f) stopped = refl
not_refusal (frame f) halted = refl
not_refusal (tick u) w = refl

-- an event that is not refused goes no further, with one of the four answers, or comes to the triggers
module _ (P : Result → Type 0) (c : Config) (en : Engine) (e : Event) where
  pub process_cases : ((l : Logging) (w : Count) → P (answered en l e (answer_of w))) → ((l : Logging) → P (triggered c en l e))
      → P (process c en e)
  unfolding process
  process_cases stays comes =
      go (ended_by (time_of e) en.logging) (is_halted (ended_by (time_of e) en.logging)) (not (passes c.filters e)) c.log_all
    where
      go : (l : Logging) (h s a : Bool)
          → P
          (cond h (answered en l e answers.Halted)
          (cond s (answered en l e answers.Stopped) (cond a (answered en l e answers.Recorded) (triggered c en l e))))
      go l true s a = stays l halted
      go l false true a = stays l stopped
      go l false false true = stays l recorded
      go l false false false = comes l

-- its result: such an answer, a tick's being Ticked, or a fault
pub data ProcessGives (e : Event) : Result → Type 0 where
  given : (w : Count) (after : Engine) → ProcessGives e (gives (answering e (answer_of w)) after)
  fails : ProcessGives e faults

-- and its outcome
pub data StepGives (en : Engine) (k : Counts) (e : Event) : Outcome → Type 0 where
  refuses : (r : Refusal) → StepGives en k e (refused r en k)
  accepts : (w : Count) (after : Engine) → StepGives en k e (closed en k (gives (answering e (answer_of w)) after))

module _ (c : Config) (en : Engine) (e : Event) where
  settled_gives : (after : Engine) → ProcessGives e (gives (answering e (recorded_or_idle after.logging)) after)
  settled_gives after = go after.logging
    where
      go : (l : Logging) → ProcessGives e (gives (answering e (recorded_or_idle l)) after)
      go Off = given idle _
      go On = given recorded _
      go (Ending t) = given recorded _
      go (EndingCompletely t) = given recorded _
      go Halted = given idle _

  acted_gives : (l : Logging) (o : Option (List Bool)) → ProcessGives e (acted c en l e o)
  acted_gives l None = fails
  acted_gives l (Some now) = settled_gives (closed en no_counts (acted c en l e (Some now))).engine

  triggered_gives : (l : Logging) → ProcessGives e (triggered c en l e)
  unfolding triggered
  triggered_gives l = acted_gives l (evaluated c.statements (states c.triggers (not en.started) e en.fired))

  pub process_gives : ProcessGives e (process c en e)
  process_gives = process_cases (ProcessGives e) c en e (λ l w. given w _) triggered_gives

  pub step_gives : (k : Counts) → StepGives en k e (step c en k e)
  unfolding step
  step_gives k = go (event_refusal c en k e) process_gives
    where
      go : (o : Option Refusal) {r : Result} → ProcessGives e r
          → StepGives en k e (unless_refused o en k r)
      go None (given w after) = accepts w after
      go None fails = refuses CodeFault
      go (Some x) g = refuses x

-- what holds of each event's outcome holds of each in a history
pub each_outcome : (P : Outcome → Type 0) (c : Config) → ((en : Engine) (k : Counts) (e : Event) → P (step c en k e))
    → (en : Engine) (k : Counts) (es : List Event) (before : List Outcome) (o : Outcome) (behind : List Outcome)
    → outcomes c en k es ≡ before ++ (o ∷ behind) → P o
unfolding outcomes
each_outcome P c holds en k [] [] o behind h = absurd (cc)
each_outcome P c holds en k [] (b ∷ before) o behind h = absurd (cc)
each_outcome P c holds en k (e ∷ es) [] o behind h = let same : step c en k e ≡ o = cc in subst P same (holds en k e)
each_outcome P c holds en k (e ∷ es) (b ∷ before) o behind h =
    each_outcome P c holds (step c en k e).engine (step c en k e).counts es before o behind (cc)
