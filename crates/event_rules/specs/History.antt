-- Paper 01, "One event" (the counts) and "What the contracts settle" (the counts of the history): lists of events, what the rules give for
-- them, and event calls one after the other.
use Rattle.std.specs.Prelude.{ℕ, ◌+◌, List, [], ◌∷◌, Option, None, Some}
use Rattle.event_rules.specs.Types.{Event, frame, tick, Engine, Counts, Outcome}
use Rattle.event_rules.specs.Rules.{Config}
use Rattle.event_rules.specs.Calls.{counted, answer_refusal, step, Answers}

-- what the rules give for a list of events: each finds the state and the counts that the one before left
unfoldable pub outcomes : Config → Engine → Counts → List Event → List Outcome
outcomes c en k [] = []
outcomes c en k (e ∷ es) = step c en k e ∷ outcomes c (step c en k e).engine (step c en k e).counts es

-- event calls in turn, the words ws lent to each: each call on the state and the counts that the one before gave back
pub data CallsInTurn (ws : List ℕ) : Engine → Counts → List Event → List Outcome → Type 0 where
  over : (en : Engine) (k : Counts) → CallsInTurn ws en k [] []
  call :
      (en : Engine) (k : Counts) (e : Event) (es : List Event) (o : Outcome) (os : List Outcome)
      → Answers ws en k e o
      → CallsInTurn ws o.engine o.counts es os
      → CallsInTurn ws en k (e ∷ es) (o ∷ os)

-- "Four counts (Recorded, Idle, Stopped, Halted) are the numbers of such answers in the history": from k, one more for each answer
unfoldable pub counted_all : Counts → List Outcome → Counts
counted_all k [] = k
counted_all k (o ∷ os) = counted_all (counted k o.answer) os

-- the counts that the last outcome has, or k where there is none
unfoldable pub counts_after : Counts → List Outcome → Counts
counts_after k [] = k
counts_after k (o ∷ os) = counts_after o.counts os

-- "their sum is the frames accepted": a frame whose answer is no refusal
abbrev pub sum_of : Counts → ℕ
sum_of k = k.recorded + k.idle + k.stopped + k.halted

abbrev pub accepted : Event → Option (ℕ × ℕ) → ℕ
accepted (frame f) None = 1
accepted (frame f) (Some refusal) = 0
accepted (tick u) refusal = 0

unfoldable pub accepted_frames : List Event → List Outcome → ℕ
accepted_frames [] os = 0
accepted_frames (e ∷ es) [] = 0
accepted_frames (e ∷ es) (o ∷ os) = accepted e (answer_refusal o.answer) + accepted_frames es os
