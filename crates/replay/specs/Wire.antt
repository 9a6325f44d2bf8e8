-- Paper 01, "One event" (its events and answers), as bytes of a replay: an event is 32 bytes, and so is an answer; numbers low byte first.
use Rattle.std.specs.Prelude.{ℕ, zero, suc, ◌+◌, ◌*◌, ◌/◌, ◌%◌, List, [], ◌∷◌, ◌++◌, Bool, cond, get_or, eqb}
use Rattle.event_rules.specs.declared.Frame.{Frame}
use Rattle.event_rules.specs.declared.Event.{Event}
use Rattle.event_rules.specs.declared.Event.TheVariants.{Frame as frame, Tick as tick}
use Rattle.event_rules.specs.declared.Logging.{Logging}
use Rattle.event_rules.specs.declared.Logging.TheVariants.{Off, On, Ending, EndingCompletely, Halted}
use Rattle.event_rules.specs.declared.Answer.{Answer}
use Rattle.event_rules.specs.declared.Outcome.{Outcome}
use Rattle.event_rules.specs.declared.Answer.TheVariants as answers
use Rattle.event_rules.specs.declared.Answer.TheVariants.{Recorded, Idle, Stopped, Ticked, Refused}
use Rattle.event_rules.specs.Calls.{refusal_number}

-- a number from its bytes, and its bytes
unfoldable pub from_bytes : List ℕ → ℕ
from_bytes [] = 0
from_bytes (b ∷ rest) = b + 256 * from_bytes rest

unfoldable pub bytes_of : ℕ → ℕ → List ℕ
bytes_of zero x = []
bytes_of (suc n) x = x % 256 ∷ bytes_of n (x / 256)

-- a byte that is missing counts as 0
unfoldable pub bytes_at : ℕ → ℕ → List ℕ → List ℕ
bytes_at from zero s = []
bytes_at from (suc size) s = get_or s from 0 ∷ bytes_at (from + 1) size s

abbrev pub bit : ℕ → ℕ → Bool
bit weight flags = eqb (flags / weight % 2) 1

-- 0 kind (0 tick, any other a frame), 1 flags (1 error, 2 remote, 4 ext, summed), 2 channel, 3 dlc, 4-7 id, 8-15 time in µs, 16-23 data;
-- higher flags and bytes 24-31 are not looked at
unfoldable pub frame_at : List ℕ → Frame
frame_at s = record {
  channel = get_or s 2 0;
  time = from_bytes (bytes_at 8 8 s);
  error = bit 1 (get_or s 1 0);
  remote = bit 2 (get_or s 1 0);
  ext = bit 4 (get_or s 1 0);
  id = from_bytes (bytes_at 4 4 s);
  dlc = get_or s 3 0;
  bytes = bytes_at 16 8 s;
}

abbrev pub event_at : List ℕ → Event
event_at s = cond (eqb (get_or s 0 0) 0) (tick (frame_at s).time) (frame (frame_at s))

-- 0 answer (0 Recorded, 1 Idle, 2 Stopped, 3 Halted, 4 Ticked, or the refusal number 20 to 25)
abbrev pub answer_byte : Answer → ℕ
answer_byte a = elim a [ Recorded ↦ 0 | Idle ↦ 1 | Stopped ↦ 2 | answers.Halted ↦ 3 | Ticked ↦ 4 | Refused r ↦ refusal_number r % 256 ]

-- 1 logging state (0 Off, 1 On, 2 ending, 3 ending completely, 4 Halted)
abbrev pub logging_byte : Logging → ℕ
logging_byte l = elim l [ Off ↦ 0 | On ↦ 1 | Ending e ↦ 2 | EndingCompletely e ↦ 3 | Halted ↦ 4 ]

-- 8-15 the time at which an ending ends, or 0
abbrev pub end_time : Logging → ℕ
end_time l = elim l [ Off ↦ 0 | On ↦ 0 | Ending e ↦ e | EndingCompletely e ↦ e | Halted ↦ 0 ]

-- 2-7 zero, 16-31 the four counts
unfoldable pub answer_bytes : Outcome → List ℕ
answer_bytes o =
    answer_byte o.answer ∷ logging_byte o.engine.logging ∷ 0 ∷ 0 ∷ 0 ∷ 0 ∷ 0 ∷ 0
    ∷ (bytes_of 8 (end_time o.engine.logging)
    ++ (bytes_of 4 o.counts.recorded ++ (bytes_of 4 o.counts.idle
    ++ (bytes_of 4 o.counts.stopped ++ bytes_of 4 o.counts.halted))))
