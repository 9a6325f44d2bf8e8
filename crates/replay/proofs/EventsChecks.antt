-- Worked examples of the bytes of a replay, by computation.
use mathlib.Core.Path.{◌≡◌, refl}
use mathlib.Core.List.{List, [], ◌∷◌, ◌++◌}
use mathlib.Core.Bool.{true, false}
use Prim.Native.Nat.{ℕ}
use Rattle.event_rules.specs.declared.Logging.TheVariants.{EndingCompletely}
use Rattle.event_rules.specs.declared.Answer.TheVariants as answers
use Rattle.event_rules.specs.declared.Event.TheVariants.{Frame as frame, Tick as tick}
use Rattle.replay.specs.Wire.{from_bytes, bytes_of, bytes_at, frame_at, event_at, answer_bytes}

-- an event's data, and eight bytes that are not looked at
abbrev pub last_bytes : List ℕ
last_bytes = 1 ∷ 2 ∷ 3 ∷ 4 ∷ 5 ∷ 6 ∷ 7 ∷ 8 ∷ 90 ∷ 90 ∷ 90 ∷ 90 ∷ 90 ∷ 90 ∷ 90 ∷ 90 ∷ []

-- id 0x01020304, time 1,000,000 µs; flag 8 is not looked at
pub a_frame : event_at ((1 ∷ 13 ∷ 2 ∷ 8 ∷ 4 ∷ 3 ∷ 2 ∷ 1 ∷ 64 ∷ 66 ∷ 15 ∷ 0 ∷ 0 ∷ 0 ∷ 0 ∷ 0 ∷ []) ++ last_bytes)
    ≡ frame (record {
      channel = 2;
      time = 1000000;
      error = true;
      remote = false;
      ext = true;
      id = 16909060;
      dlc = 8;
      bytes = 1 ∷ 2 ∷ 3 ∷ 4 ∷ 5 ∷ 6 ∷ 7 ∷ 8 ∷ [];
    })
unfolding frame_at from_bytes bytes_at
a_frame = refl

-- the highest byte of the time weighs 2^56
pub a_tick : event_at ((0 ∷ 0 ∷ 0 ∷ 0 ∷ 0 ∷ 0 ∷ 0 ∷ 0 ∷ 2 ∷ 0 ∷ 0 ∷ 0 ∷ 0 ∷ 0 ∷ 0 ∷ 1 ∷ []) ++ last_bytes) ≡ tick 72057594037927938
unfolding frame_at from_bytes bytes_at
a_tick = refl

pub an_answer : answer_bytes (record {
  answer = answers.Recorded;
  engine = record { logging = EndingCompletely 1000000; fired = []; truth = []; started = true; last = 7 };
  counts = record { recorded = 1; idle = 258; stopped = 3; halted = 4294967295 };
})
    ≡ 0 ∷ 3 ∷ 0 ∷ 0 ∷ 0 ∷ 0 ∷ 0 ∷ 0 ∷ 64 ∷ 66 ∷ 15 ∷ 0 ∷ 0 ∷ 0 ∷ 0 ∷ 0 ∷ 1 ∷ 0 ∷ 0 ∷ 0 ∷ 2 ∷ 1 ∷ 0 ∷ 0 ∷ 3 ∷ 0 ∷ 0 ∷ 0 ∷ 255 ∷ 255 ∷ 255
    ∷ 255 ∷ []
unfolding answer_bytes bytes_of
an_answer = refl
