-- A worked example of a replay, by computation.
use mathlib.Core.Path.{◌≡◌, refl}
use mathlib.Core.List.{[], ◌∷◌, ◌++◌}
use Rattle.loader.specs.ScanCode.{plan_at, rest_of, records_of}
use Rattle.event_rules.specs.Rules.{process, passes, filters_on, first_match, triggered, states, firings, evaluated, actions}
use Rattle.event_rules.specs.Calls.{fresh, no_counts, config_of, step}
use Rattle.replay.specs.Wire.{from_bytes, bytes_of, bytes_at, frame_at, answer_bytes}
use Rattle.replay.proofs.EventsChecks.{last_bytes}
use Rattle.replay.specs.Replay.{replayed}

-- a frame on channel 0 at 1000 µs and a frame on channel 1, against one channel with nothing on it: Idle, then 21
pub a_replay : replayed (step (config_of (plan_at (1 ∷ 1 ∷ 0 ∷ 0 ∷ 0 ∷ 0 ∷ [])))) 2
    ((1 ∷ 0 ∷ 0 ∷ 8 ∷ 4 ∷ 3 ∷ 0 ∷ 0 ∷ 232 ∷ 3 ∷ 0 ∷ 0 ∷ 0 ∷ 0 ∷ 0 ∷ 0 ∷ [])
    ++ (last_bytes ++ ((1 ∷ 0 ∷ 1 ∷ 8 ∷ 4 ∷ 3 ∷ 0 ∷ 0 ∷ 232 ∷ 3 ∷ 0 ∷ 0 ∷ 0 ∷ 0 ∷ 0 ∷ 0 ∷ []) ++ last_bytes))) fresh no_counts
    ≡ 1 ∷ 0 ∷ 0 ∷ 0 ∷ 0 ∷ 0 ∷ 0 ∷ 0 ∷ 0 ∷ 0 ∷ 0 ∷ 0 ∷ 0 ∷ 0 ∷ 0 ∷ 0 ∷ 0 ∷ 0 ∷ 0 ∷ 0 ∷ 1 ∷ 0 ∷ 0 ∷ 0 ∷ 0 ∷ 0 ∷ 0 ∷ 0 ∷ 0 ∷ 0 ∷ 0 ∷ 0
    ∷ 21 ∷ 0 ∷ 0 ∷ 0 ∷ 0 ∷ 0 ∷ 0 ∷ 0 ∷ 0 ∷ 0 ∷ 0 ∷ 0 ∷ 0 ∷ 0 ∷ 0 ∷ 0 ∷ 0 ∷ 0 ∷ 0 ∷ 0 ∷ 1 ∷ 0 ∷ 0 ∷ 0 ∷ 0 ∷ 0 ∷ 0 ∷ 0 ∷ 0 ∷ 0 ∷ 0 ∷ 0 ∷ []
unfolding replayed answer_bytes bytes_of frame_at from_bytes bytes_at plan_at rest_of records_of step process passes filters_on first_match triggered
    states firings evaluated actions
a_replay = refl
