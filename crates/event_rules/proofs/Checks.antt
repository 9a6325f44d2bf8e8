-- Checks by hand of paper 01 on events, computed.
use Prim.Native.Nat.{ℕ}
use mathlib.Core.Path.{◌≡◌, refl}
use mathlib.Core.List.{List, [], ◌∷◌, map, zip_with}
use mathlib.Core.Bool.{Bool, true, false}
use lib.ListN.{replicate}
use Rattle.code.specs.Code.{op_of, step_word, run_words, value_on}
use Rattle.code.specs.HeightsCode.{rise_op, rise, height, sound_code}
use Rattle.code.specs.Code as code
use Rattle.records.specs.Records.{filter_in}
use Rattle.loader.specs.Plan.{Plan, statement_in, in_range}
use Rattle.event_rules.specs.Types.{Event, frame, tick, BadTime, Cause, Id, Ms, Trigger, Effect, Pass, Stop, Filter, StartLog, StopLog, StopLogCompletely, On, Ending, EndingCompletely, Answer, Outcome}
use Rattle.event_rules.specs.declared.Answer.TheVariants as answers
use Rattle.event_rules.specs.Rules.{matches, filters_on, first_match, passes, fires, states, firings, evaluated, act_all, actions, triggered, process}
use Rattle.event_rules.specs.Calls.{fresh, no_counts, step, filter_rule, config_of}
use Rattle.event_rules.specs.History.{outcomes, counts_after}
use Rattle.lists.specs.Lists.{all}

-- a frame on channel 0
abbrev pub at : ℕ → ℕ → Event
at u id = frame (record { channel = 0; time = u; error = false; remote = false; ext = false; id = id; dlc = 8; bytes = replicate 8 0 })

abbrev pub ids : ℕ → ℕ → Cause
ids lower upper = Id 0 false lower upper

abbrev pub filter_of : Effect → ℕ → ℕ → ℕ → Filter
filter_of effect mask lower upper =
    record { effect = effect; mask = mask; ext = false; lower = lower; upper = upper; shortest = 0; longest = 8 }

-- Pass 100 to 200 and stop 150 on channel 0
abbrev pub pass_and_stop : List Filter
pass_and_stop = filter_of Pass 1 100 200 ∷ filter_of Stop 1 150 150 ∷ []

-- id 150 passes, 99 is stopped
pub filter_check : (passes (map filter_rule pass_and_stop) (at 0 150) ≡ true) × (passes (map filter_rule pass_and_stop) (at 0 99) ≡ false)
unfolding passes first_match filters_on matches
filter_check = (refl, refl)

abbrev pub hundred : List Trigger
hundred = record { cause = ids 150 150; timeout = Ms 100 } ∷ []

-- Fired at 5,000 with timeout 100: true at 104,999, false at 105,000
abbrev pub state_at : ℕ → List Bool
state_at u = states hundred false (tick u) (firings hundred false (at 5000 150) fresh.fired)

pub timeout_check : (state_at 104999 ≡ true ∷ []) × (state_at 105000 ≡ false ∷ [])
unfolding states firings fires zip_with
timeout_check = (refl, refl)

-- ids 1 to 3 start, stop with posttrigger 2, and stop completely with posttrigger 9
abbrev pub three : Plan
three = record {
  channels = 1;
  log_all = false;
  triggers = record { cause = ids 1 1; timeout = Ms 0 } ∷ record { cause = ids 2 2; timeout = Ms 0 }
      ∷ record { cause = ids 3 3; timeout = Ms 0 } ∷ [];
  filters = [];
  statements = record { post = 0; actions = StartLog ∷ []; code = 0 ∷ [] } ∷ record { post = 2; actions = StopLog ∷ []; code = 1 ∷ [] }
      ∷ record { post = 9; actions = StopLogCompletely ∷ []; code = 2 ∷ [] } ∷ [];
}

three_in_range : in_range three ≡ true
unfolding in_range all filter_in statement_in sound_code height rise rise_op op_of
three_in_range = refl

abbrev pub outcomes_of : Plan → List Event → List Outcome
outcomes_of p es = outcomes (config_of p) fresh no_counts es

abbrev pub answers_of : Plan → List Event → List Answer
answers_of p es = map (λ o. o.answer) (outcomes_of p es)

-- On, a stop at 10,000: a frame at 11,999 is Recorded, at 12,000 Idle.
-- A complete stop while ending keeps e.
-- No start brings back a complete ending.
pub ending_check : (answers_of three (at 500 9 ∷ at 1000 1 ∷ at 10000 2 ∷ at 11999 9 ∷ at 12000 9 ∷ at 11000 9 ∷ [])
    ≡ answers.Idle ∷ answers.Recorded ∷ answers.Recorded ∷ answers.Recorded ∷ answers.Idle ∷ answers.Refused BadTime ∷ [])
    × (map (λ o. o.engine.logging) (outcomes_of three (at 1000 1 ∷ at 10000 2 ∷ at 11000 3 ∷ []))
    ≡ On ∷ Ending 12000 ∷ EndingCompletely 12000 ∷ [])
    × (answers_of three (at 1000 1 ∷ at 10000 2 ∷ at 11000 3 ∷ at 11500 1 ∷ at 11999 9 ∷ at 12000 1 ∷ tick 12000 ∷ at 13000 1 ∷ [])
    ≡ answers.Recorded ∷ answers.Recorded ∷ answers.Recorded ∷ answers.Recorded ∷ answers.Recorded ∷ answers.Halted ∷ answers.Ticked
    ∷ answers.Halted ∷ [])
unfolding outcomes step process passes first_match filters_on matches triggered states firings fires zip_with evaluated actions act_all
    value_on run_words step_word op_of code.step_op
ending_check = (refl, refl, refl)

-- log_all does not skip the filters: 99 is stopped, 150 is recorded, with the logging state Off.
abbrev pub logged : Plan
logged = record { channels = 1; log_all = true; triggers = []; filters = pass_and_stop; statements = [] }

pub log_all_check : answers_of logged (at 0 99 ∷ at 0 150 ∷ tick 0 ∷ []) ≡ answers.Stopped ∷ answers.Recorded ∷ answers.Ticked ∷ []
unfolding outcomes step process passes first_match filters_on matches triggered
log_all_check = refl

-- A statement acts where its expression rose: id 1 starts, and stays true for 100 ms; id 2 stops at once, and no start comes behind it.
abbrev pub lasting : Plan
lasting = record {
  channels = 1;
  log_all = false;
  triggers = record { cause = ids 1 1; timeout = Ms 100 } ∷ record { cause = ids 2 2; timeout = Ms 0 } ∷ [];
  filters = [];
  statements = record { post = 0; actions = StartLog ∷ []; code = 0 ∷ [] } ∷ record { post = 0; actions = StopLog ∷ []; code = 1 ∷ [] }
      ∷ [];
}

pub rise_check : answers_of lasting (at 0 1 ∷ at 1000 2 ∷ at 2000 9 ∷ at 3000 9 ∷ [])
    ≡ answers.Recorded ∷ answers.Idle ∷ answers.Idle ∷ answers.Idle ∷ []
unfolding outcomes step process passes first_match filters_on matches triggered states firings fires zip_with evaluated actions act_all value_on
    run_words step_word op_of code.step_op
rise_check = refl

-- The counts are the numbers of such answers: two Recorded, one Idle, three Halted; one Stopped, two Recorded.
pub counts_check : (counts_after no_counts (outcomes_of three (at 0 9 ∷ at 1 1 ∷ at 2 3 ∷ at 9002 9 ∷ tick 9003 ∷ at 9004 9 ∷ at 9005 9 ∷ []))
    ≡ record { recorded = 2; idle = 1; stopped = 0; halted = 3 })
    × (counts_after no_counts (outcomes_of logged (at 0 99 ∷ at 0 150 ∷ at 0 150 ∷ []))
    ≡ record { recorded = 2; idle = 0; stopped = 1; halted = 0 })
unfolding outcomes counts_after step process passes first_match filters_on matches triggered states firings fires zip_with evaluated actions
    act_all value_on run_words step_word op_of code.step_op
counts_check = (refl, refl)
