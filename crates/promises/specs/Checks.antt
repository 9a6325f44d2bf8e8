-- Paper 01, "Checks by hand": those marked "Proved", as one table.
use Rattle.std.specs.Prelude.{ℕ, ◌≡◌, List, [], ◌∷◌, map, Bool, true, false, replicate}
use Rattle.std.specs.Prelude as std
use Prim.Native.String.{String}
use Rattle.std.proofs.Math.Option.{Option, none, some}
use Rattle.text.specs.Texts.{bytes}
use Rattle.values.specs.NumbersCode.{number_spelt}
use Rattle.grammar.specs.Outcome.{Becomes}
use Rattle.records.specs.declared.Cause.TheVariants.{Id}
use Rattle.records.specs.declared.Timeout.TheVariants.{Ms}
use Rattle.records.specs.declared.Trigger.{Trigger}
use Rattle.records.specs.declared.Effect.TheVariants.{Pass, Stop}
use Rattle.records.specs.declared.Filter.{Filter}
use Rattle.event_rules.specs.declared.Event.{Event}
use Rattle.event_rules.specs.declared.Event.TheVariants.{Frame as frame, Tick as tick}
use Rattle.event_rules.specs.Rules.{passes, states, firings}
use Rattle.event_rules.specs.Calls.{fresh, filter_rule}

-- "with a, b, c as 0, 1, 2"
abbrev pub abc : List (List ℕ)
abc = bytes "a" ∷ bytes "b" ∷ bytes "c" ∷ []

-- a frame on channel 0, at a time, with an identifier
abbrev pub id_frame : ℕ → ℕ → Event
id_frame u id = frame (record { channel = 0; time = u; error = false; remote = false; ext = false; id = id; dlc = 8; bytes = replicate 8 0 })

-- "Pass 100 to 200 and stop 150 on channel 0"
abbrev pub pass_and_stop : List Filter
pass_and_stop =
    record { effect = Pass; mask = 1; ext = false; lower = 100; upper = 200; shortest = 0; longest = 8 }
    ∷ record { effect = Stop; mask = 1; ext = false; lower = 150; upper = 150; shortest = 0; longest = 8 } ∷ []

-- "Fired at 5,000 with timeout 100": the state at a time
abbrev pub hundred : List Trigger
hundred = record { cause = Id 0 false 150 150; timeout = Ms 100 } ∷ []

abbrev pub state_at : ℕ → List Bool
state_at u = states hundred false (tick u) (firings hundred false (id_frame 5000 150) fresh.fired)

-- a row: an expression with its refusal or its code, a number, an identifier that passes or not, a time with the trigger's state
pub data Check : Type 0 where
  expression : String → Option ℕ → List ℕ → Check
  spelling : String → std.Option ℕ → Check
  identifier : ℕ → Bool → Check
  time : ℕ → Bool → Check

abbrev pub Holds : Check → Type 0
Holds (expression t r ws) = Becomes abc (bytes t) r ws
Holds (spelling t v) = number_spelt (bytes t) ≡ v
Holds (identifier id b) = passes (map filter_rule pass_and_stop) (id_frame 0 id) ≡ b
Holds (time u b) = state_at u ≡ b ∷ []

unfoldable pub table : List Check
table =
    expression "a OR b AND NOT c" none (0 ∷ 1 ∷ 2 ∷ 34 ∷ 32 ∷ 33 ∷ []) ∷
    expression "(a OR b) AND c" none (0 ∷ 1 ∷ 33 ∷ 2 ∷ 32 ∷ []) ∷
    expression "NOT NOT a" none (0 ∷ 34 ∷ 34 ∷ []) ∷
    expression "" (some 11) [] ∷
    expression "a AND" (some 11) [] ∷
    expression "a b" (some 11) [] ∷
    expression "d" (some 12) [] ∷
    spelling "0x6e" (std.Some 110) ∷
    spelling "0007" (std.Some 7) ∷
    spelling "1,500" std.None ∷
    spelling "0x" std.None ∷
    identifier 150 true ∷
    identifier 99 false ∷
    time 104999 true ∷
    time 105000 false ∷
    []
