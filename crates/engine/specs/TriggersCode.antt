-- The triggers as the loops go: by index into arrays. Nobody has to believe it: proofs/TriggersTies.antt shows it equal to the rules.
use Rattle.std.specs.Prelude.{ℕ, ◌+◌, Bool, true, false, ◌||◌, cond, get_or, set, replicate}
use mathlib.Core.List.{List, [], ◌∷◌, zip_with}
use Rattle.records.specs.declared.Trigger.{Trigger}
use Rattle.event_rules.specs.declared.Event.{Event}
use Rattle.event_rules.specs.declared.Firing.{Firing}
use Rattle.event_rules.specs.Rules.{time_of, fires, lasts}
use Rattle.engine.specs.declared.triggers.Fired.{Fired}
use Rattle.engine.specs.declared.triggers.Turn.{Turn}

abbrev pub never : Firing
never = record { ever = false; at = 0 }

-- one trigger's turn, from its last firing
abbrev pub turn_of : Trigger → Bool → Event → Firing → Turn
turn_of t first e l = record { fires = fires first e t.cause; on = fires first e t.cause || lasts (time_of e) l t.timeout }

unfoldable pub fire_one : Trigger → Bool → Event → List Firing → ℕ → Fired → Fired
fire_one t first e ls i s = record {
  fires = set s.fires i (turn_of t first e (get_or ls i never)).fires;
  states = set s.states i (turn_of t first e (get_or ls i never)).on;
}

unfoldable pub fire_all : List Trigger → Bool → Event → List Firing → ℕ → Fired → Fired
fire_all [] first e ls i s = s
fire_all (t ∷ ts) first e ls i s = fire_all ts first e ls (i + 1) (fire_one t first e ls i s)

abbrev pub none_fired : Fired
none_fired = record { fires = replicate 32 false; states = replicate 32 false }

-- the last firings, once the triggers of `fires` fired at u
unfoldable pub kept : List Bool → ℕ → List Firing → List Firing
kept fires u ls = zip_with (λ b l. cond b (record { ever = true; at = u }) l) fires ls
