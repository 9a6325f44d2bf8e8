-- The statements as the loops go: by index into arrays. All are evaluated, then those that rose act. Nobody has to believe it:
-- proofs/StatementsTies.antt shows it equal to the rules.
use Rattle.std.specs.Prelude.{ℕ, ◌+◌, ◌*◌, List, [], ◌∷◌, Bool, false, not, ◌&&◌, cond, get_or, set, leb, Option, None, Some}
use Rattle.event_rules.specs.declared.Logging.{Logging}
use Rattle.event_rules.specs.Rules.{Statement, act_all}

abbrev pub evaluate_from : Option Bool → (List Bool → Option (List Bool)) → ℕ → List Bool → Option (List Bool)
evaluate_from None next i truth = None
evaluate_from (Some v) next i truth = next (set truth i v)

unfoldable pub evaluate_all : List Statement → List Bool → ℕ → List Bool → Option (List Bool)
evaluate_all [] states i truth = Some truth
evaluate_all (s ∷ ss) states i truth = evaluate_from (s.holds states) (evaluate_all ss states (i + 1)) i truth

unfoldable pub act_risen : List Statement → ℕ → List Bool → List Bool → ℕ → Logging → Logging
act_risen [] u was now i l = l
act_risen (s ∷ ss) u was now i l =
    act_risen ss u was now (i + 1) (cond (get_or now i false && not (get_or was i false)) (act_all (u + 1000 * s.post) s.actions l) l)

-- no event is later than 10^16 µs: nothing changes there
abbrev pub in_time : ℕ → Logging → Logging → Logging
in_time u acted l = cond (leb u 10000000000000000) acted l
