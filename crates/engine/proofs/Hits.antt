-- The filters as the loop goes: one after the other. Ties.antt shows it equal to the rules.
use mathlib.Core.List.{List, [], ◌∷◌}
use mathlib.Core.Bool.{Bool, true, false, not, ◌||◌, cond}
use Rattle.event_rules.specs.declared.Frame.{Frame}
use Rattle.event_rules.specs.Rules.{MessageFilter, is_pass, matches}

-- what the filters that are left decide where a stop filter matched before, or a pass filter that stands on the channel did not
unfoldable pub passes_from : Bool → Bool → Frame → List MessageFilter → Bool
passes_from stopped barred f [] = cond stopped false (not barred)
passes_from stopped barred f (x ∷ xs) =
    cond (x.on f.channel)
    (cond (is_pass x.effect) (cond (matches f x) true (passes_from stopped true f xs)) (passes_from (stopped || matches f x) barred f xs))
    (passes_from stopped barred f xs)
