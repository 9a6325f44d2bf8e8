-- What a call gives and the last firings that it leaves are determined by the outcome.
use mathlib.Core.Path.{◌≡◌, ap}
use mathlib.Core.List.{List}
use Rattle.event_rules.specs.declared.Firing.{Firing}
use Rattle.event_rules.specs.declared.Outcome.{Outcome}
use Rattle.engine.specs.EventCode.{outcome_of}
use Rattle.engine.specs.declared.event.Ran.{Ran}

pub ran_once : (r r' : Ran) (fired fired' : List Firing) → outcome_of r fired ≡ outcome_of r' fired' → (r ≡ r') × (fired ≡ fired')
ran_once r r' fired fired' q = (
  λ i. record {
    answer = (q i).answer;
    state =
        record {
          logging = (q i).engine.logging;
          truth = (q i).engine.truth;
          started = (q i).engine.started;
          last = (q i).engine.last;
        };
    counts = (q i).counts;
  },
  ap (λ (o : Outcome). o.engine.fired) q,
)
