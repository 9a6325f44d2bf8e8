-- Paper 01, "Refusal numbers" (20), for hosts in C: what the load call answers, and the counts that a replay starts from.
use Rattle.std.specs.Prelude.{ℕ, List}
use Rattle.loader.specs.Plan.{PlanOf}
use Rattle.event_rules.specs.declared.Counts.{Counts}

-- 0 where the words are those of a plan in range, 20 where they are of none
pub data Loading (ws : List ℕ) : ℕ → Type 0 where
  taken : PlanOf ws → Loading ws 0
  refused : (PlanOf ws → ⊥) → Loading ws 20

abbrev pub counts_of : ℕ → ℕ → ℕ → ℕ → Counts
counts_of recorded idle stopped halted = record { recorded = recorded; idle = idle; stopped = stopped; halted = halted }
