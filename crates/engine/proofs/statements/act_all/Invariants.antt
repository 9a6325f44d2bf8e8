-- `act_all`. Invariant: what is left, from the state now, gives what all give from the first.
use mathlib.Core.Path.{◌≡◌}
use mathlib.Core.List.{map}
use lib.ListN.{drop}
use Rattle.records.specs.RecordsCode.{action_at}
use Rattle.event_rules.specs.Rules.{act_all}
use Rattle.engine.proofs.statements.act_all.Given as goal

abbrev pub invariant-loop-word : goal.invariant-loop-word
invariant-loop-word l = act_all l.end (map action_at (drop l.word-index l.actions)) l.l ≡ act_all l.end (map action_at l.actions) l.initial.l
