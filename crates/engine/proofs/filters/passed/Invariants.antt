-- `passed`. Invariant: the filters that are left decide, with what was seen, as all do.
use Prim.Native.Nat.{◌≤◌, ◌-◌, ◌*◌}
use mathlib.Core.Path.{◌≡◌}
use mathlib.Core.List.{map}
use lib.ListN.{drop}
use Rattle.records.specs.RecordsCode.{filter_size, filter_at}
use Rattle.loader.specs.ScanCode.{records_of}
use Rattle.event_rules.specs.declared.Event.TheVariants.{Frame as frame}
use Rattle.event_rules.specs.Rules.{passes}
use Rattle.event_rules.specs.Calls.{filter_rule}
use Rattle.engine.proofs.Hits.{passes_from}
use Rattle.engine.proofs.filters.passed.Given as goal

abbrev pub invariant-loop : goal.invariant-loop
invariant-loop l = (l.counter ≤ l.count) × (l.at ≡ 7 * l.counter) × (passes_from l.stopped l.barred l.f (map filter_rule (records_of filter_size filter_at (l.count - l.counter) (drop l.at l.filters))) ≡ passes (map filter_rule (records_of filter_size filter_at l.count l.filters)) (frame l.f))
