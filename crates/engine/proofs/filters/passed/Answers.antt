use native.Mathlib.Omega.{arith}
use native.Mathlib.Nat.{sub-zero}
use mathlib.Core.Path.{refl}
use mathlib.Core.List.{map}
use Rattle.records.specs.RecordsCode.{filter_size, filter_at}
use Rattle.loader.specs.ScanCode.{records_of}
use Rattle.loader.proofs.Laws.{records_end}
use Rattle.engine.proofs.RowsLaws.{turn}
use Rattle.event_rules.specs.Calls.{filter_rule}
use Rattle.engine.proofs.Hits.{passes_from}
use Rattle.engine.proofs.FiltersTies.{from_rules}
use Rattle.engine.proofs.FiltersLoops.{off_turn, pass_match, pass_turn, stop_turn}
use Rattle.engine.proofs.filters.passed.Goals as goal
use Rattle.engine.proofs.filters.passed.Goals.{then-has_bit+in-Pass+else-like, then-has_bit+in-Stop, else-has_bit}

pub loop-init : goal.loop-init
loop-init c = (omega arith, refl, rw (sub-zero c.args.count) (from_rules c.args.f (map filter_rule (records_of filter_size filter_at c.args.count c.args.filters.now))))

pub returns-then-like : goal.returns-then-like
returns-then-like c = rw (← c.loop.invariant.2, turn filter_size filter_at c.args.filters.now c.args.count c.loop.counter c.loop.at c.tail-rest.result.now (filter_size c.tail-rest.result.now) c.loop-test.true c.tail-rest.ensures refl)
    (pass_match c.args.f c.tail-rest.result.now _ c.loop.stopped c.loop.barred _ c.word.ensures _ c.has_bit.ensures c.if-has_bit.true _ c.filter_at-x.ensures _ c.filter_matches-like.ensures c.in-Pass.is c.if-like.true)

pub loop-preserved : goal.loop-preserved
loop-preserved c = (
  omega arith,
  omega (arith, c.filter_size-at.ensures, c.loop.invariant.1),
  rw (← c.loop.invariant.2, turn filter_size filter_at c.args.filters.now c.args.count c.loop.counter c.loop.at c.tail-rest.result.now _ c.loop-test.true c.tail-rest.ensures c.filter_size-at.ensures)
      (elim c.if-has_bit.branch [
        | then-has_bit+in-Pass+else-like w ↦ pass_turn c.args.f c.tail-rest.result.now _ _ c.loop.barred _ c.word.ensures _ c.has_bit.ensures w.if-has_bit.true _ w.filter_at-x.ensures _ w.filter_matches-like.ensures w.in-Pass.is w.if-like.false _ _ w.stopped-is w.barred-is
        | then-has_bit+in-Stop w ↦ stop_turn c.args.f c.tail-rest.result.now _ _ _ _ c.word.ensures _ c.has_bit.ensures w.if-has_bit.true _ w.filter_at-x.ensures _ w.filter_matches-like.ensures w.in-Stop.is _ _ w.stopped-is w.barred-is
        | else-has_bit w ↦ off_turn c.args.f c.tail-rest.result.now _ _ _ _ c.word.ensures _ c.has_bit.ensures w.if-has_bit.false _ _ w.stopped-is w.barred-is
      ]),
)

pub returns-then-stopped : goal.returns-then-stopped
unfolding passes_from
returns-then-stopped c = rw (← c.loop.invariant.2, records_end filter_size filter_at c.args.filters.now c.args.count c.loop.counter c.loop.at c.loop-test.false, c.if-stopped.true)

pub returns : goal.returns
unfolding passes_from
returns c = rw (← c.loop.invariant.2, records_end filter_size filter_at c.args.filters.now c.args.count c.loop.counter c.loop.at c.loop-test.false, c.if-stopped.false)
