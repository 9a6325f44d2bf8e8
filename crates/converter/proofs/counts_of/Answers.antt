use native.Mathlib.Omega.{arith}
use mathlib.Core.Path.{ap}
use Rattle.text.specs.Texts.{bytes, same}
use Rattle.schema.specs.SchemaCode.{names, position_of, kind_of}
use Rattle.tables.specs.RowsCode.{left, counted}
use Rattle.converter.proofs.Counts.{counted_more, counted_all, counted_few}
use Rattle.converter.proofs.counts_of.Goals as goal

pub loop-element-init : goal.loop-element-init
loop-element-init c = let e = ap left c.into_iter-element-iterator.ensures.into_iter_gives in
    (tt, tt, omega (arith, ap (counted (kind_of (bytes "TRIGGERS"))) e), omega (arith, ap (counted (kind_of (bytes "FILTERS"))) e), omega (arith, ap (counted (kind_of (bytes "STATEMENTS"))) e))

pub overflow_add-triggers : goal.overflow_add-triggers
unfolding names position_of bytes same
overflow_add-triggers c =
    let h = counted_more (kind_of (bytes "TRIGGERS")) c.loop-element.triggers c.from-triggers.result c.in-Some.ensures.steps.0 c.loop-element.invariant.2 c.kind-kind.ensures c.is_in.ensures c.from-triggers.ensures in
    omega (arith, h.1, c.requires, counted_few (kind_of (bytes "TRIGGERS")) c.args.entries.now)

pub overflow_add-filters : goal.overflow_add-filters
unfolding names position_of bytes same
overflow_add-filters c =
    let h = counted_more (kind_of (bytes "FILTERS")) c.loop-element.filters c.from-filters.result c.in-Some.ensures.steps.0 c.loop-element.invariant.3 c.kind-kind.ensures c.is_in-in-loop-element.ensures c.from-filters.ensures in
    omega (arith, h.1, c.requires, counted_few (kind_of (bytes "FILTERS")) c.args.entries.now)

pub overflow_add-statements : goal.overflow_add-statements
unfolding names position_of bytes same
overflow_add-statements c =
    let h = counted_more (kind_of (bytes "STATEMENTS")) c.loop-element.statements c.from-statements.result c.in-Some.ensures.steps.0 c.loop-element.invariant.4 c.kind-kind.ensures c.is_in-in-loop-element-2.ensures c.from-statements.ensures in
    omega (arith, h.1, c.requires, counted_few (kind_of (bytes "STATEMENTS")) c.args.entries.now)

pub loop-element-preserved : goal.loop-element-preserved
unfolding names position_of bytes same
loop-element-preserved c = (
  tt,
  tt,
  (counted_more (kind_of (bytes "TRIGGERS")) c.loop-element.triggers c.from-triggers.result c.in-Some.ensures.steps.0 c.loop-element.invariant.2 c.kind-kind.ensures c.is_in.ensures c.from-triggers.ensures).0,
  (counted_more (kind_of (bytes "FILTERS")) c.loop-element.filters c.from-filters.result c.in-Some.ensures.steps.0 c.loop-element.invariant.3 c.kind-kind.ensures c.is_in-in-loop-element.ensures c.from-filters.ensures).0,
  (counted_more (kind_of (bytes "STATEMENTS")) c.loop-element.statements c.from-statements.result c.in-Some.ensures.steps.0 c.loop-element.invariant.4 c.kind-kind.ensures c.is_in-in-loop-element-2.ensures c.from-statements.ensures).0,
)

pub returns : goal.returns
returns c = rw (
  ← counted_all (kind_of (bytes "TRIGGERS")) c.loop-element.triggers c.in-None.ensures.steps.0 c.loop-element.invariant.2,
  ← counted_all (kind_of (bytes "FILTERS")) c.loop-element.filters c.in-None.ensures.steps.0 c.loop-element.invariant.3,
  ← counted_all (kind_of (bytes "STATEMENTS")) c.loop-element.statements c.in-None.ensures.steps.0 c.loop-element.invariant.4,
)
