-- `loader::load` meets its contract. Each return is what `load_of` answers on that way, and `loads_as` turns it into the contract.
use mathlib.Core.Path.{◌∙◌, sym}
use native.Mathlib.Omega.{arith}
use Rattle.records.specs.RecordsCode.{trigger_size, filter_size}
use Rattle.loader.specs.ScanCode.{trigger_ok, filter_ok}
use Rattle.loader.proofs.Rows.{scan_within}
use Rattle.loader.proofs.Ways.{load_short, load_header, load_triggers, load_filters, load_statements, load_taken, load_longer, header_channels, filters_are}
use Rattle.loader.proofs.Exact.{loads_as}
use Rattle.loader.proofs.load.Goals as goal

pub returns-then-words-lt6 : goal.returns-then-words-lt6
returns-then-words-lt6 c = loads_as (load_short c.args.words.now c.if-words-lt6.true)

pub returns-then-not-header_ok : goal.returns-then-not-header_ok
returns-then-not-header_ok c = loads_as (load_header c.args.words.now c.if-words-lt6.false (sym c.header_ok.ensures ∙ c.if-not-header_ok.true))

pub returns-in_err-filters : goal.returns-in_err-filters
returns-in_err-filters c = loads_as (c.from_residual.ensures ∙ load_triggers c.args.words.now c.if-words-lt6.false (sym c.header_ok.ensures ∙ c.if-not-header_ok.false) (sym c.scan.ensures ∙ c.in_err-filters.was))

pub overflow_shl-masks : goal.overflow_shl-masks
overflow_shl-masks c = let n = header_channels c.args.words.now (sym c.header_ok.ensures ∙ c.if-not-header_ok.false) in omega arith

pub scan-requires-2 : goal.scan-requires-2
scan-requires-2 c = scan_within trigger_size (trigger_ok _) c.args.words.now _ 6 _ c.if-words-lt6.false (sym c.scan.ensures ∙ c.in_ok-filters.was)

pub returns-in_err-statements : goal.returns-in_err-statements
returns-in_err-statements c = loads_as (c.from_residual-in_err-statements.ensures ∙ load_filters c.args.words.now c.if-words-lt6.false (sym c.header_ok.ensures ∙ c.if-not-header_ok.false) _ (sym c.scan.ensures ∙ c.in_ok-filters.was) (filters_are c.args.words.now _ (sym c.header_ok.ensures ∙ c.if-not-header_ok.false) ∙ sym c.scan-2.ensures ∙ c.in_err-statements.was))

pub scan-requires-3 : goal.scan-requires-3
scan-requires-3 c = scan_within filter_size (filter_ok _) c.args.words.now _ c.in_ok-filters.filters _ (scan_within trigger_size (trigger_ok _) c.args.words.now _ 6 _ c.if-words-lt6.false (sym c.scan.ensures ∙ c.in_ok-filters.was)) (sym c.scan-2.ensures ∙ c.in_ok-statements.was)

pub returns-in_err-end : goal.returns-in_err-end
returns-in_err-end c = loads_as (c.from_residual-in_err-end.ensures ∙ load_statements c.args.words.now c.if-words-lt6.false (sym c.header_ok.ensures ∙ c.if-not-header_ok.false) _ (sym c.scan.ensures ∙ c.in_ok-filters.was) _ (filters_are c.args.words.now _ (sym c.header_ok.ensures ∙ c.if-not-header_ok.false) ∙ sym c.scan-2.ensures ∙ c.in_ok-statements.was) (sym c.scan-3.ensures ∙ c.in_err-end.was))

pub returns-then-end-words : goal.returns-then-end-words
returns-then-end-words c = loads_as (load_taken c.args.words.now c.if-words-lt6.false (sym c.header_ok.ensures ∙ c.if-not-header_ok.false) _ (sym c.scan.ensures ∙ c.in_ok-filters.was) _ (filters_are c.args.words.now _ (sym c.header_ok.ensures ∙ c.if-not-header_ok.false) ∙ sym c.scan-2.ensures ∙ c.in_ok-statements.was) _ (sym c.scan-3.ensures ∙ c.in_ok-end.was) c.if-end-words.true)

pub returns-else-end-words : goal.returns-else-end-words
returns-else-end-words c = loads_as (load_longer c.args.words.now c.if-words-lt6.false (sym c.header_ok.ensures ∙ c.if-not-header_ok.false) _ (sym c.scan.ensures ∙ c.in_ok-filters.was) _ (filters_are c.args.words.now _ (sym c.header_ok.ensures ∙ c.if-not-header_ok.false) ∙ sym c.scan-2.ensures ∙ c.in_ok-statements.was) _ (sym c.scan-3.ensures ∙ c.in_ok-end.was) c.if-end-words.false)
