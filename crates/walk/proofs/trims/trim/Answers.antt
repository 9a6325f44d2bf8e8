-- `walk::trims::trim` meets its contract.
use native.Mathlib.Omega.{arith}
use mathlib.Core.Path.{ap, ◌∙◌}
use lib.ListN.{drop}
use Rattle.std.proofs.lemmas.List.{take_rest}
use Rattle.std.proofs.Common.{rules}
use borrow.Author.Tests.{tests}
use Rattle.std.proofs.lemmas.Iterator.Adapters.{YieldsList-from_rev_slice}
use Rattle.std.proofs.lemmas.Iterator.Search.{YieldsList-from_take_while}
use Rattle.std.proofs.lemmas.Iterator.Consumers.{count_from_yields_List}
use Rattle.text.specs.Kinds.{is_blank}
use Rattle.text.proofs.Spans.{high_of}
use Rattle.walk.proofs.WalkTrims.{trim_room, trim_is}
use Rattle.walk.proofs.trims.trim.Goals as goal

pub slice_bounds-iter-count : goal.slice_bounds-iter-count
slice_bounds-iter-count c = let h = high_of is_blank c.args.text.now 0 c.blanks_end-from.result c.blanks_end-from.ensures (omega arith) in omega arith

pub slice_bounds-iter-start : goal.slice_bounds-iter-start
slice_bounds-iter-start c = let h = high_of is_blank c.args.text.now 0 c.blanks_end-from.result c.blanks_end-from.ensures (omega arith) in omega arith

pub overflow_sub-result : goal.overflow_sub-result
overflow_sub-result c =
    let count = count_from_yields_List _ c.count-blanks.result c.count-blanks.ensures.ran (YieldsList-from_take_while _ is_blank (YieldsList-from_rev_slice (drop c.blanks_end-from.result c.args.text.now) (ap (λ r. r.iter.rest.now) c.take_while.ensures.source ∙ ap (λ r. r.rest.now) c.rev.ensures.source ∙ c.iter.ensures.rest ∙ take_rest c.args.text.now c.blanks_end-from.result)) c.take_while.ensures.closure c.take_while.ensures.done (λ x b q k. search (rules, tests))) in
    trim_room c.args.text.now _ _ c.blanks_end-from.ensures count

pub returns : goal.returns
returns c =
    let count = count_from_yields_List _ c.count-blanks.result c.count-blanks.ensures.ran (YieldsList-from_take_while _ is_blank (YieldsList-from_rev_slice (drop c.blanks_end-from.result c.args.text.now) (ap (λ r. r.iter.rest.now) c.take_while.ensures.source ∙ ap (λ r. r.rest.now) c.rev.ensures.source ∙ c.iter.ensures.rest ∙ take_rest c.args.text.now c.blanks_end-from.result)) c.take_while.ensures.closure c.take_while.ensures.done (λ x b q k. search (rules, tests))) in
    trim_is c.args.text.now _ _ c.blanks_end-from.ensures count
