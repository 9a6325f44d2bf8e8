-- `text::runs::blocks_end` meets its contract: the run is behind each block that is plain.
use mathlib.Core.Path.{refl, ap, ◌∙◌}
use Rattle.std.proofs.Common.{rules}
use borrow.Author.Tests.{tests}
use Rattle.std.specs.List.{list_all}
use Rattle.std.proofs.lemmas.Iterator.Search.{YieldsList-from_take_while}
use Rattle.std.proofs.lemmas.Iterator.Consumers.{count_from_yields_List}
use Rattle.text.specs.SpansCode.{is_plain}
use Rattle.text.proofs.Spans.{rest_is}
use Rattle.text.proofs.Blocks.{blocks_lent, span_behind}
use Rattle.text.proofs.runs.blocks_end.Goals as goal

pub returns : goal.returns
returns c =
    let rest = ap (λ r. r.now) c.unwrap_or-rest.ensures ∙ rest_is _ _ _ _ c.get.ensures.lookup refl in
    let count = count_from_yields_List _ c.count-blocks.result c.count-blocks.ensures.ran (YieldsList-from_take_while _ (list_all is_plain) (blocks_lent _ (ap (λ r. r.rest.now) c.take_while.ensures.source ∙ c.chunks_exact.ensures.rest ∙ rest) (ap (λ r. r.size) c.take_while.ensures.source ∙ c.chunks_exact.ensures.size)) c.take_while.ensures.closure c.take_while.ensures.done (λ x b q k. search (rules, tests))) in
    span_behind is_plain c.args.s.now c.args.i c.count-blocks.result count
