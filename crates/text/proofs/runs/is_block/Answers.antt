-- `text::runs::is_block` meets its contract.
use mathlib.Core.Path.{◌≡◌, refl}
use Rattle.std.proofs.Common.{rules}
use Rattle.std.specs.List.{list_all}
use Rattle.std.proofs.lemmas.Fn.{fold_over, fronts}
use Rattle.std.proofs.lemmas.Iterator.{YieldsList-from_slice}
use Rattle.text.proofs.Blocks.{all_one}
use Rattle.text.specs.SpansCode.{is_plain}
use Rattle.text.proofs.runs.is_block.Goals as goal

pub returns : goal.returns
returns c =
    fold_over fronts (λ x. x.now) _ (λ ys a. a ≡ list_all is_plain ys) _
    (λ ys a x b f' e k. (all_one is_plain ys x.now e (search rules), search rules))
    c.iter.result c.args.block.now _ c.fold.result (YieldsList-from_slice {s = c.iter.result} c.args.block.now c.iter.ensures.rest).runs refl c.fold.ensures.ran
