-- `document::put_values` meets its contract.
use mathlib.Core.Path.{◌≡◌}
use borrow.Author.Rules.{rules}
use lib.ListN.{length}
use Rattle.schema.specs.SchemaCode.{attribute_count}
use Rattle.document.proofs.Entries.{values_long, values_put}
use Rattle.document.proofs.put_values.Goals as goal

pub shape_of-words : goal.shape_of-words
shape_of-words c = let l : length c.args.values ≡ attribute_count = search rules in
    values_long c.args.values c.args.words.now _ c.args.at l c.requires c.copy_from_slice.ensures.after

pub returns : goal.returns
returns c = let l : length c.args.values ≡ attribute_count = search rules in
    values_put c.args.values c.args.words.now _ c.args.at l c.requires c.copy_from_slice.ensures.after
