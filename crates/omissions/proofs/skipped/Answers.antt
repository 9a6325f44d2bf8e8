-- `omissions::skipped` meets its contract.
use Rattle.omissions.specs.Omissions.{skipped_elements, Places}
use Rattle.omissions.proofs.Good.{bad_none, good_whole, places_told}
use Rattle.omissions.proofs.skipped.Goals as goal

pub returns-then-not-is_good : goal.returns-then-not-is_good
returns-then-not-is_good c = Places.refused (bad_none c.args.file.now _ c.is_good.ensures (c.if-not-is_good.true))

pub find-requires : goal.find-requires
find-requires c = good_whole c.args.file.now _ c.is_good.ensures (c.if-not-is_good.false)

pub returns : goal.returns
returns c = places_told c.args.file.now _ c.is_good.ensures (c.if-not-is_good.false) skipped_elements c.args.places.now _ _ c.find.ensures
