-- `omissions::skips::find` meets its contract.
use Rattle.omissions.proofs.SkipsLaws.{root_stands, root_told}
use Rattle.omissions.proofs.skips.find.Goals as goal

pub seek-all-requires : goal.seek-all-requires
seek-all-requires c = root_stands c.args.file.now c.requires _ c.root_at-at.ensures

pub returns : goal.returns
returns c = root_told c.args.file.now c.requires _ c.root_at-at.ensures _ _ _ c.seek-all.ensures
