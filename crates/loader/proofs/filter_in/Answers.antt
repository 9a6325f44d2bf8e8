-- `loader::filter_in` meets its contract.
use Rattle.records.specs.Records.{filter_in}
use Rattle.loader.proofs.filter_in.Goals as goal

pub returns : goal.returns
unfolding filter_in
returns c = rw c.id_top-top.ensures
