-- `records::filter_at` meets its contract.
use Rattle.records.specs.RecordsCode.{filter_at}
use Rattle.records.proofs.filter_at.Goals as goal

pub returns : goal.returns
unfolding filter_at
returns c = cc
