-- `converter::head_of` meets its contract.
use Rattle.converter.proofs.Turns.{flag_is}
use Rattle.converter.proofs.head_of.Goals as goal

pub returns : goal.returns
returns c = rw (c.counts_of-counts.ensures, flag_is c.args.told.now.head.all)
