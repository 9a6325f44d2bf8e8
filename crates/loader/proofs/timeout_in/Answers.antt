-- `loader::timeout_in` meets its contract.
use Rattle.loader.proofs.timeout_in.Goals as goal

pub returns-in-Ms : goal.returns-in-Ms
returns-in-Ms c = rw c.in-Ms.is
