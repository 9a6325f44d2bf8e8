-- `omissions::put` meets its contract: beyond the end nothing is set.
use Rattle.omissions.proofs.Buffers.{set_past}
use Rattle.omissions.proofs.put.Goals as goal

pub returns-else-n-places : goal.returns-else-n-places
returns-else-n-places c = set_past c.args.places.now c.args.n c.args.place c.if-n-places.false
