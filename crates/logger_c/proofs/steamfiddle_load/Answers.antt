-- `steamfiddle_load` meets its contract: the number says what the loader answered.
use Rattle.logger_c.proofs.Loadings.{loading_taken, loading_refused}
use Rattle.logger_c.proofs.steamfiddle_load.Goals as goal

pub returns-in-Some : goal.returns-in-Some
returns-in-Some c = loading_taken c.load.ensures c.in-Some.is

pub returns-in-None : goal.returns-in-None
returns-in-None c = rw c.number.ensures (loading_refused c.load.ensures c.in-None.is)
