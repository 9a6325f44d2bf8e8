-- `loader::cause_in` meets its contract. One way for each kind of trigger.
use Rattle.loader.proofs.cause_in.Goals as goal

pub returns-in-Id : goal.returns-in-Id
returns-in-Id c = rw (c.in-Id.is, c.id_top-top.ensures)

pub returns-in-Length : goal.returns-in-Length
returns-in-Length c = rw c.in-Length.is

pub returns-in-Error : goal.returns-in-Error
returns-in-Error c = rw c.in-Error.is
