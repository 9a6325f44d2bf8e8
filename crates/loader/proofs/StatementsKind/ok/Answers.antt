-- `ok` of statements meets its contract. The parts that it lends are those that the spec takes: `statement_law`.
use mathlib.Core.Path.{refl}
use Rattle.loader.proofs.Turns.{statement_law}
use Rattle.loader.proofs.StatementsKind.ok.Goals as goal

pub returns : goal.returns
returns c = statement_law _ _ _ _ _ _ refl refl c.actions_ok-fine.ensures c.code_ok-runs.ensures
