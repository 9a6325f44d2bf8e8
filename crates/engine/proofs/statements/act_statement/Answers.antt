-- `act_statement`: the part that is lent is the record's actions.
use mathlib.Core.Path.{◌∙◌}
use Rattle.engine.proofs.StatementsLoops.{actions_part}
use Rattle.engine.proofs.statements.act_statement.Goals as goal

pub returns : goal.returns
returns c = rw c.if-not-rose.false (rw (c.from.ensures, c.word.ensures) at c.act_all.ensures ∙ actions_part c.args.rec.now c.tail-behind.result.now c.head.result.now _ c.word-count.ensures _ _ c.tail-behind.ensures c.head.ensures)
