use mathlib.Core.Path.{◌∙◌}
use Rattle.engine.proofs.StatementsLoops.{act_turn, act_end}
use Rattle.engine.proofs.statements.act_all.Goals as goal

pub loop-word-preserved : goal.loop-word-preserved
loop-word-preserved c = rw (c.do_action-l.ensures, c.from.ensures) (act_turn _ _ _ _ c.loop-word-test.true) ∙ c.loop-word.invariant

pub returns : goal.returns
returns c = act_end c.args.actions.now c.args.«end» c.loop-word.word-index _ c.loop-word-test.false ∙ c.loop-word.invariant
