use mathlib.Core.Path.{sym, ap, ◌∙◌}
use Rattle.code.specs.HeightsCode.{is_one, sound_code}
use Rattle.code.proofs.Levels.{height_on, height_none, height_end}
use Rattle.code.proofs.code_ok.Goals as goal

pub loop-w-preserved : goal.loop-w-preserved
loop-w-preserved c = c.loop-w.invariant ∙ height_on _ _ _ _ _ c.loop-w-test.true (sym c.rise.ensures ∙ c.in-Some.is)

pub returns-in_default : goal.returns-in_default
unfolding sound_code
returns-in_default c = sym (ap is_one (c.loop-w.invariant ∙ height_none _ _ _ _ c.loop-w-test.true (sym c.rise.ensures ∙ c.in_default.is)))

pub returns : goal.returns
unfolding sound_code
returns c = sym (ap is_one (c.loop-w.invariant ∙ height_end _ _ _ _ c.loop-w-test.false))
