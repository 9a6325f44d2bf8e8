use mathlib.Core.Path.{refl, sym, ◌∙◌}
use Rattle.text.proofs.Spans.{span_more, span_here, span_end}
use Rattle.text.proofs.runs.run_end.Goals as goal

pub loop-j-init : goal.loop-j-init
loop-j-init g c p t = refl

pub returns-then-not-is_kind : goal.returns-then-not-is_kind
returns-then-not-is_kind g c p t = sym (span_here p _ _ c.loop-j-test.true (sym (t _ _ c.is_kind.ensures) ∙ c.if-not-is_kind.true)) ∙ c.loop-j.invariant p t

pub loop-j-preserved : goal.loop-j-preserved
loop-j-preserved g c p t = sym (span_more p _ _ c.loop-j-test.true (sym (t _ _ c.is_kind.ensures) ∙ c.if-not-is_kind.false)) ∙ c.loop-j.invariant p t

pub returns : goal.returns
returns g c p t = sym (span_end p _ _ c.loop-j-test.false) ∙ c.loop-j.invariant p t
