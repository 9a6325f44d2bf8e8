use mathlib.Core.Path.{◌∙◌, sym}
use native.Mathlib.Nat.{sub-zero}
use native.Mathlib.Omega.{arith}
use Rattle.loader.proofs.Turns.{scan_within_words, scan_bad, scan_on, scan_end}
use Rattle.loader.proofs.scan.Goals as goal

pub loop-init : goal.loop-init
loop-init g c = (omega arith, rw sub-zero)

pub returns-in_err-at : goal.returns-in_err-at
returns-in_err-at g c =
    c.from_residual.ensures
    ∙ scan_bad _ _ c.args.words.now _ _ _ c.loop-test.true (sym c.in_err-at.was ∙ c.whole.ensures)
    ∙ c.loop.invariant.1

pub loop-preserved : goal.loop-preserved
loop-preserved g c = (
  scan_within_words g.K.Kind.size (g.K.Kind.ok c.args.kind) c.args.words.now _ _ _ c.loop-test.true _ (sym c.in_ok-at.was ∙ c.whole.ensures) c.loop.invariant.0,
  scan_on _ _ c.args.words.now _ _ _ c.loop-test.true _ (sym c.in_ok-at.was ∙ c.whole.ensures) ∙ c.loop.invariant.1,
)

pub returns : goal.returns
returns g c = scan_end _ _ c.args.words.now _ _ _ c.loop-test.false ∙ c.loop.invariant.1
