-- `steps::timeouts::before_end` meets its contract. Assumes nothing.
-- what is left of a time against a span
use Prim.Native.Nat.{ℕ, ◌+◌, ◌-◌, ◌*◌, ◌≤◌}
use mathlib.Core.Path.{◌≡◌, refl, ap, ◌∙◌}
use mathlib.Core.Bool.{Bool, true, false}
use native.Mathlib.Omega.{arith}
use lib.Dec.{ltb}
use borrow.Author.Tests.{lt-ltb, le-ltb, ltb-true, ltb-false}
use Rattle.steps.proofs.timeouts.before_end.Goals as goal

ltb-shift : (u t k : ℕ) → t ≤ u → ltb (u - t) k ≡ ltb u (t + k)
ltb-shift u t k h = go (ltb u (t + k)) refl
  where
    go : (b : Bool) → ltb u (t + k) ≡ b → ltb (u - t) k ≡ b
    go true e = lt-ltb (u - t) k (omega (arith, ltb-true u (t + k) e))
    go false e = le-ltb (u - t) k (omega (arith, ltb-false u (t + k) e))

pub returns : goal.returns
returns c = ltb-shift _ _ _ c.if-u-t.false ∙ ap (λ (n : ℕ). ltb c.args.u (c.args.t + 1000 * n)) c.from.ensures
