-- `text::runs::run_end` meets its contract. The loop's invariant: from here the run ends where it ends from i.
use Rattle.std.proofs.Common.{length, ◌-◌, ◌≡◌, ℕ, Bool, drop}
use Rattle.text.specs.SpansCode.{span_at, Tests}
use Rattle.text.proofs.runs.run_end.Given as goal

abbrev pub invariant-loop-j : goal.invariant-loop-j
invariant-loop-j g l = (p : ℕ → Bool) → Tests (λ f b r. g.F.Fn.post f (b, tt) r) l.is_kind p → span_at p (drop l.j l.s) l.j ≡ span_at p (drop l.i l.s) l.i

abbrev pub decreases-loop-j : goal.decreases-loop-j
decreases-loop-j g l = length l.s - l.j
