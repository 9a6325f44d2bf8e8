-- `place_of`: the place that `position` finds, and the end where it finds none.
use Rattle.std.proofs.Common.{rules, tests, ◌≡◌, ◌∙◌, ℕ, ◌≤◌, Some, None, cond, not, eqb}
use native.Mathlib.Omega.{arith}
use lib.Dec.{ltb}
use Rattle.std.specs.Option.{unwrap_or}
use Rattle.std.specs.declared.option.Option.{Option}
use Rattle.std.proofs.lemmas.Iterator.{YieldsList-from_slice}
use Rattle.std.proofs.lemmas.Iterator.Search.{position_from_yields_List}
use Rattle.std.proofs.lemmas.List.Sums.{prefix_len-le-length}
use Rattle.reading.proofs.place_of.Goals as goal

or_end : (n l : ℕ) (r : Option ℕ) → r ≡ cond (ltb n l) (Some n) None → n ≤ l → unwrap_or r l ≡ n
or_end n l r e h = grind arith

pub returns-clause-place : goal.returns-clause-place
returns-clause-place c =
    let found = position_from_yields_List (λ b. eqb b c.args.byte) _ _ c.position.result c.position.ensures.ran (YieldsList-from_slice c.args.s.now c.iter.ensures.rest) (λ x b q k. search (rules, tests)) in
    c.unwrap_or.ensures ∙ or_end _ _ _ found (prefix_len-le-length (λ b. not (eqb b c.args.byte)) c.args.s.now)
