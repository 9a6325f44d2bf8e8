-- `document::mark` meets its contract.
use mathlib.Core.Path.{sym, ◌∙◌}
use native.Mathlib.Omega.{arith}
use borrow.Author.Tests.{lt-ltb}
use Rattle.document.specs.DocumentCode.{marked}
use Rattle.schema.proofs.Laws.{known_low}
use Rattle.document.proofs.mark.Goals as goal

pub returns-then-is_carried : goal.returns-then-is_carried
unfolding marked
returns-then-is_carried c = let k = sym c.is_carried.ensures ∙ c.if-is_carried.true in
    let h = known_low c.args.kind (rw k) in
    rw (c.with_bit-kinds.ensures, c.one_more-count.ensures, k, lt-ltb c.args.kind 64 (omega (arith, h)))

pub returns : goal.returns
unfolding marked
returns c = rw (sym c.is_carried.ensures ∙ c.if-is_carried.false)
