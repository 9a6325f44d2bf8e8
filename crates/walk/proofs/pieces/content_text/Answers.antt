-- `walk::pieces::content_text` meets its contract.
use mathlib.Core.Path.{ap, sym, ◌∙◌}
use mathlib.Core.Logic.{inl, inr}
use native.Mathlib.Omega.{arith}
use Rattle.walk.proofs.Bounds.{item_from}
use Rattle.walk.specs.PiecesCode.{item_text}
use Rattle.walk.proofs.PiecesAnswers.{run_fits, run_fits_not}
use Rattle.walk.proofs.pieces.content_text.Goals as goal

pub overflow_sub-k : goal.overflow_sub-k
overflow_sub-k c = let h = item_from c.args.file.now c.args.o _ (sym c.in-Text.is ∙ c.item_at.ensures) in omega (arith, h.0)

pub returns-then-whole-k : goal.returns-then-whole-k
returns-then-whole-k c = run_fits c.args.file.now c.args.o _ (sym c.in-Text.is ∙ c.item_at.ensures) _ c.item_at-next.ensures _ c.is_close-whole.ensures c.if-whole-k.true

pub returns-else-whole-k : goal.returns-else-whole-k
returns-else-whole-k c = run_fits_not c.args.file.now c.args.o _ (sym c.in-Text.is ∙ c.item_at.ensures) _ c.item_at-next.ensures _ c.is_close-whole.ensures c.if-whole-k.false

pub returns-in-Remark : goal.returns-in-Remark
unfolding item_text
returns-in-Remark c =
    elim c.in-Remark.is [
      | inl p ↦ ap (item_text c.args.file.now c.args.o) (sym p.1 ∙ c.item_at.ensures)
      | inr (inl p) ↦ ap (item_text c.args.file.now c.args.o) (sym p ∙ c.item_at.ensures)
      | inr (inr p) ↦ ap (item_text c.args.file.now c.args.o) (sym p ∙ c.item_at.ensures)
    ]

pub returns-in-Close : goal.returns-in-Close
unfolding item_text
returns-in-Close c = ap (item_text c.args.file.now c.args.o) (sym c.in-Close.is ∙ c.item_at.ensures)
