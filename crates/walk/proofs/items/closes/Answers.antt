-- `walk::items::closes` meets its contract.
use mathlib.Core.Path.{sym, ◌∙◌}
use native.Mathlib.Omega.{arith}
use Prim.Native.Nat.{◌+◌}
use borrow.Author.Tests.{eqb-true}
use Rattle.walk.proofs.WalkAnswers.{read_inside}
use Rattle.walk.proofs.items.closes.Goals.{then-byte_at-eq45, else-byte_at-eq45}
use Rattle.walk.proofs.items.closes.Goals as goal

pub overflow_add-i : goal.overflow_add-i
overflow_add-i c = let h = read_inside c.args.file.now c.args.i c.byte_at.result 44 c.byte_at.ensures c.if-byte_at-eq45.true in omega arith

pub overflow_add-i-then-byte_at-eq45-2 : goal.overflow_add-i-then-byte_at-eq45-2
overflow_add-i-then-byte_at-eq45-2 c =
    elim c.if-byte_at-eq45.branch [
      | then-byte_at-eq45 w ↦ let h = read_inside c.args.file.now (c.args.i + 1) w.byte_at-then-byte_at-eq45.result 44 w.byte_at-then-byte_at-eq45.ensures (eqb-true _ _ (sym w.value-is ∙ c.if-byte_at-eq45-2.true)) in omega arith
      | else-byte_at-eq45 w ↦ absurd (w.if-byte_at-eq45.false (eqb-true _ _ (sym w.value-is ∙ c.if-byte_at-eq45-2.true)))
    ]
