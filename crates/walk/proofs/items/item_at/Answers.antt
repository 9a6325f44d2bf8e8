-- `walk::items::item_at` meets its contract.
use mathlib.Core.Path.{sym}
use native.Mathlib.Omega.{arith}
use Prim.Native.Nat.{◌+◌}
use Rattle.walk.proofs.WalkAnswers.{read_inside, item_text_lem, item_broken, item_close, item_remark, item_child}
use Rattle.walk.proofs.items.item_at.Goals as goal

pub returns-then-i-e : goal.returns-then-i-e
returns-then-i-e c = sym (item_text_lem _ _ _ c.byte_at-b.ensures _ c.text_end-e.ensures c.if-b-ne60.true c.if-i-e.true)

pub returns-then-b-ne60 : goal.returns-then-b-ne60
returns-then-b-ne60 c = sym (item_broken _ _ _ c.byte_at-b.ensures _ c.text_end-e.ensures c.if-b-ne60.true c.if-i-e.false)

pub overflow_add-i : goal.overflow_add-i
overflow_add-i c = let h = read_inside c.args.file.now c.args.i c.byte_at-b.result 59 c.byte_at-b.ensures c.if-b-ne60.false in omega arith

pub overflow_add-i-then-c-eq47 : goal.overflow_add-i-then-c-eq47
overflow_add-i-then-c-eq47 c = let h = read_inside c.args.file.now (c.args.i + 1) c.byte_at-c.result 46 c.byte_at-c.ensures c.if-c-eq47.true in omega arith

pub returns-then-c-eq47 : goal.returns-then-c-eq47
returns-then-c-eq47 c = sym (item_close _ _ _ c.byte_at-b.ensures _ c.byte_at-c.ensures c.if-b-ne60.false _ _ _ c.name_end-n.ensures c.blanks_end-q.ensures c.ahead-k.ensures c.if-c-eq47.true)

pub returns-then-c-eq33 : goal.returns-then-c-eq33
returns-then-c-eq33 c = sym (item_remark _ _ _ c.byte_at-b.ensures _ c.byte_at-c.ensures c.if-b-ne60.false _ _ c.ahead-s.ensures c.remark_end-k.ensures c.if-c-eq33.true)

pub returns : goal.returns
returns c = sym (item_child _ _ _ c.byte_at-b.ensures _ c.byte_at-c.ensures c.if-b-ne60.false c.if-c-eq47.false c.if-c-eq33.false)
