-- `walk::items::prolog_end` meets its contract.
use mathlib.Core.Path.{sym, ◌∙◌}
use Rattle.walk.proofs.WalkAnswers.{prolog_first, prolog_second, prolog_third}
use Rattle.walk.proofs.items.prolog_end.Goals.{then-byte_at-ne60-via-then-byte_at-ne60, then-byte_at-ne60-via-else-byte_at-ne60+then-byte_at-ne63}
use Rattle.walk.proofs.items.prolog_end.Goals as goal

pub returns-then-byte_at-ne60 : goal.returns-then-byte_at-ne60
returns-then-byte_at-ne60 c =
    elim c.then-byte_at-ne60.branch [
      | then-byte_at-ne60-via-then-byte_at-ne60 w ↦ sym (prolog_first _ _ c.byte_at.ensures w.if-byte_at-ne60.true)
      | then-byte_at-ne60-via-else-byte_at-ne60+then-byte_at-ne63 w ↦ sym (prolog_second _ _ c.byte_at.ensures _ w.byte_at-else-byte_at-ne60.ensures w.if-byte_at-ne60.false w.if-byte_at-ne63.true)
    ]

pub returns : goal.returns
returns c = c.ahead.ensures ∙ sym (prolog_third _ _ c.byte_at.ensures _ _ c.byte_at-else-byte_at-ne60.ensures c.if-byte_at-ne60.false c.if-byte_at-ne63.false c.decl_end-d.ensures)
