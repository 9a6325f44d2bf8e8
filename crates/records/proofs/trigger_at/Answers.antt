-- `records::trigger_at` meets its contract. One way for each kind of trigger.
use mathlib.Core.Path.{◌∙◌, sym}
use lib.ListN.{get_or}
use native.Mathlib.Omega.{arith}
use borrow.Author.Tests.{ne_eqb}
use Rattle.records.specs.RecordsCode.{trigger_at}
use Rattle.records.proofs.trigger_at.Goals.{in-1, in-2, in-3, in_default}
use Rattle.records.proofs.trigger_at.Goals as goal

pub returns : goal.returns
unfolding trigger_at
returns c =
    rw (c.from.ensures, c.word-2.ensures)
    (elim c.match-word.branch [
      | in-1 w ↦ rw (w.cause-is, c.word-channel.ensures, c.word-lower.ensures, c.word-upper.ensures, w.word-in-1.ensures, sym c.word.ensures ∙ w.in-1.is)
      | in-2 w ↦ rw (w.cause-is, c.word-channel.ensures, c.word-lower.ensures, c.word-upper.ensures, sym c.word.ensures ∙ w.in-2.is)
      | in-3 w ↦ rw (w.cause-is, c.word-channel.ensures, sym c.word.ensures ∙ w.in-3.is)
      | in_default w ↦ rw (w.cause-is, ne_eqb (get_or c.args.rec.now 0 0) 1 (omega arith), ne_eqb (get_or c.args.rec.now 0 0) 2 (omega arith), ne_eqb (get_or c.args.rec.now 0 0) 3 (omega arith))
    ])
