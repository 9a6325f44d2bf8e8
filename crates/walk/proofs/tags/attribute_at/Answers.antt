-- `walk::tags::attribute_at` meets its contract.
use mathlib.Core.Path.{sym}
use Rattle.walk.proofs.WalkAnswers.{attribute_closed, attribute_broken}
use Rattle.walk.proofs.tags.attribute_at.Goals as goal

pub returns-then-k-file : goal.returns-then-k-file
returns-then-k-file c = sym (attribute_closed _ _ _ _ _ _ _ _ c.name_end-e.ensures c.blanks_end-q.ensures c.ahead-b.ensures c.blanks_end-v.ensures c.ahead-c.ensures c.value_end-k.ensures c.if-k-file.true)

pub returns-else-k-file : goal.returns-else-k-file
returns-else-k-file c = sym (attribute_broken _ _ _ _ _ _ _ _ c.name_end-e.ensures c.blanks_end-q.ensures c.ahead-b.ensures c.blanks_end-v.ensures c.ahead-c.ensures c.value_end-k.ensures c.if-k-file.false)
