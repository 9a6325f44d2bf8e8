use Rattle.std.proofs.Common.{◌∙◌}
use borrow.Author.Tests.{lt-ltb}
use Rattle.lists.proofs.Flags.{lacks_past, lacks_within}
use Rattle.lists.proofs.lacks_first.Goals as goal

pub returns-then-flags-n : goal.returns-then-flags-n
returns-then-flags-n c = lt-ltb _ _ c.if-flags-n.true ∙ lacks_past _ _ c.if-flags-n.true

pub returns-else-flags-n : goal.returns-else-flags-n
returns-else-flags-n c = c.contains.ensures.value ∙ lacks_within _ _ c.if-flags-n.false
