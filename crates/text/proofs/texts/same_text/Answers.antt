use mathlib.Core.Path.{◌∙◌}
use Rattle.text.proofs.Equal.{same_is}
use Rattle.text.proofs.texts.same_text.Goals as goal

pub returns : goal.returns
returns c = c.eq.ensures ∙ same_is _ _
