-- `walk::pieces::single_text` meets its contract.
use mathlib.Core.Path.{ap, ◌∙◌}
use Rattle.walk.specs.PiecesCode.{body_text, single_text}
use Rattle.walk.proofs.pieces.single_text.Goals as goal

pub returns : goal.returns
unfolding single_text
returns c = c.text_in.ensures ∙ ap (body_text c.args.file.now) c.content_at-body.ensures
