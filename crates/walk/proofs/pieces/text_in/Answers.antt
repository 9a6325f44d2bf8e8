-- `walk::pieces::text_in` meets its contract.
use mathlib.Core.Path.{ap, sym, ◌∙◌}
use Rattle.walk.specs.PiecesCode.{body_text}
use Rattle.walk.proofs.pieces.text_in.Goals as goal

pub returns-in-Open : goal.returns-in-Open
unfolding body_text
returns-in-Open c = c.content_text.ensures ∙ ap (body_text c.args.file.now) (sym c.in-Open.is)

pub returns-in-Empty : goal.returns-in-Empty
unfolding body_text
returns-in-Empty c = ap (body_text c.args.file.now) (sym c.in-Empty.is)

pub returns-in-Broken : goal.returns-in-Broken
unfolding body_text
returns-in-Broken c = ap (body_text c.args.file.now) (sym c.in-Broken.is)
