-- `printing::put_refusal` meets its contract: two lines.
use Rattle.text.specs.Texts.{bytes}
use Rattle.printing.specs.Printing.{text_line, refusal_text}
use Rattle.printing.proofs.Puts.{put_behind}
use Rattle.printing.proofs.put_refusal.Goals as goal

pub returns : goal.returns
unfolding refusal_text text_line bytes
returns c = put_behind (rw c.from.ensures at c.put_line-place_at.ensures) c.put_line.ensures
