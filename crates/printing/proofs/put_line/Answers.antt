-- `printing::put_line` meets its contract: the name, behind it the number, behind that the line's end.
use Rattle.std.proofs.Common.{◌∙◌}
use mathlib.Core.List.{append_assoc}
use Rattle.text.specs.Texts.{bytes}
use Rattle.printing.proofs.Puts.{put_behind, decimal_is}
use Rattle.printing.proofs.put_line.Goals as goal

pub returns : goal.returns
unfolding bytes
returns c =
    let digits = c.as_bytes.ensures.value ∙ (c.format.ensures.text ∙ decimal_is c.args.n c.ranges.n.fits) in
    rw (← append_assoc c.args.name.now _ _) (put_behind (put_behind c.put-digits_at.ensures (rw digits at c.put.ensures)) c.put-2.ensures)
