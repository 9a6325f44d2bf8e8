-- `printing::put_summary` meets its contract: six lines.
use Rattle.text.specs.Texts.{bytes}
use Rattle.printing.specs.Printing.{text_line}
use Rattle.printing.proofs.Puts.{put_behind, summed}
use Rattle.printing.proofs.put_summary.Goals as goal

pub returns : goal.returns
unfolding text_line bytes
returns c =
    summed c.args.words.now c.args.n c.word.ensures c.word-2.ensures c.word-3.ensures c.word-4.ensures c.word-5.ensures
    (put_behind (put_behind (put_behind (put_behind (put_behind c.put_line-at.ensures c.put_line-at-2.ensures) c.put_line-at-3.ensures)
    c.put_line-at-4.ensures) c.put_line-at-5.ensures) c.put_line.ensures)
