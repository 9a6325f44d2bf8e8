use Rattle.std.proofs.Common.{arith}
use Rattle.printing.specs.Printing.{word_lines}
use Rattle.printing.proofs.Puts.{put_none, lines_more, lines_all}
use Rattle.printing.proofs.put_lines.Goals as goal

pub loop-w-init : goal.loop-w-init
unfolding word_lines
loop-w-init c = record { within = omega arith; put = put_none _ }

pub loop-w-preserved : goal.loop-w-preserved
loop-w-preserved c = record {
  within = omega (arith, c.loop-w-test.true);
  put = lines_more _ _ _ _ _ _ _ _ c.loop-w.invariant.put c.loop-w-test.true c.from.ensures c.put_line-at.ensures;
}

pub returns : goal.returns
returns c = lines_all c.args.words.now _ _ c.args.n _ _ _ c.min.ensures c.loop-w-test.false c.loop-w.invariant.put
