-- `cut` meets its contract: the end is cut at the file's end, and the start at that.
use Rattle.grammar.proofs.Names.{cut}
use Rattle.grammar.proofs.cut.Goals as goal

pub returns : goal.returns
returns c = cut c.args.start c.args.end c.args.file.now c.min-to.ensures c.min.ensures
