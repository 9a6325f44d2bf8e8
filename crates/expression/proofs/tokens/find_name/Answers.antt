-- `find_name` meets its contract: the first of at most 32 places is below 32.
use native.Mathlib.Omega.{arith}
use mathlib.Core.Path.{sym}
use lib.ListN.{length-take}
use Rattle.std.specs.Prelude.{zip}
use Rattle.grammar.specs.TokensCode.{names_in}
use Rattle.grammar.proofs.Names.{find_first, first_low}
use Rattle.expression.proofs.tokens.find_name.Goals as goal

pub overflow_cast-result : goal.overflow_cast-result
overflow_cast-result c = omega (arith, first_low c.args.names.file.now c.args.word.now _ 0 (sym c.in-Some.ensures), length-take 32 (zip c.args.names.starts.now c.args.names.ends.now))

pub returns-in-Some : goal.returns-in-Some
unfolding names_in
returns-in-Some c = rw (find_first c.args.names.file.now c.args.word.now c.args.names.starts.now c.args.names.ends.now 32 0, ← c.in-Some.ensures)

pub returns-in-None : goal.returns-in-None
unfolding names_in
returns-in-None c = rw (find_first c.args.names.file.now c.args.word.now c.args.names.starts.now c.args.names.ends.now 32 0, ← c.in-None.ensures)
