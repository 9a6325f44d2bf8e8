-- `tokenise` meets its contract: one law for each way that a turn goes.
use Prim.Native.Nat.{◌-◌}
use lib.ListN.{length}
use Rattle.grammar.specs.TokensCode.{names_in}
use Rattle.grammar.proofs.Tokens.{Turn}
use Rattle.expression.proofs.tokens.tokenise.Given as goal

abbrev pub invariant-loop-at : goal.invariant-loop-at
invariant-loop-at l = Turn (names_in l.names.file.now l.names.starts.now l.names.ends.now) l.text l.at l.out

abbrev pub decreases-loop-at : goal.decreases-loop-at
decreases-loop-at l = length l.text - l.at
