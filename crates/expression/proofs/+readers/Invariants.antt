-- The cycle of the readers meets its contracts: each return cites one law. The measure is four for each token that is left, and a number for
-- the level: brackets 4, OR 3, AND 2, NOT 1.
use Prim.Native.Nat.{◌+◌, ◌-◌, ◌*◌, ◌≤◌}
use lib.ListN.{length}
use Rattle.grammar.specs.Tree as tree
use Rattle.grammar.proofs.Laws.{More}
use Rattle.expression.proofs.+readers.Given as goal

abbrev pub decreases-read_and : goal.decreases-read_and
decreases-read_and l = 4 * (length l.toks.now - l.at) + 2

abbrev pub decreases-read_bracket : goal.decreases-read_bracket
decreases-read_bracket l = 4 * (length l.toks.now - l.at) + 4

abbrev pub decreases-read_not : goal.decreases-read_not
decreases-read_not l = 4 * (length l.toks.now - l.at) + 1

abbrev pub decreases-read_or : goal.decreases-read_or
decreases-read_or l = 4 * (length l.toks.now - l.at) + 3

abbrev pub invariant-read_and-loop-out : goal.invariant-read_and-loop-out
invariant-read_and-loop-out l =
    (l.at ≤ l.here) × More tree.and l.depth l.toks l.initial.here l.initial.out l.here l.out

abbrev pub decreases-read_and-loop-out : goal.decreases-read_and-loop-out
decreases-read_and-loop-out l = length l.toks - l.here

abbrev pub invariant-read_or-loop-out : goal.invariant-read_or-loop-out
invariant-read_or-loop-out l =
    (l.at ≤ l.here) × More tree.or l.depth l.toks l.initial.here l.initial.out l.here l.out

abbrev pub decreases-read_or-loop-out : goal.decreases-read_or-loop-out
decreases-read_or-loop-out l = length l.toks - l.here
