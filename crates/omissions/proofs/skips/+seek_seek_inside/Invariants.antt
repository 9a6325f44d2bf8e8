-- `omissions::skips::seek` and `omissions::skips::seek_inside`, which call each other, meet their contracts. The depth that is left falls; the loop's invariant is `Within`.
use Prim.Native.Nat.{◌-◌, ◌+◌, ◌*◌}
use mathlib.Core.Path.{◌≡◌}
use lib.ListN.{length}
use Rattle.omissions.proofs.SkipsLaws.{Within}
use Rattle.omissions.proofs.skips.+seek_seek_inside.Given as goal

abbrev pub decreases-seek : goal.decreases-seek
decreases-seek l = 2 * l.left

abbrev pub decreases-seek_inside : goal.decreases-seek_inside
decreases-seek_inside l = 2 * l.left + 1

abbrev pub invariant-seek_inside-loop-all : goal.invariant-seek_inside-loop-all
invariant-seek_inside-loop-all l = Within l.file l.kind l.left (record { at = l.i; count = l.count }) l.initial.places l.all l.places × (length l.places ≡ length l.initial.places)

abbrev pub decreases-seek_inside-loop-all : goal.decreases-seek_inside-loop-all
decreases-seek_inside-loop-all l = length l.file - l.all.at
