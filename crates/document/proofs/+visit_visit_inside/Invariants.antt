-- `document::visit` and `document::visit_inside`, which call each other, meet their contracts. The depth that is left falls; the loop's invariant is `Inner`.
use Prim.Native.Nat.{◌-◌, ◌+◌, ◌*◌}
use mathlib.Core.Path.{◌≡◌}
use lib.ListN.{length}
use Rattle.walk.specs.WalkCode.{content_at}
use Rattle.document.specs.DocumentCode.{visit_body, visit_from, found, Sound}
use Rattle.document.proofs.Insides.{Inner}
use Rattle.document.proofs.+visit_visit_inside.Given as goal

abbrev pub decreases-visit : goal.decreases-visit
decreases-visit l = 2 * l.left

abbrev pub decreases-visit_inside : goal.decreases-visit_inside
decreases-visit_inside l = 2 * l.left + 1

abbrev pub invariant-visit_inside-loop-all : goal.invariant-visit_inside-loop-all
invariant-visit_inside-loop-all l = Inner l.file l.left l.i l.kind l.all.at l.seen (found l.all l.words) l.stray (visit_body (visit_from l.file l.left) l.file l.kind (found l.initial.all l.initial.words) (content_at l.file l.i)) × (length l.words ≡ length l.initial.words) × Sound l.all.end l.words

abbrev pub decreases-visit_inside-loop-all : goal.decreases-visit_inside-loop-all
decreases-visit_inside-loop-all l = length l.file - l.all.at
