-- The loops over the attributes of a start tag, on a file of good shape: they see the list of its attributes.
use Prim.Native.Nat.{ℕ, zero, suc, ◌+◌, ◌≤◌, ◌<◌}
use native.Mathlib.Omega.{arith}
use mathlib.Core.Path.{◌≡◌, refl, sym, ap, ◌∙◌, subst}
use mathlib.Core.List.{List, [], ◌∷◌, map}
use mathlib.Core.Bool.{true, true≢false}
use lib.ListN.{length}
use lib.Seq.{slice}
use Rattle.text.specs.Texts.{same}
use Rattle.lists.proofs.Cases.{by_cases}
use Rattle.shape.specs.Shape.{Attribute, Items}
use Rattle.walk.specs.declared.TagPart.{TagPart}
use Rattle.walk.specs.StandsCode.{StartAt}
use Rattle.walk.specs.WalkCode as walk
use Rattle.walk.proofs.Bounds.{part_over}
use Rattle.walk.proofs.WalkLaws.{PartTold, part_law}
use Rattle.file_rules.specs.Element.{given_value, given}
use Rattle.element.specs.ElementCode.{Placed, placed, spelt, placed_from, value_in}
use Rattle.element.proofs.Turns.{placed_next, placed_last}
use Rattle.lists.specs.Lists.{any}

-- no start tag goes on behind the end of the file
nowhere : (f : List ℕ) (d j : ℕ) (l : List Attribute) (k : Items) (e : ℕ) → StartAt f d j l k e → length f ≤ j → ⊥
nowhere f d j l k e s h = subst (PartTold f d j l k e) (part_over f j h) (part_law f d j l k e s (walk.part_at f j) refl)

pub placed_law : (f : List ℕ) (d : ℕ) (k : Items) (e n j : ℕ) (l : List Attribute) → StartAt f d j l k e → length f < n + j
    → map (spelt f) (placed_from f n j) ≡ l
placed_law f d k e zero j l s h = absurd (nowhere f d j l k e s (omega arith))
placed_law f d k e (suc n) j l s h =
    by_part (walk.part_at f j) refl (part_law f d j l k e s (walk.part_at f j) refl) (λ m l' s' h'. placed_law f d k e n m l' s' h')
  where
    by_part : (p : TagPart) → p ≡ walk.part_at f j → PartTold f d j l k e p
        → ((m : ℕ) (l' : List Attribute) → StartAt f d m l' k e → length f < n + m → map (spelt f) (placed_from f n m) ≡ l')
        → map (spelt f) (placed_from f (suc n) j) ≡ l
    by_part (TagPart.Attribute a b c m) r x go =
        ap (map (spelt f)) (placed_next f j n a b c m r)
        ∙ (ap (λ (y : List Attribute). spelt f (placed a b c m) ∷ y) (go (m + 1) x.0 x.2 (omega (arith, x.3))) ∙ sym x.1)
    by_part (TagPart.Open o) r x go = ap (map (spelt f)) (placed_last f j n (TagPart.Open o) r tt) ∙ sym x.0
    by_part (TagPart.Empty o) r x go = ap (map (spelt f)) (placed_last f j n (TagPart.Empty o) r tt) ∙ sym x.0
    by_part TagPart.Broken r x go = absurd x

-- the value of the attribute n, where it is given
pub spells : (n f : List ℕ) (ps : List Placed) → given n (map (spelt f) ps) ≡ true
    → slice (value_in n f ps).from (value_in n f ps).to f ≡ given_value n (map (spelt f) ps)
unfolding given given_value value_in any
spells n f [] t = absurd (true≢false (sym t))
spells n f (p ∷ ps) t = by_cases (same (spelt f p).name n) (λ u. rw u) (λ u. rw u (spells n f ps (rw u at t)))
