-- The fault of an element with its stray text aside, and with it.
use Prim.Native.Nat.{ℕ}
use mathlib.Core.Path.{◌≡◌, refl}
use mathlib.Core.List.{List}
use mathlib.Core.Bool.{Bool, true, false, not, cond, ◌&&◌, ◌||◌}
use Rattle.std.specs.Prelude.{Option, Some, None, is_none}
use Rattle.walk.specs.WalkCode.{text_at, stray}
use Rattle.file_rules.specs.declared.Breach.{Breach}
use Rattle.file_rules.specs.declared.Breach.TheVariants.{Misfit, Misvalued, Uncarried}
use Rattle.element.specs.declared.Gathered.{Gathered}
use Rattle.element.specs.ElementCode.{rules_for, lacking, bounds_crossed, gathered_at, worded, said_at, verdict, own_fault, tag_fault}

-- 5, 6 and 7 for a value, by their flags; m is for a text that is misspelt
numbered : Bool → Bool → Bool → Bool → Option Breach
numbered a b m c = cond a (Some Misfit) (cond (b || m) (Some Misvalued) (cond c (Some Uncarried) None))

-- s is for stray text
stray_some : (a b m c s : Bool) → (numbered a b m c ≡ None → ⊥) → numbered a b (m || s) c ≡ None → ⊥
unfolding numbered
stray_some true b m c s h e = cc
stray_some false true m c s h e = cc
stray_some false false true c s h e = cc
stray_some false false false c true h e = cc
stray_some false false false c false h e = h e

stray_none : (a b m c s : Bool) → numbered a b m c ≡ None → numbered a b (m || s) c ≡ cond s (Some Misvalued) None
unfolding numbered
stray_none true b m c s e = cc
stray_none false true m c s e = cc
stray_none false false true c s e = cc
stray_none false false false true s e = cc
stray_none false false false false s e = refl

module _ (f : List ℕ) (i kind : ℕ) where
  abbrev g : Gathered
  g = gathered_at (rules_for kind) f i

  -- where there is a fault without stray text, there is one with it
  pub fault_some : (tag_fault kind f i ≡ None → ⊥) → own_fault kind f i ≡ None → ⊥
  unfolding own_fault tag_fault verdict numbered
  fault_some =
      stray_some (g.five || lacking (rules_for kind) g.has) (g.six || bounds_crossed g.has g.values) (is_none (said_at kind f i))
      g.seven (not (worded kind) && stray (text_at f i))

  -- where there is none, the fault is stray text
  pub fault_text : tag_fault kind f i ≡ None → own_fault kind f i ≡ cond (not (worded kind) && stray (text_at f i)) (Some Misvalued) None
  unfolding own_fault tag_fault verdict numbered
  fault_text =
      stray_none (g.five || lacking (rules_for kind) g.has) (g.six || bounds_crossed g.has g.values) (is_none (said_at kind f i))
      g.seven (not (worded kind) && stray (text_at f i))
