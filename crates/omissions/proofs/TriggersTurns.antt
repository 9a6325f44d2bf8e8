-- The loops over entries: one is looked for, or the places of some are laid into a buffer.
use Prim.Native.Nat.{ℕ, ◌+◌, ◌≤◌}
use native.Mathlib.Omega.{arith}
use mathlib.Core.Path.{◌≡◌, refl, sym, ap, subst, ◌∙◌}
use mathlib.Core.List.{List, [], ◌∷◌, ◌++◌, append-nil, append_assoc}
use mathlib.Core.Bool.{Bool, true, false, ◌||◌}
use lib.ListN.{length, set, length-set}
use Rattle.std.specs.List.{list_any}
use Rattle.lists.specs.Lists.{any}
use Rattle.document.specs.EntriesCode.{Entry}
use Rattle.omissions.specs.ToldCode.{Told}
use Rattle.omissions.specs.TriggersCode.{places_of}
use Rattle.omissions.proofs.Buffers.{told_none, told_one}

pub any_is : {X : Type 0} (p : X → Bool) (xs : List X) → list_any p xs ≡ any p xs
unfolding any
any_is p [] = refl
any_is p (x ∷ xs) = ap (λ (b : Bool). p x || b) (any_is p xs)

-- ---- places in a buffer: of all, those before es are told, n of them
module _ (p : Entry → Bool) (all : List Entry) (d : List ℕ) where
  pub record Laying (n : ℕ) (es : List Entry) (e : List ℕ) : Type 0 where
    pub done : List ℕ
    pub told : Told done d n e
    pub whole : done ++ places_of p es ≡ places_of p all
    pub few : n + length es ≤ length all
    pub long : length e ≡ length d

  pub laying_none : Laying 0 all d
  laying_none = record { done = []; told = told_none d; whole = refl; few = omega arith; long = refl }

  module _ (n : ℕ) (e : List ℕ) {es : List Entry} (c : Laying n es e) where
    module _ {x : Entry} {rest : List Entry} (h : es ≡ x ∷ rest) (r : Bool) (q : r ≡ p x) where
      pub laying_more : r ≡ true → (place : ℕ) → place ≡ x.place → (u : List ℕ) → u ≡ set e n place → Laying (n + 1) rest u
      unfolding places_of
      laying_more t place g u v = record {
        done = c.done ++ (place ∷ []);
        told = rw v (told_one c.done d n e c.told place);
        whole = append_assoc c.done (place ∷ []) (places_of p rest) ∙ sym (rw (h, sym q ∙ t, g)) ∙ c.whole;
        few = omega (arith, c.few, ap length h);
        long = ap length v ∙ length-set e n place ∙ c.long;
      }

      pub laying_same : r ≡ false → Laying n rest e
      unfolding places_of
      laying_same t = record {
        done = c.done;
        told = c.told;
        whole = sym (rw (h, sym q ∙ t)) ∙ c.whole;
        few = omega (arith, c.few, ap length h);
        long = c.long;
      }

    pub laying_all : es ≡ [] → Told (places_of p all) d n e
    unfolding places_of
    laying_all h = subst (λ (l : List ℕ). Told l d n e) (sym (append-nil c.done) ∙ sym (rw h) ∙ c.whole) c.told
