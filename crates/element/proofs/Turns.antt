-- Turns of the loops over the attributes of a start tag.
use Prim.Native.Nat.{ℕ, zero, suc, ◌+◌, ◌-◌, ◌≤◌, ◌<◌}
use native.Mathlib.Omega.{arith}
use mathlib.Core.Path.{◌≡◌, refl, sym, ap, ◌∙◌}
use mathlib.Core.List.{List, [], ◌∷◌, map}
use mathlib.Core.Bool.{Bool, true, false}
use lib.ListN.{length, take, drop}
use lib.Seq.{slice}
use Rattle.text.specs.Texts.{same}
use Rattle.lists.proofs.Cases.{by_cases}
use Rattle.walk.specs.declared.Part.{Part}
use Rattle.walk.specs.declared.TagPart.{TagPart}
use Rattle.walk.specs.WalkCode as walk
use Rattle.walk.proofs.Bounds.{PartFrom, part_bounds, part_from_lem, part_over}
use Rattle.shape.proofs.Slices.{slice_part}
use Rattle.walk.proofs.Turns.{Turn, start, next, done, over}
use Rattle.schema.specs.Schema.{Rule}
use Rattle.element.specs.declared.Gathered.{Gathered}
use Rattle.element.specs.ElementCode.{judged, gathered_list, Placed, placed, spelt, placed_from, placed_behind, value_in, value_at}

-- a part that is no attribute
abbrev pub Last : TagPart → Type 0
Last (TagPart.Attribute a e c k) = ⊥
Last (TagPart.Open o) = Unit {0}
Last (TagPart.Empty e) = Unit {0}
Last TagPart.Broken = Unit {0}

pub last_of : (p : TagPart) → ((a e c k : ℕ) → p ≡ TagPart.Attribute a e c k → ⊥) → Last p
last_of (TagPart.Attribute a e c k) h = h a e c k refl
last_of (TagPart.Open o) h = tt
last_of (TagPart.Empty e) h = tt
last_of TagPart.Broken h = tt

-- the bytes that code takes by `[a..e]`
abbrev part : List ℕ → ℕ → ℕ → List ℕ
part f a e = take (e - a) (drop a f)

-- ---- the attributes that are left
module _ (f : List ℕ) (j : ℕ) where
  pub placed_next : (n a e c k : ℕ) → TagPart.Attribute a e c k ≡ walk.part_at f j
      → placed_from f (suc n) j ≡ placed a e c k ∷ placed_from f n (k + 1)
  unfolding placed_from
  placed_next n a e c k r = rw (← r, placed_from)

  pub placed_last : (n : ℕ) (p : TagPart) → p ≡ walk.part_at f j → Last p → placed_from f (suc n) j ≡ []
  unfolding placed_from
  placed_last n (TagPart.Attribute a e c k) r z = absurd z
  placed_last n (TagPart.Open o) r z = rw (← r, placed_from)
  placed_last n (TagPart.Empty e) r z = rw (← r, placed_from)
  placed_last n TagPart.Broken r z = rw (← r, placed_from)

  placed_past : length f ≤ j → (n : ℕ) → placed_from f n j ≡ []
  unfolding placed_from
  placed_past h zero = refl
  placed_past h (suc n) = placed_last n TagPart.Broken (sym (part_over f j h)) tt

-- a loop over them, whose answer is `go` of those that are left
abbrev pub TagTurn : {A : Type 0} → (List Placed → A) → List ℕ → ℕ → A → Type 0
TagTurn go f j whole = Turn (λ n m. go (placed_from f n m)) (length f) j whole

pub tag_start : {A : Type 0} (go : List Placed → A) (f : List ℕ) (j : ℕ) → TagTurn go f j (go (placed_behind f j))
tag_start go f j = start (λ n m. go (placed_from f n m)) (length f) j (go (placed_behind f j)) refl

module _ {A : Type 0} (go : List Placed → A) (f : List ℕ) (j : ℕ) (whole : A) (t : TagTurn go f j whole) where
  module _ (h : j < length f) (a e c k : ℕ) (r : TagPart.Attribute a e c k ≡ walk.part_at f j) where
    tag_again : (go' : List Placed → A) → ((l : List Placed) → go (placed a e c k ∷ l) ≡ go' l) → TagTurn go' f (k + 1) whole
    tag_again go' s =
        let b = part_from_lem f j (TagPart.Attribute a e c k) r in
        next (λ n m. go (placed_from f n m)) (length f) j whole (λ n m. go' (placed_from f n m)) (k + 1) t h
        (omega (arith, b.0, b.1, b.2, b.3)) (λ n. ap go (placed_next f j n a e c k r) ∙ s (placed_from f n (k + 1)))

    tag_found : (x : A) → ((l : List Placed) → go (placed a e c k ∷ l) ≡ x) → x ≡ whole
    tag_found x s =
        done (λ n m. go (placed_from f n m)) (length f) j whole x t h
        (λ n. ap go (placed_next f j n a e c k r) ∙ s (placed_from f n (k + 1)))

  pub tag_done : j < length f → (p : TagPart) → p ≡ walk.part_at f j → Last p → go [] ≡ whole
  tag_done h p r z = done (λ n m. go (placed_from f n m)) (length f) j whole (go []) t h (λ n. ap go (placed_last f j n p r z))

  pub tag_over : length f ≤ j → go [] ≡ whole
  tag_over h = over (λ n m. go (placed_from f n m)) (length f) j whole (go []) t (λ n. ap go (placed_past f j h n))

-- what the code takes out of the file is what the part says
taken : (f : List ℕ) (j a e c k : ℕ) → TagPart.Attribute a e c k ≡ walk.part_at f j → (part f a e ≡ slice a e f) × (part f c k ≡ slice c k f)
taken f j a e c k r =
    let b = part_from_lem f j (TagPart.Attribute a e c k) r in
    (slice_part f a e b.1 (omega (arith, b.2, b.3, b.4)), slice_part f c k b.3 (omega (arith, b.4)))

-- ---- all attributes
abbrev pub gathering : List Rule → List ℕ → Gathered → List Placed → Gathered
gathering rs f g l = gathered_list rs (map (spelt f) l) g

pub gather_again : (rs : List Rule) (f : List ℕ) (j : ℕ) (whole g : Gathered) → TagTurn (gathering rs f g) f j whole → j < length f
    → (a e c k : ℕ) → TagPart.Attribute a e c k ≡ walk.part_at f j → (g' : Gathered)
    → g' ≡ judged rs g (record { name = part f a e; value = part f c k }) → TagTurn (gathering rs f g') f (k + 1) whole
unfolding gathered_list
gather_again rs f j whole g t h a e c k r g' z =
    let u = taken f j a e c k r in
    let y : judged rs g (spelt f (placed a e c k)) ≡ g' = sym (z ∙ rw (u.0, u.1)) in
    tag_again (gathering rs f g) f j whole t h a e c k r (gathering rs f g') (λ l. ap (gathered_list rs (map (spelt f) l)) y)

-- ---- one attribute
module _ (n f : List ℕ) (j : ℕ) (whole : Part) (t : TagTurn (value_in n f) f j whole) (h : j < length f) (a e c k : ℕ)
    (r : TagPart.Attribute a e c k ≡ walk.part_at f j) (b : Bool) (x : b ≡ same (part f a e) n) where
  named : b ≡ same (slice a e f) n
  named = x ∙ ap (λ (s : List ℕ). same s n) (taken f j a e c k r).0

  pub value_found : b ≡ true → record { from = c; to = k } ≡ whole
  unfolding value_in
  value_found u = tag_found (value_in n f) f j whole t h a e c k r (record { from = c; to = k }) (λ l. rw (sym named ∙ u))

  pub value_again : b ≡ false → TagTurn (value_in n f) f (k + 1) whole
  unfolding value_in
  value_again u = tag_again (value_in n f) f j whole t h a e c k r (value_in n f) (λ l. rw (sym named ∙ u))

-- the part can be taken out of the file
abbrev Inside : List ℕ → Part → Type 0
Inside f p = (p.from ≤ p.to) × (p.to ≤ length f)

bounds_from : (n f : List ℕ) (m j : ℕ) → Inside f (value_in n f (placed_from f m j))
unfolding placed_from value_in
bounds_from n f zero j = (omega arith, omega arith)
bounds_from n f (suc m) j = by_part (walk.part_at f j) refl (part_bounds f j) (bounds_from n f m)
  where
    by_part : (p : TagPart) → p ≡ walk.part_at f j → PartFrom f j p → ((k : ℕ) → Inside f (value_in n f (placed_from f m k)))
        → Inside f (value_in n f (placed_from f (suc m) j))
    by_part (TagPart.Attribute a e c k) r b go =
        rw (placed_next f j m a e c k r)
        (by_cases (same (slice a e f) n) (λ t. rw t (b.3, omega (arith, b.4))) (λ t. rw t (go (k + 1))))
    by_part (TagPart.Open o) r b go = rw (placed_last f j m (TagPart.Open o) r tt) (omega arith, omega arith)
    by_part (TagPart.Empty o) r b go = rw (placed_last f j m (TagPart.Empty o) r tt) (omega arith, omega arith)
    by_part TagPart.Broken r b go = rw (placed_last f j m TagPart.Broken r tt) (omega arith, omega arith)

pub value_bounds : (n f : List ℕ) (i : ℕ) → ((value_at n f i).from ≤ (value_at n f i).to) × ((value_at n f i).to ≤ length f)
unfolding value_at
value_bounds n f i = bounds_from n f (suc (length f)) (walk.name_at f i).to
