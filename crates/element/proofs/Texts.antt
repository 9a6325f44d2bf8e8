-- The text of an element: it fits the buffer that it is gathered in, and is trimmed there.
use Prim.Native.Nat.{ℕ, zero, suc, ◌+◌, ◌-◌, ◌≤◌, ◌<◌}
use native.Mathlib.Omega.{arith}
use mathlib.Core.Path.{◌≡◌, sym, ap, ◌∙◌, subst}
use mathlib.Core.List.{List, [], ◌++◌}
use mathlib.Core.Bool.{not, true≢false}
use lib.ListN.{length, take, drop, length-append}
use lib.Seq.{slice, length-slice, length-take-le, take_all, take_at}
use Rattle.text.specs.Texts.{same}
use Rattle.lists.proofs.Cases.{by_cases}
use Rattle.text.proofs.Equal.{same_self, same_equal}
use Rattle.shape.specs.Shape.{Attribute, node, Items}
use Rattle.walk.specs.declared.Part.{Part}
use Rattle.walk.specs.declared.Item.{Item}
use Rattle.walk.specs.declared.Body.{Body}
use Rattle.shape.specs.Text.{joined, trimmed}
use Rattle.walk.specs.StandsCode.{ElementAt}
use Rattle.walk.specs.WalkCode.{item_at, content_at, walk_items, texting, skipped, inner_start, text_at, stray, trim_at, LaidDown}
use Rattle.walk.proofs.Bounds.{ItemFrom, item_bounds, BodyFrom, content_bounds, skipped_bounds}
use Rattle.shape.proofs.Slices.{slice_part}
use Rattle.walk.proofs.Buffers.{laid_room, laid_long}
use Rattle.walk.proofs.WalkTrims.{trim_law, trim_bounds}
use Rattle.walk.proofs.WalkLaws.{text_law, has_none_law}
use Rattle.element.specs.ElementCode.{short_text}

-- the text from j on is no longer than what is left of the file
items_room : (f : List ℕ) (n j : ℕ) → j ≤ length f → length (walk_items (texting f) f n j) + j ≤ length f
unfolding walk_items
items_room f zero j h = omega arith
items_room f (suc n) j h = by_item (item_at f j) (item_bounds f j) (λ k m. items_room f n k m)
  where
    by_item : (r : Item) → ItemFrom f j r → ((k : ℕ) → k ≤ length f → length (walk_items (texting f) f n k) + k ≤ length f)
        → length {A = ℕ}
        (elim r [
          | Item.Text k ↦ slice j k f ++ walk_items (texting f) f n k
          | Item.Remark k ↦ walk_items (texting f) f n k
          | Item.Child ↦ walk_items (texting f) f n (skipped f j)
          | Item.Close k ↦ []
          | Item.Broken ↦ []
        ]) + j ≤ length f
    by_item (Item.Text k) p c =
        let w = walk_items (texting f) f n k in
        omega (arith, p.0, p.1, c k p.1, length-append (slice j k f) w, length-slice j k f p.1)
    by_item (Item.Remark k) p c = omega (arith, p.0, c k p.1)
    by_item Item.Child p c = let b = skipped_bounds f j p in omega (arith, b.0, c (skipped f j) b.1)
    by_item (Item.Close k) p c = omega arith
    by_item Item.Broken p c = omega arith

inner_room : (f : List ℕ) (i : ℕ) (b : Body) → BodyFrom f i b → inner_start f b ≤ length f
unfolding inner_start
inner_room f i (Body.Open o) h = h.1
inner_room f i (Body.Empty e) h = omega arith
inner_room f i Body.Broken h = omega arith

text_room : (f : List ℕ) (i : ℕ) → i < length f → length (text_at f i) ≤ length f
unfolding text_at
text_room f i h =
    let j = inner_start f (content_at f i) in
    omega (arith, items_room f (suc (length f)) j (inner_room f i (content_at f i) (content_bounds f i h)))

-- the text of an element that stands in a file
module _ (f : List ℕ) (d i p : ℕ) (n : List ℕ) (l : List Attribute) (k : Items) (e : ℕ) (y : ElementAt f d i (node p n l k) e)
    (deep : d ≤ 8) where
  pub short_law : length f ≤ 32768 → short_text f i ≡ trimmed (joined k)
  short_law h =
      let r = text_room f i (omega (arith, y.before, y.within)) in
      ap trimmed (take_all 32768 (text_at f i) (omega arith) ∙ text_law f d i p n l k e y deep)

  pub stray_law : stray (text_at f i) ≡ not (same (trimmed (joined k)) [])
  stray_law =
      let z = has_none_law f d i p n l k e y deep in
      by_cases (stray (text_at f i))
      (λ t. by_cases (same (trimmed (joined k)) [])
      (λ u. absurd (true≢false (sym t ∙ z.1 (same_equal (trimmed (joined k)) [] u))))
      (λ u. rw (t, u)))
      (λ t. rw (t, z.0 t, same_self []))

-- the part of a text that `trim` answered
module _ (s : List ℕ) (p : Part) (e : p ≡ trim_at s) where
  pub trimmed_bounds : (p.from ≤ p.to) × (p.to ≤ length s)
  trimmed_bounds = subst (λ (q : Part). (q.from ≤ q.to) × (q.to ≤ length s)) (sym e) (trim_bounds s)

  pub trimmed_part : take (p.to - p.from) (drop p.from s) ≡ trimmed s
  trimmed_part =
      slice_part s p.from p.to trimmed_bounds.0 trimmed_bounds.1 ∙ (ap (λ (q : Part). slice q.from q.to s) e ∙ trim_law s)

-- what was laid into a buffer, taken out of it
module _ (t d : List ℕ) (n : ℕ) (e : List ℕ) (x : LaidDown t d n e) where
  pub laid_within : n ≤ length e
  laid_within = omega (arith, laid_room t d n e x, laid_long t d n e x)

  pub laid_count : n ≡ length (take n e)
  laid_count = sym (length-take-le n e laid_within)

  pub laid_taken : (m : ℕ) → length d ≡ m → take n e ≡ take m t
  laid_taken m h = ap (take n) x.bytes
      ∙ (take_at (take (length d) t) (drop (length t) d) n (sym x.count) ∙ ap (λ (k : ℕ). take k t) h)
