-- What the answers are on a file of good shape, in terms of its tree.
use Prim.Native.Nat.{ℕ, zero, suc, ◌+◌, ◌≤◌, ◌<◌}
use native.Mathlib.Omega.{arith}
use mathlib.Core.Path.{◌≡◌, refl, sym, ap, subst}
use mathlib.Core.List.{List, [], ◌∷◌}
use mathlib.Core.Bool.{false}
use mathlib.Core.Logic.{◌↔◌}
use lib.ListN.{length, drop}
use lib.Seq.{slice}
use Rattle.shape.specs.Shape.{Attribute, Node, node, Items, Element, WellShaped}
use Rattle.walk.specs.declared.TagPart.{TagPart}
use Rattle.walk.specs.declared.Item.{Item}
use Rattle.walk.specs.declared.Body.{Body}
use Rattle.shape.specs.Text.{joined, trimmed}
use Rattle.walk.specs.StandsCode.{ElementAt, ContentStands, StartAt, texted}
use Rattle.walk.specs.WalkCode.{part_at, item_at, name_at, content_at, skip_from, skipped, root_at, text_at, stray}
use Rattle.walk.proofs.Places.{here, same_place, ahead_in}
use Rattle.walk.proofs.Bounds.{part_from_lem, item_from, BodyFrom, content_bounds, skip_bounds}
use Rattle.walk.proofs.WalkItems.{tagged, ItemIs, item_is}
use Rattle.walk.proofs.WalkTags.{PartIs, part_is, BodyIs}
use Rattle.walk.proofs.Walks.{element_is, content_is, skips, texts_of}
use Rattle.walk.proofs.Files.{root_is}
use Rattle.walk.proofs.WalkTrims.{stray_none}

-- an element at an offset, and the offset behind it
placed : (f : List ℕ) (d i : ℕ) (x : Node) (r : List ℕ) → Element (length f) d x (drop i f) r → ElementAt f d i x (skip_from f d i)
placed f d i x r y =
    let b = skip_bounds f d i (here f i (tagged (length f) d x (drop i f) r y).is).inner in
    record { before = b.0; within = b.1; spells = subst (Element (length f) d x (drop i f)) (sym (skips f d d (omega arith) i x r y)) y }

-- the root element stands where `root_at` says
pub root_law : (f : List ℕ) (x : Node) → WellShaped f x → (e : ℕ) × ElementAt f 8 (root_at f) x e
root_law f x (WellShaped.file {s₂ = s} {s₃ = r} p m y q) =
    let h = root_is f s (tagged (length f) 8 x s r y) p m in
    (skip_from f 8 (root_at f), placed f 8 (root_at f) x r (subst (λ (l : List ℕ). Element (length f) 8 x l r) (sym h) y))

-- an element's place is its offset, its name what `name_of` says, and its start tag goes on behind the name
abbrev pub ElementIs : List ℕ → ℕ → ℕ → ℕ → Node → Type 0
ElementIs f d i e (node p n l k) = (p ≡ i) × (n ≡ slice (name_at f i).from (name_at f i).to f) × StartAt f d (name_at f i).to l k e

pub element_law : (f : List ℕ) (d i : ℕ) (x : Node) (e : ℕ) → ElementAt f (suc d) i x e → ElementIs f d i e x
element_law f d i (node p n l k) e y =
    let z = element_is f d i (node p n l k) (drop e f) y.spells in
    (z.0, z.1, record { within = y.within; rest = z.2; attributes = z.3; tail = z.4 })

-- a name starts behind the bracket
pub name_law : (f : List ℕ) (i : ℕ) → i < length f → (name_at f i).from ≡ i + 1
unfolding name_at
name_law f i h = ahead_in f i 1 (omega arith)

-- no element stands where no depth is left
pub element_deep : (f : List ℕ) (i : ℕ) (x : Node) (e : ℕ) → ElementAt f zero i x e → ⊥
element_deep f i x e y = y.spells

-- the answer of `part_at` in a start tag
abbrev pub PartTold : List ℕ → ℕ → ℕ → List Attribute → Items → ℕ → TagPart → Type 0
PartTold f d j l i e (TagPart.Attribute a b c k) =
    (l' : List Attribute) × (l ≡ (let p : Attribute = record { name = slice a b f; value = slice c k f } in p) ∷ l')
    × StartAt f d (k + 1) l' i e × (j < k + 1)
PartTold f d j l i e (TagPart.Open o) = (l ≡ []) × ContentStands f d o i e
PartTold f d j l i e (TagPart.Empty o) = (l ≡ []) × (i ≡ Items.none) × (o ≡ e)
PartTold f d j l i e TagPart.Broken = ⊥

module _ (f : List ℕ) (d j : ℕ) (l : List Attribute) (i : Items) (e : ℕ) (s : StartAt f d j l i e) where
  told_part : (p : TagPart) → p ≡ part_at f j → PartIs (Element (length f) d) f j l i (drop e f) p → PartTold f d j l i e p
  told_part (TagPart.Attribute a b c k) q x =
      let h = part_from_lem f j (TagPart.Attribute a b c k) q in
      (x.0, x.2, record { within = s.within; rest = x.1; attributes = x.3; tail = x.4 }, omega (arith, h.0, h.1, h.2, h.3))
  told_part (TagPart.Open o) q x = (x.0, record { within = s.within; stands = x.1 })
  told_part (TagPart.Empty o) q x =
      let h = part_from_lem f j (TagPart.Empty o) q in
      (x.0, x.1, same_place f o e h.1 s.within x.2)
  told_part TagPart.Broken q x = x

  pub part_law : (p : TagPart) → p ≡ part_at f j → PartTold f d j l i e p
  part_law p q =
      told_part p q
      (subst (PartIs (Element (length f) d) f j l i (drop e f)) (sym q) (part_is (Element (length f) d) f j s.attributes s.tail refl))

-- the answer of `item_at` in an element
abbrev pub ItemTold : List ℕ → ℕ → ℕ → Items → ℕ → Item → Type 0
ItemTold f d j i e (Item.Text k) = (i' : Items) × (i ≡ texted (slice j k f) i') × ContentStands f d k i' e × (j < k)
ItemTold f d j i e (Item.Remark k) = (i' : Items) × (i ≡ Items.remark i') × ContentStands f d k i' e × (j < k)
ItemTold f d j i e Item.Child = (x : Node) × (i' : Items) × (m : ℕ) × (i ≡ Items.child x i') × ElementAt f d j x m
    × ContentStands f d m i' e
ItemTold f d j i e (Item.Close k) = (i ≡ Items.none) × (k ≡ e)
ItemTold f d j i e Item.Broken = ⊥

module _ (f : List ℕ) (d j : ℕ) (i : Items) (e : ℕ) (s : ContentStands f d j i e) where
  told_item : (p : Item) → p ≡ item_at f j → ItemIs (Element (length f) d) (tagged (length f) d) f j i (drop e f) p → ItemTold f d j i e p
  told_item (Item.Text k) q x = (x.0, x.1, record { within = s.within; stands = x.2 }, (item_from f j (Item.Text k) q).0)
  told_item (Item.Remark k) q x = (x.0, x.1, record { within = s.within; stands = x.2 }, (item_from f j (Item.Remark k) q).0)
  told_item Item.Child q x =
      let y = placed f d j x.0 x.2 x.4 in
      let t = skips f d d (omega arith) j x.0 x.2 x.4 in
      (x.0, x.1, skip_from f d j, x.3, y, record { within = s.within; stands = rw t x.5 })
  told_item (Item.Close k) q x = (x.0, same_place f k e (item_from f j (Item.Close k) q).1 s.within x.1)
  told_item Item.Broken q x = x

  pub item_law : (p : Item) → p ≡ item_at f j → ItemTold f d j i e p
  item_law p q =
      told_item p q
      (subst (ItemIs (Element (length f) d) (tagged (length f) d) f j i (drop e f)) (sym q)
      (item_is (Element (length f) d) (tagged (length f) d) f j s.stands refl))

-- the answer of `content_at` at an element
abbrev pub BodyTold : List ℕ → ℕ → Items → ℕ → Body → Type 0
BodyTold f d i e (Body.Open o) = ContentStands f d o i e
BodyTold f d i e (Body.Empty o) = (i ≡ Items.none) × (o ≡ e)
BodyTold f d i e Body.Broken = ⊥

module _ (f : List ℕ) (d i p : ℕ) (n : List ℕ) (l : List Attribute) (k : Items) (e : ℕ) (y : ElementAt f (suc d) i (node p n l k) e) where
  told_body : (b : Body) → BodyFrom f i b → BodyIs (Element (length f) d) f k (drop e f) b → BodyTold f d k e b
  told_body (Body.Open o) h x = record { within = y.within; stands = x }
  told_body (Body.Empty o) h x = (x.0, same_place f o e h.1 y.within x.1)
  told_body Body.Broken h x = x

  pub content_law : (b : Body) → b ≡ content_at f i → BodyTold f d k e b
  content_law b q =
      subst (BodyTold f d k e) (sym q)
      (told_body (content_at f i) (content_bounds f i (omega (arith, y.before, y.within)))
      (content_is f d i p n l k (drop e f) (element_is f d i (node p n l k) (drop e f) y.spells)))

-- `skip` comes behind an element
pub skip_law : (f : List ℕ) (d i : ℕ) (x : Node) (e : ℕ) → ElementAt f d i x e → d ≤ 8 → skipped f i ≡ e
unfolding skipped
skip_law f d i x e y h =
    let b = skip_bounds f 8 i (omega (arith, y.before, y.within)) in
    same_place f (skip_from f 8 i) e b.1 y.within (skips f 8 d h i x (drop e f) y.spells)

-- the text that `gather_text` lays down is the joined text
pub text_law : (f : List ℕ) (d i p : ℕ) (n : List ℕ) (l : List Attribute) (k : Items) (e : ℕ) → ElementAt f d i (node p n l k) e → d ≤ 8
    → text_at f i ≡ joined k
text_law f zero i p n l k e y h = absurd y.spells
text_law f (suc d) i p n l k e y h =
    texts_of f d i p n l k (drop e f) (omega arith) (element_is f d i (node p n l k) (drop e f) y.spells)

-- `has_text` says whether a byte of it is no blank
pub has_law : (f : List ℕ) (d i p : ℕ) (n : List ℕ) (l : List Attribute) (k : Items) (e : ℕ) → ElementAt f d i (node p n l k) e → d ≤ 8
    → stray (text_at f i) ≡ stray (joined k)
has_law f d i p n l k e y h = ap stray (text_law f d i p n l k e y h)

-- and it says no exactly if the element's text is empty
pub has_none_law : (f : List ℕ) (d i p : ℕ) (n : List ℕ) (l : List Attribute) (k : Items) (e : ℕ) → ElementAt f d i (node p n l k) e → d ≤ 8
    → (stray (text_at f i) ≡ false) ↔ (trimmed (joined k) ≡ [])
has_none_law f d i p n l k e y h =
    subst (λ (s : List ℕ). (stray (text_at f i) ≡ false) ↔ (trimmed s ≡ [])) (text_law f d i p n l k e y h) (stray_none (text_at f i))
