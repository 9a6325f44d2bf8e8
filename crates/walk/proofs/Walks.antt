-- A walk over a well-shaped element sees its items; so `skipped` is behind it, and `text_at` its text.
use Prim.Native.Nat.{ℕ, zero, suc, ◌+◌, ◌≤◌, ◌<◌}
use native.Mathlib.Omega.{arith}
use mathlib.Core.Path.{◌≡◌, refl, sym, ap, ◌∙◌, subst}
use mathlib.Core.List.{List, [], ◌∷◌, ◌++◌}
use lib.ListN.{length, drop}
use lib.Seq.{slice}
use Rattle.shape.specs.Shape.{Attribute, Node, node, Items, Element}
use Rattle.walk.specs.declared.Item.{Item}
use Rattle.walk.specs.declared.Body.{Body}
use Rattle.shape.specs.Text.{joined}
use Rattle.walk.specs.StandsCode.{Closing, texted}
use Rattle.walk.specs.WalkCode.{item_at, name_at, content_at, ItemWalk, walk_items, skipping, skip_body, skip_from, skipped, texting, inner_start, text_at}
use Rattle.walk.proofs.Bounds.{item_from, item_over, skip_bounds}
use Rattle.walk.proofs.Turns.{walk_text, walk_remark, walk_child, walk_close, walk_over}
use Rattle.walk.proofs.WalkItems.{tagged, ItemIs, item_is}
use Rattle.walk.proofs.WalkTags.{BodyIs, body_is, NodeIs, node_is}

-- the walk w of a file with children of depth d, and what it tells of the items that it has seen, r being what stands behind the element
record Faithful {A : Type 0} (w : ItemWalk A) (f : List ℕ) (d : ℕ) (r : List ℕ) (P : Items → A → Type 0) : Type 0 where
  over : (j : ℕ) (x : Node) (t : List ℕ) → Element (length f) d x (drop j f) t → drop (w.over j) f ≡ t
  ahead : (j : ℕ) → j < length f → j < w.over j
  close : (k : ℕ) → drop k f ≡ r → P Items.none (w.close k)
  text : (j k : ℕ) (i : Items) (a : A) → P i a → P (texted (slice j k f) i) (w.text j k a)
  remark : (i : Items) (a : A) → P i a → P (Items.remark i) a
  child : (x : Node) (i : Items) (a : A) → P i a → P (Items.child x i) a

module _ {A : Type 0} (w : ItemWalk A) (f : List ℕ) (d : ℕ) (r : List ℕ) (P : Items → A → Type 0) (z : Faithful w f d r P) where
  walks : (n j : ℕ) (i : Items) → Closing (Element (length f) d) i (drop j f) r → length f < n + j → P i (walk_items w f n j)
  walks zero j i c h =
      absurd
      (subst (ItemIs (Element (length f) d) (tagged (length f) d) f j i r) (item_over f j (omega arith))
      (item_is (Element (length f) d) (tagged (length f) d) f j c refl))
  walks (suc n) j i c h =
      by_item (item_at f j) refl (item_is (Element (length f) d) (tagged (length f) d) f j c refl) (λ k i' c' h'. walks n k i' c' h')
    where
      by_item : (p : Item) → p ≡ item_at f j → ItemIs (Element (length f) d) (tagged (length f) d) f j i r p
          → ((k : ℕ) (i' : Items) → Closing (Element (length f) d) i' (drop k f) r → length f < n + k → P i' (walk_items w f n k))
          → P i (walk_items w f (suc n) j)
      by_item (Item.Text k) q x next =
          let b = item_from f j (Item.Text k) q in
          rw (walk_text w f j n k q, x.1) (z.text j k x.0 (walk_items w f n k) (next k x.0 x.2 (omega (arith, b.0))))
      by_item (Item.Remark k) q x next =
          let b = item_from f j (Item.Remark k) q in
          rw (walk_remark w f j n k q, x.1) (z.remark x.0 (walk_items w f n k) (next k x.0 x.2 (omega (arith, b.0))))
      by_item Item.Child q x next =
          let k = w.over j in
          let b = z.ahead j (item_from f j Item.Child q) in
          let e = z.over j x.0 x.2 x.4 in
          rw (walk_child w f j n q, x.3)
          (z.child x.0 x.1 (walk_items w f n k)
          (next k x.1 (subst (λ (l : List ℕ). Closing (Element (length f) d) x.1 l r) (sym e) x.5) (omega (arith, b))))
      by_item (Item.Close k) q x next = rw (walk_close w f j n k q, x.0) (z.close k x.1)
      by_item Item.Broken q x next = absurd x

skip_faithful : (f : List ℕ) (left d : ℕ) (r : List ℕ)
    → ((j : ℕ) (x : Node) (t : List ℕ) → Element (length f) d x (drop j f) t → drop (skip_from f left j) f ≡ t)
    → Faithful (skipping (skip_from f left) f) f d r (λ i k. drop k f ≡ r)
skip_faithful f left d r o = record {
  over = o;
  ahead = λ j h. (skip_bounds f left j h).0;
  close = λ k e. e;
  text = λ j k i a e. e;
  remark = λ i a e. e;
  child = λ x i a e. e;
}

-- an element, from its node
pub element_is : (f : List ℕ) (d i : ℕ) (x : Node) (r : List ℕ) → Element (length f) (suc d) x (drop i f) r
    → NodeIs (Element (length f) d) f i r x
element_is f d i x r y = node_is (Element (length f) d) f i y refl

pub content_is : (f : List ℕ) (d i p : ℕ) (n : List ℕ) (l : List Attribute) (k : Items) (r : List ℕ)
    → NodeIs (Element (length f) d) f i r (node p n l k) → BodyIs (Element (length f) d) f k r (content_at f i)
unfolding content_at
content_is f d i p n l k r x = body_is (Element (length f) d) f (suc (length f)) (name_at f i).to x.3 x.4 refl (omega arith)

skip_body_lem : (f : List ℕ) (left d : ℕ) (k : Items) (r : List ℕ)
    → ((j : ℕ) (x : Node) (t : List ℕ) → Element (length f) d x (drop j f) t → drop (skip_from f left j) f ≡ t)
    → (b : Body) → BodyIs (Element (length f) d) f k r b → drop (skip_body (skip_from f left) f b) f ≡ r
unfolding skip_body
skip_body_lem f left d k r o (Body.Open j) c =
    walks (skipping (skip_from f left) f) f d r (λ i m. drop m f ≡ r) (skip_faithful f left d r o) (suc (length f)) j k c (omega arith)
skip_body_lem f left d k r o (Body.Empty e) c = c.1
skip_body_lem f left d k r o Body.Broken c = absurd c

skip_node : (f : List ℕ) (left d i : ℕ) (r : List ℕ)
    → ((j : ℕ) (x : Node) (t : List ℕ) → Element (length f) d x (drop j f) t → drop (skip_from f left j) f ≡ t)
    → (x : Node) → NodeIs (Element (length f) d) f i r x → drop (skip_from f (suc left) i) f ≡ r
unfolding skip_from
skip_node f left d i r o (node p n l k) z = skip_body_lem f left d k r o (content_at f i) (content_is f d i p n l k r z)

-- behind an element, with depth enough
pub skips : (f : List ℕ) (left d : ℕ) → d ≤ left → (i : ℕ) (x : Node) (r : List ℕ) → Element (length f) d x (drop i f) r
    → drop (skip_from f left i) f ≡ r
skips f left zero h i x r y = absurd y
skips f zero (suc d) h i x r y = absurd (omega arith)
skips f (suc left) (suc d) h i x r y = skip_node f left d i r (λ j z t u. skips f left d (omega arith) j z t u) x (element_is f d i x r y)

-- text
joined_texted : (w : List ℕ) (i : Items) → joined (texted w i) ≡ w ++ joined i
unfolding joined texted
joined_texted [] i = refl
joined_texted (b ∷ w) i = ap (λ (l : List ℕ). b ∷ l) (joined_texted w i)

text_faithful : (f : List ℕ) (d : ℕ) (r : List ℕ) → d ≤ 8 → Faithful (texting f) f d r (λ i s. s ≡ joined i)
unfolding joined skipped
text_faithful f d r h = record {
  over = λ j x t y. skips f 8 d h j x t y;
  ahead = λ j l. (skip_bounds f 8 j l).0;
  close = λ k e. refl;
  text = λ j k i s e. ap (λ (l : List ℕ). slice j k f ++ l) e ∙ sym (joined_texted (slice j k f) i);
  remark = λ i s e. e;
  child = λ x i s e. e;
}

text_body : (f : List ℕ) (d : ℕ) (k : Items) (r : List ℕ) → d ≤ 8 → (b : Body) → BodyIs (Element (length f) d) f k r b
    → walk_items (texting f) f (suc (length f)) (inner_start f b) ≡ joined k
unfolding inner_start joined
text_body f d k r h (Body.Open j) c =
    walks (texting f) f d r (λ i s. s ≡ joined i) (text_faithful f d r h) (suc (length f)) j k c (omega arith)
text_body f d k r h (Body.Empty e) c = walk_over (texting f) f (length f) (omega arith) (suc (length f)) ∙ sym (ap joined c.0)
text_body f d k r h Body.Broken c = absurd c

-- the text of an element, with depth enough for its children
pub texts_of : (f : List ℕ) (d i p : ℕ) (n : List ℕ) (l : List Attribute) (k : Items) (r : List ℕ) → d ≤ 8
    → NodeIs (Element (length f) d) f i r (node p n l k) → text_at f i ≡ joined k
unfolding text_at
texts_of f d i p n l k r h z = text_body f d k r h (content_at f i) (content_is f d i p n l k r z)
