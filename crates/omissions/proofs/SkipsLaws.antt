-- The walk that looks for skipped elements, in a file of good shape: an element, what it holds item by item, and the root.
use Prim.Native.Nat.{ℕ, zero, suc, ◌-◌, ◌≤◌, ◌<◌}
use native.Mathlib.Omega.{arith}
use mathlib.Core.Path.{◌≡◌, refl, sym, subst, ◌∙◌}
use mathlib.Core.List.{List, [], ◌∷◌}
use mathlib.Core.Bool.{true, false, ◌||◌}
use lib.ListN.{length}
use lib.Seq.{slice}
use Rattle.std.specs.Prelude.{Ok}
use Rattle.shape.specs.Shape.{Attribute, Node, node, Items, WellShaped, Shaped}
use Rattle.walk.specs.declared.Item.{Item}
use Rattle.walk.specs.declared.Body.{Body}
use Rattle.walk.specs.WalkCode.{item_at, content_at, skipped, root_at}
use Rattle.walk.specs.StandsCode.{ElementAt, ContentStands, texted}
use Rattle.walk.proofs.Bounds.{BodyFrom, content_bounds, item_over, item_from}
use Rattle.walk.proofs.WalkLaws.{root_law, element_law, element_deep, item_law, content_law, skip_law}
use Rattle.schema.specs.Schema.{Parent, under}
use Rattle.schema.specs.SchemaCode.{names, name_in, kind_name, is_carried, is_barred, held_in}
use Rattle.schema.proofs.Laws.{kind_named, kind_carried, kind_barred}
use Rattle.text.specs.Texts.{bytes}
use Rattle.document.specs.DocumentCode.{child_at}
use Rattle.document.proofs.Visits.{child_kind}
use Rattle.omissions.specs.declared.skips.Sought.{Sought}
use Rattle.omissions.specs.Omissions.{skipped_in, skipped_at, skipped_elements}
use Rattle.omissions.specs.SkipsCode.{Standing, items_of, SoughtIs, SoughtIn}
use Rattle.omissions.specs.ToldCode.{Told, Adds}
use Rattle.omissions.proofs.Buffers.{told_none, adds_none, adds_then}

-- text before items changes nothing
skipped_texted : (q : Parent) (w : List ℕ) (i : Items) → skipped_in q (texted w i) ≡ skipped_in q i
unfolding skipped_in texted
skipped_texted q [] i = refl
skipped_texted q (b ∷ w) i = skipped_texted q w i

body_from : (f : List ℕ) (i : ℕ) → i < length f → (b : Body) → b ≡ content_at f i → BodyFrom f i b
body_from f i h b e = rw e (content_bounds f i h)

-- ---- an element
module _ (f : List ℕ) (d : ℕ) (w : Sought) (z : Standing f d w) where
  pub standing_deep : d ≡ 0 → ⊥
  standing_deep e = element_deep f w.at z.node z.end (subst (λ (n : ℕ). ElementAt f n w.at z.node z.end) e z.stands)

  pub standing_inside : Standing f (suc (d - 1)) w
  standing_inside =
      let n = standing_deep in
      let e : suc (d - 1) ≡ d = omega arith in
      rw e z

  pub standing_low : w.count ≤ 32768
  standing_low = omega (arith, z.short, z.fits, z.stands.before, z.stands.within)

-- the element at i is known by its kind if it is by its name
known_is : (f : List ℕ) (d i q : ℕ) (p : ℕ) (n : List ℕ) (l : List Attribute) (t : Items) (e : ℕ) → ElementAt f d i (node p n l t) e
    → (is_carried (kind_name (child_at f i q)) || is_barred (kind_name (child_at f i q))) ≡ held_in (kind_name q) n
unfolding held_in
known_is f d i q p n l t e y = rw (child_kind f d i (node p n l t) e y q, kind_carried q n, kind_barred q n) refl

module _ (f : List ℕ) (q d : ℕ) (w : Sought) (z : Standing f d w) (kind : ℕ) (is : kind ≡ child_at f w.at q) (ms : List ℕ) (v : Sought)
    (ms' : List ℕ) where
  -- it is gone through
  known_told : (is_carried (kind_name kind) || is_barred (kind_name kind)) ≡ true → SoughtIn f kind (d - 1) w ms v ms' → (x : Node) (e : ℕ)
      → ElementAt f d w.at x e → Adds (skipped_at (under (kind_name q)) x) w.count ms v.count ms'
  unfolding skipped_at held_in
  known_told b s (node p n l t) e y =
      let g = standing_deep f d w z in
      let u : suc (d - 1) ≡ d = omega arith in
      let h : held_in (kind_name q) n ≡ true = sym (known_is f d w.at q p n l t e y) ∙ (rw is at b) in
      let k : kind_name kind ≡ n = rw (is, child_kind f d w.at (node p n l t) e y q) (kind_named q n h) in
      rw (h, ← k) (s.tells (node p n l t) e (rw u y))

  pub sought_known : (is_carried (kind_name kind) || is_barred (kind_name kind)) ≡ true → SoughtIn f kind (d - 1) w ms v ms'
      → SoughtIs f q d w ms v ms'
  sought_known b s =
      let g = standing_deep f d w z in
      let u : suc (d - 1) ≡ d = omega arith in
      record { fits = s.fits; ends = λ x e y. s.ends x e (rw u y); tells = known_told b s }

  -- it is skipped
  other_told : (is_carried (kind_name kind) || is_barred (kind_name kind)) ≡ false → Adds (w.at ∷ []) w.count ms v.count ms' → (d : ℕ)
      → (x : Node) (e : ℕ) → ElementAt f d w.at x e → Adds (skipped_at (under (kind_name q)) x) w.count ms v.count ms'
  unfolding skipped_at held_in
  other_told b a zero x e y = absurd (element_deep f w.at x e y)
  other_told b a (suc d) (node p n l t) e y =
      let h : held_in (kind_name q) n ≡ false = sym (known_is f (suc d) w.at q p n l t e y) ∙ (rw is at b) in
      rw (h, (element_law f d w.at (node p n l t) e y).0) a

  pub sought_other : (is_carried (kind_name kind) || is_barred (kind_name kind)) ≡ false
      → Adds (w.at ∷ []) w.count ms v.count ms' → v.count ≡ suc w.count → v.at ≡ skipped f w.at → SoughtIs f q d w ms v ms'
  sought_other b a c s =
      let i = z.stands.before in
      let g = skip_law f d w.at z.node z.end z.stands z.shallow in
      record {
        fits = omega (arith, c, s, g, i, z.fits);
        ends = λ x e y. s ∙ skip_law f d w.at x e y z.shallow;
        tells = other_told b a d;
      }

-- ---- what it holds
-- from w, at an element of the kind q, to v, in it: its items go on, and what they add is what was still to come
pub record Inner (f : List ℕ) (q d : ℕ) (w : Sought) (ms : List ℕ) (v : Sought) (ms' : List ℕ) (x : Node) (e : ℕ) : Type 0 where
  pub items : Items
  pub stands : ContentStands f d v.at items e
  pub rest : (u : ℕ) (us : List ℕ) → Adds (skipped_in (under (kind_name q)) items) v.count ms' u us
      → Adds (skipped_in (under (kind_name q)) (items_of x)) w.count ms u us

pub record Within (f : List ℕ) (q d : ℕ) (w : Sought) (ms : List ℕ) (v : Sought) (ms' : List ℕ) : Type 0 where
  pub fits : v.count ≤ v.at
  pub inner : (x : Node) (e : ℕ) → ElementAt f (suc d) w.at x e → Inner f q d w ms v ms' x e

module _ (f : List ℕ) (q d : ℕ) (w : Sought) (z : Standing f (suc d) w) (ms : List ℕ) where
  open_inner : (o : ℕ) → Body.Open o ≡ content_at f w.at → (x : Node) (e : ℕ) → ElementAt f (suc d) w.at x e
      → Inner f q d w ms (record { at = o; count = w.count }) ms x e
  open_inner o c (node p n l t) e y =
      record { items = t; stands = content_law f d w.at p n l t e y (Body.Open o) c; rest = λ u us a. a }

  pub within_start : (o : ℕ) → Body.Open o ≡ content_at f w.at → Within f q d w ms (record { at = o; count = w.count }) ms
  within_start o c =
      let b = body_from f w.at (omega (arith, z.stands.before, z.stands.within)) (Body.Open o) c in
      record { fits = omega (arith, z.fits, b.0); inner = open_inner o c }

  empty_tells : (o : ℕ) → Body.Empty o ≡ content_at f w.at → (x : Node) (e : ℕ) → ElementAt f (suc d) w.at x e
      → (o ≡ e) × Adds (skipped_in (under (kind_name q)) (items_of x)) w.count ms w.count ms
  unfolding skipped_in
  empty_tells o c (node p n l t) e y =
      let b = content_law f d w.at p n l t e y (Body.Empty o) c in
      (b.1, rw b.0 (adds_none w.count ms))

  pub sought_empty : (o : ℕ) → Body.Empty o ≡ content_at f w.at → SoughtIn f q d w ms (record { at = o; count = w.count }) ms
  sought_empty o c =
      let b = body_from f w.at (omega (arith, z.stands.before, z.stands.within)) (Body.Empty o) c in
      record {
        fits = omega (arith, z.fits, b.0);
        ends = λ x e y. (empty_tells o c x e y).0;
        tells = λ x e y. (empty_tells o c x e y).1;
      }

  no_body : (x : Node) (e : ℕ) → ElementAt f (suc d) w.at x e → Body.Broken ≡ content_at f w.at → ⊥
  no_body (node p n l t) e y c = content_law f d w.at p n l t e y Body.Broken c

  pub broken_none : Body.Broken ≡ content_at f w.at → ⊥
  broken_none = no_body z.node z.end z.stands

  -- the steps of the loop, by what stands next
  module _ (v : Sought) (ms' : List ℕ) (i : Within f q d w ms v ms') where
    abbrev here : Inner f q d w ms v ms' z.node z.end
    here = i.inner z.node z.end z.stands

    pub inner_broken : Item.Broken ≡ item_at f v.at → ⊥
    inner_broken r = item_law f d v.at here.items z.end here.stands Item.Broken r

    pub inner_over : length f ≤ v.at → ⊥
    inner_over h = inner_broken (sym (item_over f v.at h))

    pub within_text : (k : ℕ) → Item.Text k ≡ item_at f v.at → Within f q d w ms (record { at = k; count = v.count }) ms'
    within_text k r = record {
      fits = omega (arith, i.fits, (item_from f v.at (Item.Text k) r).0);
      inner = λ x e y.
          let n = i.inner x e y in
          let t = item_law f d v.at n.items e n.stands (Item.Text k) r in
          record {
            items = t.0;
            stands = t.2;
            rest = λ u us a. n.rest u us (rw (t.1, skipped_texted (under (kind_name q)) (slice v.at k f) t.0) a);
          };
    }

    pub within_remark : (k : ℕ) → Item.Remark k ≡ item_at f v.at → Within f q d w ms (record { at = k; count = v.count }) ms'
    unfolding skipped_in
    within_remark k r = record {
      fits = omega (arith, i.fits, (item_from f v.at (Item.Remark k) r).0);
      inner = λ x e y.
          let n = i.inner x e y in
          let t = item_law f d v.at n.items e n.stands (Item.Remark k) r in
          record { items = t.0; stands = t.2; rest = λ u us a. n.rest u us (rw t.1 a) };
    }

    pub child_stands : Item.Child ≡ item_at f v.at → Standing f d v
    child_stands r =
        let t = item_law f d v.at here.items z.end here.stands Item.Child r in
        record { short = z.short; shallow = omega (arith, z.shallow); fits = i.fits; node = t.0; end = t.2; stands = t.4 }

    -- the walk goes on
    pub child_on : Item.Child ≡ item_at f v.at → (v' : Sought) (es : List ℕ) → SoughtIs f q d v ms' v' es → v.at < v'.at
    child_on r v' es s =
        let c = child_stands r in
        let g = s.ends c.node c.end c.stands in
        omega (arith, g, c.stands.before)

    pub within_child : Item.Child ≡ item_at f v.at → (v' : Sought) (es : List ℕ) → SoughtIs f q d v ms' v' es → Within f q d w ms v' es
    unfolding skipped_in
    within_child r v' es s = record {
      fits = s.fits;
      inner = λ x e y.
          let n = i.inner x e y in
          let t = item_law f d v.at n.items e n.stands Item.Child r in
          let g = s.ends t.0 t.2 t.4 in
          record {
            items = t.1;
            stands = rw g t.5;
            rest = λ u us a. n.rest u us (rw t.3
                (adds_then (skipped_at (under (kind_name q)) t.0) (skipped_in (under (kind_name q)) t.1) v.count ms' v'.count es u
                us (s.tells t.0 t.2 t.4) a));
          };
    }

    close_tells : (k : ℕ) → Item.Close k ≡ item_at f v.at → (x : Node) (e : ℕ) → ElementAt f (suc d) w.at x e
        → (k ≡ e) × Adds (skipped_in (under (kind_name q)) (items_of x)) w.count ms v.count ms'
    unfolding skipped_in
    close_tells k r x e y =
        let n = i.inner x e y in
        let t = item_law f d v.at n.items e n.stands (Item.Close k) r in
        (t.1, n.rest v.count ms' (rw t.0 (adds_none v.count ms')))

    pub sought_close : (k : ℕ) → Item.Close k ≡ item_at f v.at → SoughtIn f q d w ms (record { at = k; count = v.count }) ms'
    sought_close k r = record {
      fits = omega (arith, i.fits, (item_from f v.at (Item.Close k) r).0);
      ends = λ x e y. (close_tells k r x e y).0;
      tells = λ x e y. (close_tells k r x e y).1;
    }

-- ---- the root
module _ (f : List ℕ) (s : Shaped f (Ok tt)) (at : ℕ) (h : at ≡ root_at f) where
  abbrev start : Sought
  start = record { at = at; count = 0 }

  pub root_stands : Standing f 8 start
  root_stands =
      let r = root_law f s.1.0 s.1.1 in
      record { short = s.0; shallow = omega arith; fits = omega arith; node = s.1.0; end = r.0; stands = rw h r.1 }

  pub root_told : (d : List ℕ) (v : Sought) (e : List ℕ) → SoughtIs f 0 8 start d v e → (x : Node) → WellShaped f x
      → Told (skipped_elements x) d v.count e
  unfolding names name_in bytes
  root_told d v e t x y =
      let r = root_law f x y in
      (t.tells x r.0 (rw h r.1)).added [] d (told_none d)
