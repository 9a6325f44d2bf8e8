-- Every known element of a well-shaped file stands at its place.
use Prim.Native.Nat.{ℕ, zero, suc, ◌+◌, ◌≤◌, ◌<◌}
use native.Mathlib.Omega.{arith}
use mathlib.Core.Path.{refl, sym, subst}
use mathlib.Core.List.{List, [], ◌∷◌, ◌++◌}
use mathlib.Core.Bool.{◌||◌}
use lib.ListN.{length}
use lib.Seq.{slice}
use Rattle.lists.proofs.Cases.{by_cases}
use Rattle.shape.specs.Shape.{Node, node, Items, WellShaped}
use Rattle.walk.specs.declared.Item.{Item}
use Rattle.walk.specs.declared.Body.{Body}
use Rattle.walk.specs.WalkCode as walk
use Rattle.walk.specs.StandsCode.{ElementAt, ContentStands}
use Rattle.walk.proofs.WalkLaws.{root_law, element_law, element_deep, ItemTold, item_law, BodyTold, content_law}
use Rattle.schema.specs.Schema.{Parent, one_of, under}
use Rattle.file_rules.specs.Element.{Known}
use Rattle.file_rules.specs.Document.{also_named, known_in, known_at, known_elements}
use Rattle.document.proofs.Visits.{known_texted, content_inside}

pub record Stood (f : List ℕ) (k : Known) : Type 0 where
  pub depth : ℕ
  pub behind : ℕ
  pub deep : suc depth ≤ 8
  pub element : ElementAt f (suc depth) k.place (node k.place k.name k.attributes k.items) behind

abbrev pub All : (Known → Type 0) → List Known → Type 0
All p [] = Unit {0}
All p (k ∷ ks) = p k × All p ks

pub all_append : (p : Known → Type 0) (ks ms : List Known) → All p ks → All p ms → All p (ks ++ ms)
all_append p [] ms x y = y
all_append p (k ∷ ks) ms x y = (x.0, all_append p ks ms x.1 y)

module _ (f : List ℕ) where
  -- in an element, where those one deeper stand
  module _ (d : ℕ)
      (go : (i : ℕ) (x : Node) (e : ℕ) → ElementAt f d i x e → (q : Parent) (earlier : List (List ℕ)) → All (Stood f) (known_at q earlier x))
      (q : Parent) where
    turn : (n j : ℕ) (i : Items) (e : ℕ) → length f < suc n + j
        →
        ((k : ℕ) (i : Items) → ContentStands f d k i e → length f < n + k → (earlier : List (List ℕ)) → All (Stood f) (known_in q earlier i))
        → (p : Item) → ItemTold f d j i e p → (earlier : List (List ℕ)) → All (Stood f) (known_in q earlier i)
    unfolding known_in
    turn n j i e h rec (Item.Text k) x earlier =
        rw (x.1, known_texted q earlier (slice j k f) x.0) (rec k x.0 x.2 (omega (arith, h, x.3)) earlier)
    turn n j i e h rec (Item.Remark k) x earlier = rw x.1 (rec k x.0 x.2 (omega (arith, h, x.3)) earlier)
    turn n j i e h rec Item.Child x earlier =
        rw x.3
        (all_append (Stood f) (known_at q earlier x.0) (known_in q (also_named q earlier x.0) x.1)
        (go j x.0 x.2 x.4 q earlier)
        (rec x.2 x.1 x.5 (omega (arith, h, x.4.before)) (also_named q earlier x.0)))
    turn n j i e h rec (Item.Close k) x earlier = rw x.0 tt
    turn n j i e h rec Item.Broken x earlier = absurd x

    items : (n j : ℕ) (i : Items) (e : ℕ) → ContentStands f d j i e → length f < n + j → (earlier : List (List ℕ))
        → All (Stood f) (known_in q earlier i)
    items zero j i e c h = absurd (omega (arith, content_inside f d j i e c, h))
    items (suc n) j i e c h = turn n j i e h (λ k m z g. items n k m e z g) (walk.item_at f j) (item_law f d j i e c (walk.item_at f j) refl)

    body : (i : Items) (e : ℕ) (b : Body) → BodyTold f d i e b → All (Stood f) (known_in q [] i)
    unfolding known_in
    body i e (Body.Open o) c = items (suc (length f)) o i e c (omega arith) []
    body i e (Body.Empty o) x = rw x.0 tt
    body i e Body.Broken x = absurd x

  stands : (d : ℕ) → d ≤ 8 → (i : ℕ) (x : Node) (e : ℕ) → ElementAt f d i x e → (q : Parent) (earlier : List (List ℕ))
      → All (Stood f) (known_at q earlier x)
  unfolding known_at
  stands zero h i x e y q earlier = absurd (element_deep f i x e y)
  stands (suc d) h i (node p n l t) e y q earlier =
      let g = (element_law f d i (node p n l t) e y).0 in
      by_cases (one_of q.carried n || one_of q.barred n)
      (λ c. rw c (
        record { depth = d; behind = e; deep = h; element = subst (λ (m : ℕ). ElementAt f (suc d) m (node p n l t) e) (sym g) y },
        body d (stands d (omega arith)) (under n) t e (walk.content_at f i) (content_law f d i p n l t e y (walk.content_at f i) refl),
      ))
      (λ c. rw c tt)

-- all known elements of a document
pub all_stood : (f : List ℕ) (x : Node) → WellShaped f x → All (Stood f) (known_elements x)
all_stood f x w = let r = root_law f x w in stands f 8 (omega arith) (walk.root_at f) x r.0 r.1 (under []) []
