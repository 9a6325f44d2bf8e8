-- The known elements of a document without faults as they nest: each stands before those that it holds.
use Prim.Native.Nat.{ℕ}
use Prim.Native.String.{String}
use mathlib.Core.Path.{◌≡◌, refl, sym, ap, ◌∙◌, subst}
use mathlib.Core.List.{List, [], ◌∷◌, ◌++◌, append-nil}
use mathlib.Core.Bool.{Bool, true, false, cond, ◌&&◌, ◌||◌, true≢false}
use Rattle.text.specs.Texts.{bytes, same}
use Rattle.lists.proofs.Cases.{by_cases}
use Rattle.text.proofs.Equal.{same_equal}
use Rattle.shape.specs.Shape.{Node, node, Items}
use Rattle.schema.specs.Schema.{Parent, parents, parent_in, one_of, under}
use Rattle.schema.specs.SchemaCode.{names, kind_name, kind_of}
use Rattle.schema.proofs.Tables.{one_back}
use Rattle.schema.proofs.Laws.{carried_held, held_listed}
use Rattle.file_rules.specs.Element.{Known}
use Rattle.file_rules.specs.Document.{also_named, known_in, known_at, known_elements}
use Rattle.document.proofs.Few.{Clean, clean_parts, clean_first, own_clean}
use Rattle.document.proofs.Stood.{All, all_append}
use Rattle.file_rules.specs.Tables.{kept, within}
use Rattle.lists.specs.Lists.{any}
use Rattle.lists.proofs.Parts.{and_left, and_right}

-- elements under the parent n, each before those that it holds
pub data Nested : List ℕ → List Known → Type 0 where
  over : {n : List ℕ} → Nested n []
  next :
      {n : List ℕ} (k : Known) (ks : List Known)
      → one_of (under n).carried k.name ≡ true
      → Nested k.name (within k)
      → Nested n ks
      → Nested n (k ∷ (within k ++ ks))

-- an element that is known and not barred is carried
mutual
  unfolding known_in known_at

  pub nested_in : (i : Items) (n : List ℕ) (earlier : List (List ℕ)) → Clean (known_in (under n) earlier i)
      → Nested n (known_in (under n) earlier i)
  nested_in Items.none n earlier h = Nested.over
  nested_in (Items.text b i) n earlier h = nested_in i n earlier h
  nested_in (Items.remark i) n earlier h = nested_in i n earlier h
  nested_in (Items.child x i) n earlier h =
      let g = clean_parts (known_at (under n) earlier x) (known_in (under n) (also_named (under n) earlier x) i) h in
      nested_before x n earlier (known_in (under n) (also_named (under n) earlier x) i) g.0
      (nested_in i n (also_named (under n) earlier x) g.1)

  nested_before : (x : Node) (n : List ℕ) (earlier : List (List ℕ)) (ks : List Known) → Clean (known_at (under n) earlier x) → Nested n ks
      → Nested n (known_at (under n) earlier x ++ ks)
  nested_before (node p m l i) n earlier ks h y =
      let k : Known = record { parent = under n; earlier = earlier; place = p; name = m; attributes = l; items = i } in
      by_cases (one_of (under n).carried m)
      (λ c. rw c (Nested.next k ks c (nested_in i m [] (clean_first k (known_in (under m) [] i) (rw c at h)).1) y))
      (λ c. by_cases (one_of (under n).barred m)
      (λ b. absurd (true≢false (sym b ∙ (own_clean k (clean_first k (known_in (under m) [] i) (rw (c, b) at h)).0).barred)))
      (λ b. rw (c, b) y))

pub nested_known : (x : Node) → Clean (known_elements x) → Nested [] (known_elements x)
nested_known x h = subst (Nested []) (append-nil (known_elements x)) (nested_before x [] [] [] h Nested.over)

-- an element that is carried has the name of its kind
abbrev pub Named : Known → Type 0
Named k = kind_name (kind_of k.name) ≡ k.name

pub all_named_lem : (n : List ℕ) (ks : List Known) → Nested n ks → All Named ks
all_named_lem n ks Nested.over = tt
all_named_lem n ks (Nested.next k ms c inner rest) = (
  (one_back k.name names (held_listed n k.name (carried_held n k.name c))).1,
  all_append Named (within k) ms (all_named_lem k.name (within k) inner) (all_named_lem n ms rest),
)

-- ---- a test of every parent's name and every name that it carries
unfoldable pub each_name : (List ℕ → Bool) → List String → Bool
each_name p [] = true
each_name p (c ∷ cs) = p (bytes c) && each_name p cs

unfoldable pub each_pair : (List ℕ → List ℕ → Bool) → List Parent → Bool
each_pair r [] = true
each_pair r (p ∷ ps) = each_name (r (bytes p.name)) p.carried && each_pair r ps

pub both : (a b : Bool) → (a && b) ≡ true → (a ≡ true) × (b ≡ true)
both a b e = (and_left a b e, and_right a b e)

name_law : (p : List ℕ → Bool) (cs : List String) (m : List ℕ) → each_name p cs ≡ true → one_of cs m ≡ true → p m ≡ true
unfolding each_name any
name_law p [] m t o = absurd (true≢false (sym o))
name_law p (c ∷ cs) m t o =
    let g = both (p (bytes c)) (each_name p cs) t in
    by_cases (same m (bytes c)) (λ e. ap p (same_equal m (bytes c) e) ∙ g.0) (λ e. name_law p cs m g.1 (rw e at o))

pub pair_law : (r : List ℕ → List ℕ → Bool) (ps : List Parent) (n m : List ℕ) → each_pair r ps ≡ true
    → one_of (parent_in ps n).carried m ≡ true → r n m ≡ true
unfolding each_pair parent_in any
pair_law r [] n m t o = absurd (true≢false (sym o))
pair_law r (p ∷ ps) n m t o =
    let a = bytes p.name in
    let g = both (each_name (r a) p.carried) (each_pair r ps) t in
    by_cases (same n a)
    (λ e. ap (λ (x : List ℕ). r x m) (same_equal n a e) ∙ name_law (r a) p.carried m g.0 (rw e at o))
    (λ e. pair_law r ps n m g.1 (rw e at o))

-- ---- all of some elements
pub all_parts : (p : Known → Type 0) (ks ms : List Known) → All p (ks ++ ms) → All p ks × All p ms
all_parts p [] ms x = (tt, x)
all_parts p (k ∷ ks) ms x = let h = all_parts p ks ms x.1 in ((x.0, h.0), h.1)

pub all_mapped : (p r : Known → Type 0) → ((k : Known) → p k → r k) → (ks : List Known) → All p ks → All r ks
all_mapped p r h [] x = tt
all_mapped p r h (k ∷ ks) x = (h k x.0, all_mapped p r h ks x.1)

pub all_zipped : (p r : Known → Type 0) (ks : List Known) → All p ks → All r ks → All (λ k. p k × r k) ks
all_zipped p r [] x y = tt
all_zipped p r (k ∷ ks) x y = ((x.0, y.0), all_zipped p r ks x.1 y.1)

-- what holds of all elements holds of those in each of them
mutual
  unfolding known_in known_at

  within_in : (p : Known → Type 0) (i : Items) (q : Parent) (earlier : List (List ℕ)) → All p (known_in q earlier i)
      → All (λ k. All p (within k)) (known_in q earlier i)
  within_in p Items.none q earlier h = tt
  within_in p (Items.text b i) q earlier h = within_in p i q earlier h
  within_in p (Items.remark i) q earlier h = within_in p i q earlier h
  within_in p (Items.child x i) q earlier h =
      let g = all_parts p (known_at q earlier x) (known_in q (also_named q earlier x) i) h in
      all_append (λ k. All p (within k)) (known_at q earlier x) (known_in q (also_named q earlier x) i) (within_at p x q earlier g.0)
      (within_in p i q (also_named q earlier x) g.1)

  within_at : (p : Known → Type 0) (x : Node) (q : Parent) (earlier : List (List ℕ)) → All p (known_at q earlier x)
      → All (λ k. All p (within k)) (known_at q earlier x)
  within_at p (node m n l i) q earlier h =
      let k : Known = record { parent = q; earlier = earlier; place = m; name = n; attributes = l; items = i } in
      by_cases (one_of q.carried n || one_of q.barred n)
      (λ c. let g : All p (k ∷ within k) = rw c at h in rw c (g.1, within_in p i (under n) [] g.1))
      (λ c. rw c tt)

pub all_within : (p : Known → Type 0) (x : Node) → All p (known_elements x) → All (λ k. All p (within k)) (known_elements x)
all_within p x h = within_at p x (under []) [] h

pub all_inner : (n : List ℕ) (ks : List Known) → Nested n ks → All (λ k. Nested k.name (within k)) ks
all_inner n ks Nested.over = tt
all_inner n ks (Nested.next k ms c inner rest) =
    (inner, all_append (λ m. Nested m.name (within m)) (within k) ms (all_inner k.name (within k) inner) (all_inner n ms rest))

-- if c holds of what stands under a name of which it holds, so does p: then it does of everything in such an element
module _ (c p : List ℕ → Bool) (t : each_pair (λ n m. cond (c n) (c m && p m) true) parents ≡ true) where
  pub spread : (n : List ℕ) (ks : List Known) → c n ≡ true → Nested n ks → All (λ k. p k.name ≡ true) ks
  spread n ks h Nested.over = tt
  spread n ks h (Nested.next k ms o inner rest) =
      let g = both (c k.name) (p k.name) (rw h at (pair_law (λ n m. cond (c n) (c m && p m) true) parents n k.name t o)) in
      (g.1, all_append (λ m. p m.name ≡ true) (within k) ms (spread k.name (within k) g.0 inner) (spread n ms h rest))

-- ---- the elements that are kept
pub kept_append : (p : Known → Bool) (ks ms : List Known) → kept p (ks ++ ms) ≡ kept p ks ++ kept p ms
unfolding kept
kept_append p [] ms = refl
kept_append p (k ∷ ks) ms =
    by_cases (p k) (λ t. rw t (ap (λ (l : List Known). k ∷ l) (kept_append p ks ms))) (λ t. rw t (kept_append p ks ms))

pub kept_none : (p : Known → Bool) (ks : List Known) → All (λ k. p k ≡ false) ks → kept p ks ≡ []
unfolding kept
kept_none p [] h = refl
kept_none p (k ∷ ks) h = rw h.0 (kept_none p ks h.1)

pub all_kept : (r : Known → Type 0) (p : Known → Bool) (ks : List Known) → All r ks → All (λ k. (p k ≡ true) × r k) (kept p ks)
unfolding kept
all_kept r p [] h = tt
all_kept r p (k ∷ ks) h = by_cases (p k) (λ t. rw t ((t, h.0), all_kept r p ks h.1)) (λ t. rw t (all_kept r p ks h.1))
