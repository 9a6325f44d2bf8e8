-- How many elements of a kind a document without faults has.
use Prim.Native.Nat.{ℕ, ◌+◌, ◌≤◌}
use Prim.Native.String.{String}
use native.Mathlib.Omega.{arith}
use mathlib.Core.Path.{◌≡◌, refl, sym, ◌∙◌, subst}
use mathlib.Core.List.{List, [], ◌∷◌, ◌++◌, nil≢cons}
use mathlib.Core.Bool.{Bool, true, false, not, cond, true≢false}
use lib.Dec.{eqb}
use lib.ListN.{length, length-append}
use borrow.Author.Tests.{not-false, eqb-false}
use Rattle.text.specs.Texts.{bytes, same}
use Rattle.lists.proofs.Cases.{by_cases, le_or_lt}
use Rattle.text.proofs.Equal.{same_equal}
use Rattle.shape.specs.Shape.{Node, node, Items}
use Rattle.schema.specs.declared.Times.TheVariants.{Once}
use Rattle.schema.specs.Schema.{Parent, parents, parent_in, one_of, under}
use Rattle.file_rules.specs.Element.{Known, ◌at◌if◌, own_faults}
use Rattle.lists.proofs.Parts.{neither}
use Rattle.file_rules.specs.Reading.{is}
use Rattle.file_rules.specs.Document.{also_named, held, known_in, known_at, known_elements, place_of, unmet, lacks, element_faults}
use Rattle.document.proofs.Few.{left, top, Clean, append_none, clean_first, most, sum, Settled, few_inside, few_known}
use Rattle.document.proofs.Stood.{All}
use Rattle.file_rules.specs.Tables.{kept, is_in, within, expressions_of}
use Rattle.tables.proofs.Wanted.{Formed}
use Rattle.tables.proofs.Nested.{all_parts, all_within, kept_append}
use Rattle.tables.proofs.Entries.{faultless_parts}
use Rattle.lists.specs.Lists.{any, gathered}

-- ---- those that are kept are as many as a sum with weights by name
abbrev one_if : (List ℕ → Bool) → List ℕ → ℕ
one_if p n = cond (p n) 1 0

kept_sum : (p : List ℕ → Bool) (ks : List Known) → length (kept (λ k. p k.name) ks) ≡ sum (one_if p) ks
unfolding kept sum
kept_sum p [] = refl
kept_sum p (k ∷ ks) = let h = kept_sum p ks in by_cases (p k.name) (λ t. rw t (omega (arith, h))) (λ t. rw t (omega (arith, h)))

module _ (p : List ℕ → Bool) (settled : Settled (one_if p)) where
  kept_known : (x : Node) → element_faults x ≡ [] → length (kept (λ k. p k.name) (known_elements x)) ≤ most (one_if p) 8 []
  kept_known x e =
      let a = few_known (one_if p) settled x (faultless_parts x e).0 in
      let b = kept_sum p (known_elements x) in
      omega (arith, a, b)

  kept_inside : (i : Items) (q : List ℕ) → Clean (known_in (under q) [] i)
      → length (kept (λ k. p k.name) (known_in (under q) [] i)) ≤ most (one_if p) 8 q
  kept_inside i q c = let a = few_inside (one_if p) settled i q c in let b = kept_sum p (known_in (under q) [] i) in omega (arith, a, b)

-- ---- at most
abbrev among : String → List ℕ → Bool
among n m = one_of (under (bytes n)).carried m

abbrev called : String → List ℕ → Bool
called n m = same m (bytes n)

module _ (x : Node) (e : element_faults x ≡ []) where
  pub few_triggers : length (kept (is_in "TRIGGERS") (known_elements x)) ≤ 32
  unfolding most left top parent_in parents any bytes same
  few_triggers = kept_known (among "TRIGGERS") refl x e

  pub few_filters : length (kept (is_in "FILTERS") (known_elements x)) ≤ 32
  unfolding most left top parent_in parents any bytes same
  few_filters = kept_known (among "FILTERS") refl x e

  pub few_statements : length (kept (is "STATEMENT") (known_elements x)) ≤ 16
  unfolding most left top parent_in parents any bytes same
  few_statements = kept_known (called "STATEMENT") refl x e

  pub few_parameters : length (kept (is "PARAMETERS") (known_elements x)) ≤ 5
  unfolding most left top parent_in parents any bytes same
  few_parameters = kept_known (called "PARAMETERS") refl x e

-- ---- known elements that stand together among others
data Part (ms : List Known) : List Known → Type 0 where
  here : (ks : List Known) → Part ms (ms ++ ks)
  later : (k : Known) {ks : List Known} → Part ms ks → Part ms (k ∷ ks)

part_right : (ms ks ns : List Known) → Part ms ns → Part ms (ks ++ ns)
part_right ms [] ns y = y
part_right ms (k ∷ ks) ns y = Part.later k (part_right ms ks ns y)

part_all : (p : Known → Type 0) (ms ks : List Known) → Part ms ks → All p ks → All p ms
part_all p ms ks (Part.here ls) y = (all_parts p ms ls y).0
part_all p ms (m ∷ ks) (Part.later k z) y = part_all p ms ks z y.1

part_kept : (p : Known → Bool) (ms ks : List Known) → Part ms ks → length (kept p ms) ≤ length (kept p ks)
unfolding kept
part_kept p ms ks (Part.here ls) = rw (kept_append p ms ls, length-append (kept p ms) (kept p ls)) (omega arith)
part_kept p ms (m ∷ ks) (Part.later k z) = let h = part_kept p ms ks z in by_cases (p k) (λ t. rw t (omega (arith, h))) (λ t. rw t h)

-- ---- at least: a name that is held is that of a known element
some_held : (c : List ℕ) (q : Parent) (earlier : List (List ℕ)) (i : Items) → any (same c) (held q earlier i) ≡ true
    → any (same c) earlier ≡ false → (k : Known) × (k.name ≡ c) × Part (k ∷ within k) (known_in q earlier i)
unfolding held known_in known_at any
some_held c q earlier Items.none e f = absurd (true≢false (sym e ∙ f))
some_held c q earlier (Items.text b i) e f = some_held c q earlier i e f
some_held c q earlier (Items.remark i) e f = some_held c q earlier i e f
some_held c q earlier (Items.child (node p n l j) i) e f =
    let k : Known = record { parent = q; earlier = earlier; place = p; name = n; attributes = l; items = j } in
    by_cases (one_of q.carried n)
    (λ o. by_cases (same c n)
    (λ t. rw o (k, sym (same_equal c n t), Part.here (known_in q (n ∷ earlier) i)))
    (λ t. let r = some_held c q (n ∷ earlier) i (rw o at e) (rw (t, f) refl) in
    rw o (r.0, r.1, part_right (r.0 ∷ within r.0) (k ∷ within k) (known_in q (n ∷ earlier) i) r.2)))
    (λ o.
    let r = some_held c q earlier i (rw o at e) f in
    let w : also_named q earlier (node p n l j) ≡ earlier = rw o in
    let y = part_right (r.0 ∷ within r.0) (known_at q earlier (node p n l j)) (known_in q earlier i) r.2 in
    (r.0, r.1, subst (λ z. Part (r.0 ∷ within r.0) (known_at q earlier (node p n l j) ++ known_in q z i)) (sym w) y))

-- as many are kept as are held
kept_right : (p : Known → Bool) (ks ms : List Known) → length (kept p ms) ≤ length (kept p (ks ++ ms))
kept_right p ks ms = rw (kept_append p ks ms, length-append (kept p ks) (kept p ms)) (omega arith)

module _ (p : List ℕ → Bool) (q : Parent) (h : (n : List ℕ) → one_of q.carried n ≡ true → p n ≡ true) where
  abbrev many : List Known → ℕ
  many ks = length (kept (λ k. p k.name) ks)

  pub held_kept : (earlier : List (List ℕ)) (i : Items) → length (held q earlier i) ≤ many (known_in q earlier i) + length earlier
  unfolding held known_in known_at kept
  held_kept earlier Items.none = omega arith
  held_kept earlier (Items.text b i) = held_kept earlier i
  held_kept earlier (Items.remark i) = held_kept earlier i
  held_kept earlier (Items.child (node m n l j) i) =
      by_cases (one_of q.carried n)
      (λ o.
      let r = held_kept (n ∷ earlier) i in
      let s = kept_right (λ k. p k.name) (known_in (under n) [] j) (known_in q (n ∷ earlier) i) in
      rw o (rw (h n o) (omega (arith, r, s))))
      (λ o.
      let r = held_kept earlier i in
      let w : also_named q earlier (node m n l j) ≡ earlier = rw o in
      let s = kept_right (λ k. p k.name) (known_at q earlier (node m n l j)) (known_in q earlier i) in
      subst (λ z. length (held q z i) ≤ many (known_at q earlier (node m n l j) ++ known_in q z i) + length earlier) (sym w)
      (omega (arith, r, s)))

-- each of the names that stand once is held
once_held : (cs : List String) (names : List (List ℕ)) (n : List ℕ) → any (λ c. not (any (same (bytes c)) names)) cs ≡ false
    → one_of cs n ≡ true → any (same n) names ≡ true
unfolding any
once_held [] names n e o = absurd (true≢false (sym o))
once_held (c ∷ cs) names n e o =
    let a = neither (not (any (same (bytes c)) names)) (any (λ d. not (any (same (bytes d)) names)) cs) e in
    by_cases (same n (bytes c)) (λ t. rw (same_equal n (bytes c) t) (not-false (any (same (bytes c)) names) a.0))
    (λ t. once_held cs names n a.1 (rw t at o))

pub any_none : (p : Known → Bool) (ks : List Known) → any p ks ≡ false → All (λ k. p k ≡ false) ks
unfolding any
any_none p [] e = tt
any_none p (k ∷ ks) e = let a = neither (p k) (any p ks) e in (a.0, any_none p ks a.1)

-- the root is known, and it is KVASER
some_known : (x : Node) → element_faults x ≡ [] → eqb (length (known_elements x)) 0 ≡ false
unfolding element_faults
some_known x e =
    let a =
    append_none (3 at place_of x if eqb (length (known_elements x)) 0)
    (gathered own_faults (known_elements x) ++ 8 at place_of x if any lacks (known_elements x)) e in
    by_cases (eqb (length (known_elements x)) 0) (λ t. absurd (nil≢cons (sym (rw t at a.0)))) (λ t. t)

root_kvaser : (x : Node) → element_faults x ≡ [] → (k : Known) × (k.name ≡ bytes "KVASER") × (known_elements x ≡ k ∷ within k)
unfolding known_at parent_in parents any bytes same
root_kvaser (node p n l i) e =
    let k : Known = record { parent = under []; earlier = []; place = p; name = n; attributes = l; items = i } in
    let h = some_known (node p n l i) e in
    by_cases (same n (bytes "KVASER")) (λ t. (k, same_equal n (bytes "KVASER") t, rw t)) (λ t. absurd (true≢false (rw t at h)))

-- an element that lacks nothing holds each of those that stand once in it
unmet_once : (q : Parent) (names : List (List ℕ)) (n : List ℕ) → q.times ≡ Once → unmet q names ≡ false → one_of q.carried n ≡ true
    → any (same n) names ≡ true
unfolding unmet
unmet_once q names n t u o =
    once_held q.carried names n
    (subst (λ y. unmet (record { name = q.name; carried = q.carried; times = y; barred = q.barred }) names ≡ false) t u) o

once_within : (k : Known) (n : List ℕ) → lacks k ≡ false → (under k.name).times ≡ Once → one_of (under k.name).carried n ≡ true
    → (b : Known) × (b.name ≡ n) × Part (b ∷ within b) (within k)
unfolding lacks any
once_within k n l t o =
    some_held n (under k.name) [] k.items (unmet_once (under k.name) (held (under k.name) [] k.items) n t l o) refl

bus_within : (k : Known) → k.name ≡ bytes "KVASER" → lacks k ≡ false
    → (b : Known) × (b.name ≡ bytes "CAN_BUS") × Part (b ∷ within b) (within k)
unfolding parent_in parents any bytes same
bus_within k m l = once_within k (bytes "CAN_BUS") l (rw m refl) (rw m refl)

parameters_within : (k : Known) → k.name ≡ bytes "CAN_BUS" → lacks k ≡ false → 1 ≤ length (kept (is "PARAMETERS") (within k))
unfolding lacks unmet parent_in parents any bytes same
parameters_within k m l =
    let q = under (bytes "CAN_BUS") in
    let u : eqb (length (held q [] k.items)) 0 ≡ false = rw m at l in
    let a =
    held_kept (λ n. same n (bytes "PARAMETERS")) q
    (λ n o. by_cases (same n (bytes "PARAMETERS")) (λ t. t) (λ t. absurd (true≢false (sym (rw t at o))))) [] k.items in
    let b = eqb-false (length (held q [] k.items)) 0 u in
    rw m (le_or_lt 1 (length (kept (is "PARAMETERS") (known_in q [] k.items))) (λ h. h) (λ h. absurd (b (omega (arith, a, h)))))

module _ (x : Node) (e : element_faults x ≡ []) where
  abbrev Met : Known → Type 0
  Met k = lacks k ≡ false

  met : All Met (known_elements x)
  met = any_none lacks (known_elements x) (faultless_parts x e).1

  parameters_in : (k : Known) → k.name ≡ bytes "KVASER" → All Met (k ∷ within k) → 1 ≤ length (kept (is "PARAMETERS") (k ∷ within k))
  parameters_in k m y =
      let b = bus_within k m y.0 in
      let h = parameters_within b.0 b.1 (part_all Met (b.0 ∷ within b.0) (within k) b.2 y.1).0 in
      let g = kept_right (is "PARAMETERS") (b.0 ∷ []) (within b.0) in
      let r = part_kept (is "PARAMETERS") (b.0 ∷ within b.0) (within k) b.2 in
      let s = kept_right (is "PARAMETERS") (k ∷ []) (within k) in
      omega (arith, h, g, r, s)

  pub some_parameters : 1 ≤ length (kept (is "PARAMETERS") (known_elements x))
  some_parameters =
      let r = root_kvaser x e in
      subst (λ ks. 1 ≤ length (kept (is "PARAMETERS") ks)) (sym r.2) (parameters_in r.0 r.1 (subst (All Met) r.2 met))

-- ---- in a statement
abbrev Faultless : Known → Type 0
Faultless k = own_faults k ≡ []

each_clean : (ks : List Known) → Clean ks → All Faultless ks
each_clean [] c = tt
each_clean (k ∷ ks) c = let g = clean_first k ks c in (g.0, each_clean ks g.1)

all_clean : (ks : List Known) → All Faultless ks → Clean ks
unfolding gathered
all_clean [] y = refl
all_clean (k ∷ ks) y = rw y.0 (all_clean ks y.1)

only_one : (ks : List Known) → length ks ≤ 1 → 1 ≤ length ks → (k : Known) × (ks ≡ k ∷ [])
only_one [] h g = absurd (omega arith)
only_one (k ∷ []) h g = (k, refl)
only_one (k ∷ m ∷ ks) h g = absurd (omega arith)

formed : (k : Known) → All Faultless (within k) → lacks k ≡ false → Formed k
unfolding most left top parent_in parents any bytes same kept
formed k c l t =
    let m : k.name ≡ bytes "STATEMENT" = same_equal k.name (bytes "STATEMENT") t in
    let d : Clean (known_in (under (bytes "STATEMENT")) [] k.items) = rw m at (all_clean (within k) c) in
    let a = kept_inside (among "ACTIONS") refl k.items (bytes "STATEMENT") d in
    let x = kept_inside (called "EXPRESSION") refl k.items (bytes "STATEMENT") d in
    let b = once_within k (bytes "EXPRESSION") l (rw m refl) (rw m refl) in
    let y = part_kept (is "EXPRESSION") (b.0 ∷ within b.0) (within k) b.2 in
    let z : 1 ≤ length (kept (is "EXPRESSION") (b.0 ∷ within b.0)) = rw b.1 (omega arith) in
    (rw m a, only_one (expressions_of k) (rw m x) (omega (arith, y, z)))

formed_each : (ks : List Known) → All (λ k. All Faultless (within k)) ks → All (λ k. lacks k ≡ false) ks → All Formed ks
formed_each [] c l = tt
formed_each (k ∷ ks) c l = (formed k c.0 l.0, formed_each ks c.1 l.1)

pub all_formed : (x : Node) → element_faults x ≡ [] → All Formed (known_elements x)
all_formed x e = let c = faultless_parts x e in
    formed_each (known_elements x) (all_within Faultless x (each_clean (known_elements x) c.0)) (any_none lacks (known_elements x) c.1)
