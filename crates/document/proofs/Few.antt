-- How many known elements a document without faults can have, and the words that are kept of them: 3,468 at most.
use Prim.Native.Nat.{ℕ, zero, suc, ◌+◌, ◌*◌, ◌-◌, ◌≤◌, ◌<◌}
use Prim.Native.String.{String}
use native.Mathlib.Nat.{suc-mul}
use native.Mathlib.Omega.{arith}
use mathlib.Core.Path.{◌≡◌, refl, sym, ap, ◌∙◌}
use mathlib.Core.List.{List, [], ◌∷◌, ◌++◌, map}
use mathlib.Core.Bool.{true, false, cond, true≢false}
use lib.Dec.{leb}
use lib.ListN.{length, length-append, length-set}
use borrow.Author.Tests.{leb-true, leb-false}
use Rattle.text.specs.Texts.{bytes, same}
use Rattle.lists.proofs.Cases.{by_cases}
use Rattle.text.proofs.Equal.{same_self, same_equal, same_back}
use Rattle.shape.specs.Shape.{Attribute, Node, node, Items}
use Rattle.schema.specs.declared.Times.{Times}
use Rattle.schema.specs.declared.Times.TheVariants.{Once, OneTo, UpTo}
use Rattle.schema.specs.Schema.{Rule, Parent, parents, parent_in, one_of, under, elements, rules_in, rules_of}
use Rattle.schema.specs.SchemaCode.{attribute_count, attribute_of, is_ruled, knows}
use Rattle.schema.proofs.Laws.{in_every_parent}
use Rattle.file_rules.specs.Element.{Known, worth_by, good_of, too_many, own_faults}
use Rattle.element.specs.declared.Gathered.{Gathered}
use Rattle.element.specs.ElementCode.{nothing_gathered, judged, gathered_list, first_number}
use Rattle.element.proofs.Laws as own
use Rattle.document.specs.EntriesCode.{gathered_of, entry_of, written, row_width, entry_most}
use Rattle.lists.specs.BitsCode.{has_bit}
use Rattle.file_rules.specs.Document.{also_named, known_in, known_at, known_elements}
use Rattle.lists.proofs.Gathers.{gathered_append}
use Rattle.lists.specs.Lists.{any, gathered}

-- ---- room under a parent, where an element with the name n and all it holds comes to `load n`
module _ (load : List ℕ → ℕ) where
  -- for those names that were not there yet
  unfoldable pub left : List String → List (List ℕ) → ℕ
  left [] earlier = 0
  left (c ∷ cs) earlier = cond (any (same (bytes c)) earlier) 0 (load (bytes c)) + left cs earlier

  -- the heaviest
  unfoldable pub top : List String → ℕ
  top [] = 0
  top (c ∷ cs) = cond (leb (load (bytes c)) (top cs)) (top cs) (load (bytes c))

  abbrev pub room : Times → List String → List (List ℕ) → ℕ
  room Once cs earlier = left cs earlier
  room (OneTo m) cs earlier = (m - length earlier) * top cs
  room (UpTo m) cs earlier = (m - length earlier) * top cs

  left_less : (cs : List String) (n : List ℕ) (earlier : List (List ℕ)) → left cs (n ∷ earlier) ≤ left cs earlier
  unfolding left any
  left_less [] n earlier = omega arith
  left_less (c ∷ cs) n earlier =
      let h = left_less cs n earlier in
      by_cases (same (bytes c) n) (λ t. rw t (omega (arith, h))) (λ t. rw t (omega (arith, h)))

  left_one : (cs : List String) (n : List ℕ) (earlier : List (List ℕ)) → one_of cs n ≡ true → any (same n) earlier ≡ false
      → load n + left cs (n ∷ earlier) ≤ left cs earlier
  unfolding left any
  left_one [] n earlier e f = absurd (true≢false (sym e))
  left_one (c ∷ cs) n earlier e f =
      by_cases (same n (bytes c))
      (λ t. let p = same_equal n (bytes c) t in
      let g : any (same (bytes c)) earlier ≡ false = ap (λ (x : List ℕ). any (same x) earlier) (sym p) ∙ f in
      let h = left_less cs (bytes c) earlier in
      rw p (rw (same_self (bytes c), g) (omega (arith, h))))
      (λ t. let h = left_one cs n earlier (rw t at e) f in
      rw (same_back n (bytes c) t) (omega (arith, h)))

  top_most : (cs : List String) (n : List ℕ) → one_of cs n ≡ true → load n ≤ top cs
  unfolding top any
  top_most [] n e = absurd (true≢false (sym e))
  top_most (c ∷ cs) n e =
      by_cases (same n (bytes c))
      (λ t. rw (same_equal n (bytes c) t) (by_cases (leb (load (bytes c)) (top cs)) (λ g. rw g (leb-true (load (bytes c)) (top cs) g))
      (λ g. rw g (omega arith))))
      (λ t. let h = top_most cs n (rw t at e) in
      by_cases (leb (load (bytes c)) (top cs)) (λ g. rw g h)
      (λ g. rw g (let k = leb-false (load (bytes c)) (top cs) g in omega (arith, h, k))))

  times_less : (cs : List String) (n : List ℕ) (m k : ℕ) → k < m → load n ≤ top cs → load n + (m - suc k) * top cs ≤ (m - k) * top cs
  times_less cs n m k h g =
      let e : m - k ≡ suc (m - suc k) = omega arith in
      rw (e, suc-mul (m - suc k) (top cs)) (omega (arith, g))

  -- one more takes no more than its load, if it is not one too many
  room_less : (cs : List String) (n : List ℕ) (earlier : List (List ℕ)) → one_of cs n ≡ true
      → (t : Times) (a : String) (b : List String) (p : ℕ) (l : List Attribute) (i : Items)
      → too_many
      (record {
        parent = record { name = a; carried = cs; times = t; barred = b };
        earlier = earlier;
        place = p;
        name = n;
        attributes = l;
        items = i;
      }) ≡ false → load n + room t cs (n ∷ earlier) ≤ room t cs earlier
  unfolding too_many
  room_less cs n earlier c Once a b p l i f = left_one cs n earlier c f
  room_less cs n earlier c (OneTo m) a b p l i f = times_less cs n m (length earlier) (leb-false m (length earlier) f) (top_most cs n c)
  room_less cs n earlier c (UpTo m) a b p l i f = times_less cs n m (length earlier) (leb-false m (length earlier) f) (top_most cs n c)

-- ---- no faults
pub append_none : {Y : Type 0} (xs ys : List Y) → xs ++ ys ≡ [] → (xs ≡ []) × (ys ≡ [])
append_none [] ys e = (refl, e)
append_none (x ∷ xs) ys e = absurd (omega (arith, ap length e))

abbrev pub Clean : List Known → Type 0
Clean ks = gathered own_faults ks ≡ []

pub clean_parts : (xs ys : List Known) → Clean (xs ++ ys) → Clean xs × Clean ys
clean_parts xs ys e = append_none (gathered own_faults xs) (gathered own_faults ys) (sym (gathered_append own_faults xs ys) ∙ e)

pub clean_first : (k : Known) (ks : List Known) → Clean (k ∷ ks) → (own_faults k ≡ []) × Clean ks
unfolding gathered
clean_first k ks e = append_none (own_faults k) (gathered own_faults ks) e

pub own_clean : (k : Known) → own_faults k ≡ [] → own.Clean k
unfolding first_number
own_clean k e = own.clean_law k (ap first_number e)

-- ---- where an element with the name n counts `unit n`
-- the most that an element with the name q can hold, d levels deep
unfoldable pub most : (List ℕ → ℕ) → ℕ → List ℕ → ℕ
most unit zero q = 0
most unit (suc d) q = room (λ n. unit n + most unit d n) (under q).times (under q).carried []

unfoldable pub sum : (List ℕ → ℕ) → List Known → ℕ
sum unit [] = 0
sum unit (k ∷ ks) = unit k.name + sum unit ks

sum_append : (unit : List ℕ → ℕ) (ks ms : List Known) → sum unit (ks ++ ms) ≡ sum unit ks + sum unit ms
unfolding sum
sum_append unit [] ms = omega arith
sum_append unit (k ∷ ks) ms = let h = sum_append unit ks ms in omega (arith, h)

-- known elements nest less than 8 deep: a ninth level adds nothing
abbrev pub under_deep : (List ℕ → ℕ) → ℕ → Parent → ℕ
under_deep unit d p = room (λ n. unit n + most unit d n) p.times p.carried []

abbrev pub Settled : (List ℕ → ℕ) → Type 0
Settled unit = map (under_deep unit 8) parents ≡ map (under_deep unit 7) parents

module _ (unit : List ℕ → ℕ) (settled : Settled unit) where
  abbrev load : List ℕ → ℕ
  load n = unit n + most unit 8 n

  abbrev room_of : List ℕ → List (List ℕ) → ℕ
  room_of q earlier = room load (under q).times (under q).carried earlier

  room_is : (q : List ℕ) → room_of q [] ≡ most unit 8 q
  unfolding most top
  room_is q = in_every_parent (under_deep unit 8) (under_deep unit 7) refl q settled

  abbrev known_of : List ℕ → List (List ℕ) → ℕ → List ℕ → List Attribute → Items → Known
  known_of q earlier p n l i = record { parent = under q; earlier = earlier; place = p; name = n; attributes = l; items = i }

  mutual
    unfolding known_in known_at sum

    few_in : (i : Items) (q : List ℕ) (earlier : List (List ℕ)) → Clean (known_in (under q) earlier i)
        → sum unit (known_in (under q) earlier i) ≤ room_of q earlier
    few_in Items.none q earlier h = omega arith
    few_in (Items.text b i) q earlier h = few_in i q earlier h
    few_in (Items.remark i) q earlier h = few_in i q earlier h
    few_in (Items.child x i) q earlier h =
        let g = clean_parts (known_at (under q) earlier x) (known_in (under q) (also_named (under q) earlier x) i) h in
        let a = few_at x q earlier g.0 in
        let b = few_in i q (also_named (under q) earlier x) g.1 in
        rw (sum_append unit (known_at (under q) earlier x) (known_in (under q) (also_named (under q) earlier x) i)) (omega (arith, a, b))

    few_at : (x : Node) (q : List ℕ) (earlier : List (List ℕ)) → Clean (known_at (under q) earlier x)
        → sum unit (known_at (under q) earlier x) + room_of q (also_named (under q) earlier x) ≤ room_of q earlier
    few_at (node p n l i) q earlier h =
        by_cases (one_of (under q).carried n)
        (λ c.
        let g = clean_first (known_of q earlier p n l i) (known_in (under n) [] i) (rw c at h) in
        let a = few_in i n [] g.1 in
        let b = room_is n in
        let r =
        room_less load (under q).carried n earlier c (under q).times (under q).name (under q).barred p l i
        (own_clean (known_of q earlier p n l i) g.0).over in
        rw c (omega (arith, a, b, r)))
        (λ c. by_cases (one_of (under q).barred n)
        (λ b. absurd (true≢false (sym b ∙ (own_clean (known_of q earlier p n l i)
        (clean_first (known_of q earlier p n l i) (known_in (under n) [] i) (rw (c, b) at h)).0).barred)))
        (λ b. rw (c, b) (omega arith)))

  -- in an element, and in the whole document
  pub few_inside : (i : Items) (q : List ℕ) → Clean (known_in (under q) [] i) → sum unit (known_in (under q) [] i) ≤ most unit 8 q
  few_inside i q h = let a = few_in i q [] h in let b = room_is q in omega (arith, a, b)

  pub few_known : (x : Node) → Clean (known_elements x) → sum unit (known_elements x) ≤ most unit 8 []
  few_known x h = let a = few_at x [] [] h in let b = room_is [] in omega (arith, a, b)

-- ---- each counts its words
judged_long : (rs : List Rule) (g : Gathered) (a : Attribute) → length g.values ≡ attribute_count
    → length (judged rs g a).values ≡ attribute_count
unfolding judged
judged_long rs g a e =
    by_cases (knows rs a.name)
    (λ t. by_cases (has_bit g.has (attribute_of a.name)) (λ u. rw (t, u) e)
    (λ u. rw (t, u) (length-set g.values (attribute_of a.name) (good_of (worth_by rs a)) ∙ e)))
    (λ t. rw t e)

values_long : (rs : List Rule) (l : List Attribute) (g : Gathered) → length g.values ≡ attribute_count
    → length (gathered_list rs l g).values ≡ attribute_count
unfolding gathered_list
values_long rs [] g e = e
values_long rs (a ∷ l) g e = values_long rs l (judged rs g a) (judged_long rs g a e)

all_long : (k : Known) → length (gathered_of k).values ≡ attribute_count
unfolding nothing_gathered
all_long k = values_long (rules_of k.name) k.attributes nothing_gathered refl

abbrev size : List ℕ → ℕ
size n = 3 + cond (is_ruled n) row_width 0

row_is : (k : Known) → length (entry_of k).row ≡ cond (is_ruled k.name) row_width 0
row_is k = by_cases (is_ruled k.name) (λ t. rw t (omega (arith, all_long k))) (λ t. rw t)

sum_size : (ks : List Known) → sum size ks ≡ length (written (map entry_of ks))
unfolding sum gathered
sum_size [] = refl
sum_size (k ∷ ks) =
    let h = sum_size ks in
    let r = row_is k in
    let l = length-append (entry_of k).row (written (map entry_of ks)) in
    omega (arith, h, r, l)

pub few : (x : Node) → Clean (known_elements x) → length (written (map entry_of (known_elements x))) ≤ entry_most
unfolding most left top parent_in parents is_ruled rules_in elements any bytes same
few x h =
    let a = few_known size refl x h in
    let b = sum_size (known_elements x) in
    omega (arith, a, b)
