-- What an element holds so far, as the code keeps it, says what the definitions ask of the names before.
use Prim.Native.Nat.{ℕ, suc, ◌+◌, ◌≤◌, ◌<◌}
use Prim.Native.String.{String}
use native.Mathlib.Omega.{arith}
use mathlib.Core.Path.{◌≡◌, refl, sym, ap, ◌∙◌}
use mathlib.Core.List.{List, [], ◌∷◌}
use mathlib.Core.Bool.{Bool, true, not, cond, ◌&&◌, ◌||◌, or_comm, true≢false}
use lib.Dec.{leb, ltb, eqb}
use lib.ListN.{length}
use borrow.Author.Tests.{lt-ltb, le-ltb, le-leb, leb-true, eq-eqb, ne_eqb}
use Rattle.text.specs.Texts.{bytes, same}
use Rattle.lists.specs.Lists.{any}
use Rattle.lists.specs.BitsCode.{upto, has_bit}
use Rattle.lists.proofs.Cases.{by_cases, le_or_lt}
use Rattle.lists.proofs.Parts.{and_left, and_right, or_second, agree}
use Rattle.lists.proofs.BitLaws.{any_upto_found, any_upto_back, bit_none, bit_with}
use Rattle.text.proofs.Equal.{same_self, same_equal}
use Rattle.shape.specs.Shape.{Attribute, node, Items}
use Rattle.schema.specs.declared.Times.{Times}
use Rattle.schema.specs.declared.Times.TheVariants.{Once, OneTo, UpTo}
use Rattle.schema.specs.Schema.{parents, one_of, under}
use Rattle.schema.specs.SchemaCode.{names, name_in, kind_name, kind_of, kind_under, is_carried, is_barred}
use Rattle.schema.proofs.Tables.{one_back}
use Rattle.schema.proofs.Laws.{in_every_parent, carried_held, held_listed, kind_is, kind_named, kind_low, kind_carried, known_low, kind_own}
use Rattle.file_rules.specs.Element.{too_many}
use Rattle.document.specs.declared.Seen.{Seen}
use Rattle.file_rules.specs.Document.{also_named, unmet}
use Rattle.document.specs.DocumentCode.{none_seen, one_more, marked, over_by, is_over, lacks_by, lacks_some}

-- ---- the count, which stands still at 64
unfoldable pub capped : ℕ → ℕ
capped n = cond (ltb n 64) n 64

capped_more : (n : ℕ) → one_more (capped n) ≡ capped (suc n)
unfolding one_more capped
capped_more n =
    le_or_lt 64 n
    (λ h. rw (le-ltb n 64 h, le-ltb (suc n) 64 (omega arith)))
    (λ h. rw (lt-ltb n 64 h, lt-ltb n 64 h) (le_or_lt 64 (suc n) (λ g. let e : n + 1 ≡ 64 = omega arith in rw (le-ltb (suc n) 64 g) e)
    (λ g. let e : n + 1 ≡ suc n = omega arith in rw (lt-ltb (suc n) 64 g) e)))

capped_test : (m n : ℕ) → m ≤ 64 → leb m (capped n) ≡ leb m n
unfolding capped
capped_test m n h = le_or_lt 64 n (λ g. rw (le-ltb n 64 g, le-leb m 64 h, le-leb m n (omega arith))) (λ g. rw (lt-ltb n 64 g))

capped_none : (n : ℕ) → eqb (capped n) 0 ≡ eqb n 0
unfolding capped
capped_none n = le_or_lt 64 n (λ g. rw (le-ltb n 64 g, ne_eqb n 0 (λ e. absurd (omega (arith, g, e))))) (λ g. rw (lt-ltb n 64 g))

-- ---- the kinds of the names before
-- names that have kinds have the same one exactly if they are the same
kinds_same : (n m : List ℕ) → one_of names n ≡ true → one_of names m ≡ true → eqb (kind_of n) (kind_of m) ≡ same n m
kinds_same n m x y =
    by_cases (same n m)
    (λ t. eq-eqb (kind_of n) (kind_of m) (ap kind_of (same_equal n m t)) ∙ sym t)
    (λ t. ne_eqb (kind_of n) (kind_of m)
    (λ e. true≢false (sym (same_self m) ∙ (ap (λ (s : List ℕ). same s m)
    (sym (one_back m names y).1 ∙ (ap (name_in names) (sym e) ∙ (one_back n names x).1)) ∙ t))) ∙ sym t)

-- a name of a list that passes a test
module _ (p : List ℕ → Bool) where
  name_found : (cs : List String) → any (λ c. p (bytes c)) cs ≡ true → (n : List ℕ) × (one_of cs n ≡ true) × (p n ≡ true)
  unfolding any
  name_found [] e = absurd (true≢false (sym e))
  name_found (c ∷ cs) e =
      by_cases (p (bytes c))
      (λ t. (bytes c, rw (same_self (bytes c)), t))
      (λ t. let r = name_found cs (rw t at e) in (r.0, or_second (same r.0 (bytes c)) (one_of cs r.0) r.1, r.2))

  name_back : (cs : List String) (n : List ℕ) → one_of cs n ≡ true → p n ≡ true → any (λ c. p (bytes c)) cs ≡ true
  unfolding any
  name_back [] n o e = absurd (true≢false (sym o))
  name_back (c ∷ cs) n o e =
      by_cases (same n (bytes c))
      (λ t. rw (ap p (sym (same_equal n (bytes c) t)) ∙ e))
      (λ t. or_second (p (bytes c)) (any (λ x. p (bytes x)) cs) (name_back cs n (rw t at o) e))

-- ---- the paper's tables: limits are at most 64
small : Times → Bool
small Once = true
small (OneTo m) = leb m 64
small (UpTo m) = leb m 64

limits_small : (q : List ℕ) → small (under q).times ≡ true
unfolding small parents
limits_small q = in_every_parent (λ p. small p.times) (λ p. true) refl q refl

-- ---- what was seen under the kind q, where the names before are `earlier`
pub record SeenIs (q : ℕ) (earlier : List (List ℕ)) (s : Seen) : Type 0 where
  pub count : s.count ≡ capped (length earlier)
  pub kinds : (n : List ℕ) → one_of (under (kind_name q)).carried n ≡ true → has_bit s.kinds (kind_of n) ≡ any (same n) earlier

pub seen_none : (q : ℕ) → SeenIs q [] none_seen
unfolding capped any
seen_none q = record { count = refl; kinds = λ n c. bit_none (kind_of n) }

module _ (q : ℕ) where
  listed : (n : List ℕ) → one_of (under (kind_name q)).carried n ≡ true → one_of names n ≡ true
  listed n c = held_listed (kind_name q) n (carried_held (kind_name q) n c)

  kind_of_lem : (n : List ℕ) → one_of (under (kind_name q)).carried n ≡ true → kind_under q n ≡ kind_of n
  kind_of_lem n c = kind_is q n (carried_held (kind_name q) n c)

  kind_few : (n : List ℕ) → one_of (under (kind_name q)).carried n ≡ true → kind_of n < 64
  kind_few n c = omega (arith, kind_low q n (carried_held (kind_name q) n c), kind_of_lem n c)

  held_known : (n : List ℕ) → one_of (under (kind_name q)).carried n ≡ true → (is_carried n || is_barred n) ≡ true
  held_known n c = let h = carried_held (kind_name q) n c in rw (sym (ap is_carried (kind_named q n h)) ∙ kind_carried q n ∙ c)

  module _ (earlier : List (List ℕ)) (s : Seen) (y : SeenIs q earlier s) (n : List ℕ) where
    -- a carried element more
    pub seen_more : one_of (under (kind_name q)).carried n ≡ true → SeenIs q (n ∷ earlier) (marked s (kind_under q n))
    unfolding marked any
    seen_more e =
        rw (kind_carried q n ∙ e)
        (record {
          count = ap one_more y.count ∙ capped_more (length earlier);
          kinds = λ m c.
              rw (kind_of_lem n e) (bit_with s.kinds (kind_of n) (kind_of m)
              ∙ rw (y.kinds m c, kinds_same m n (listed m c) (listed n e)) (or_comm (any (same m) earlier) (same m n)));
        })

    -- an element more, of whatever kind
    pub seen_on : (p : ℕ) (l : List Attribute) (i : Items)
        → SeenIs q (also_named (under (kind_name q)) earlier (node p n l i)) (marked s (kind_under q n))
    unfolding marked
    seen_on p l i =
        by_cases (one_of (under (kind_name q)).carried n) (λ e. rw e (seen_more e)) (λ e. rw (e, kind_carried q n ∙ e) y)

    -- it is one too many exactly if the definitions say so
    module _ (e : one_of (under (kind_name q)).carried n ≡ true) (p : ℕ) (l : List Attribute) (i : Items) where
      over_by_lem : (t : Times) → small t ≡ true → (a : String) (c b : List String)
          → over_by t (kind_under q n) s
          ≡ too_many
          (record {
            parent = record { name = a; carried = c; times = t; barred = b };
            earlier = earlier;
            place = p;
            name = n;
            attributes = l;
            items = i;
          })
      unfolding too_many small
      over_by_lem Once w a c b = rw (kind_of_lem n e) (y.kinds n e)
      over_by_lem (OneTo m) w a c b = rw y.count (capped_test m (length earlier) (leb-true m 64 w))
      over_by_lem (UpTo m) w a c b = rw y.count (capped_test m (length earlier) (leb-true m 64 w))

      pub over_is : is_over q (kind_under q n) s
          ≡ too_many (record { parent = under (kind_name q); earlier = earlier; place = p; name = n; attributes = l; items = i })
      unfolding is_over
      over_is =
          over_by_lem (under (kind_name q)).times (limits_small (kind_name q)) (under (kind_name q)).name (under (kind_name q)).carried
          (under (kind_name q)).barred

  -- what lacks at the end tag
  module _ (earlier : List (List ℕ)) (s : Seen) (y : SeenIs q earlier s) where
    abbrev carried : List String
    carried = (under (kind_name q)).carried

    abbrev missing : ℕ → Bool
    missing k = one_of carried (kind_name k) && not (has_bit s.kinds k)

    kinds_lack : any missing (upto 64) ≡ any (λ c. not (any (same (bytes c)) earlier)) carried
    kinds_lack =
        agree (any missing (upto 64)) (any (λ c. not (any (same (bytes c)) earlier)) carried)
        (λ t.
        let r = any_upto_found missing 64 t in
        let o = and_left (one_of carried (kind_name r.0)) (not (has_bit s.kinds r.0)) r.2 in
        let h = and_right (one_of carried (kind_name r.0)) (not (has_bit s.kinds r.0)) r.2 in
        let k = kind_own r.0 (known_low r.0 (held_known (kind_name r.0) o)) in
        name_back (λ n. not (any (same n) earlier)) carried (kind_name r.0) o
        (ap not (sym (y.kinds (kind_name r.0) o) ∙ ap (has_bit s.kinds) k) ∙ h))
        (λ t.
        let r = name_found (λ n. not (any (same n) earlier)) carried t in
        let b = one_back r.0 names (listed r.0 r.1) in
        any_upto_back missing 64 (kind_of r.0) (kind_few r.0 r.1)
        (rw (b.1, r.1, y.kinds r.0 r.1) r.2))

    lack_by : (t : Times) → (a : String) (b : List String)
        → lacks_by t q s ≡ unmet (record { name = a; carried = carried; times = t; barred = b }) earlier
    unfolding unmet
    lack_by Once a b = kinds_lack
    lack_by (OneTo m) a b = rw y.count (capped_none (length earlier))
    lack_by (UpTo m) a b = refl

    pub lack_is : lacks_some q s ≡ unmet (under (kind_name q)) earlier
    unfolding lacks_some
    lack_is = lack_by (under (kind_name q)).times (under (kind_name q)).name (under (kind_name q)).barred
