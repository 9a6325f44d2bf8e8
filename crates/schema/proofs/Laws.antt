-- Laws of the tables that callers may cite: of the kinds under a parent; every rule's attribute has a number, and what its value is asked
-- for does not depend on the element.
use Prim.Native.Nat.{ℕ, ◌≤◌, ◌<◌}
use Prim.Native.String.{String}
use native.Mathlib.Omega.{arith}
use mathlib.Core.Path.{◌≡◌, refl, sym, ap, ◌∙◌}
use mathlib.Core.List.{List, [], ◌∷◌, map}
use mathlib.Core.Bool.{Bool, true, false, ◌&&◌, ◌||◌, true≢false}
use lib.Dec.{leb, ltb, eqb}
use lib.ListN.{get_or, drop}
use borrow.Author.Tests.{le-leb, lt-leb, le-ltb, eqb-true, eqb-false}
use Rattle.std.specs.Prelude.{Some, None}
use Rattle.std.proofs.lemmas.Option.{none-some}
use Rattle.text.specs.Texts.{bytes, same}
use Rattle.lists.proofs.Cases.{by_cases, le_or_lt}
use Rattle.lists.proofs.Parts.{neither}
use Rattle.text.proofs.Equal.{same_self, same_equal, same_back}
use Rattle.schema.specs.declared.Times.TheVariants.{UpTo}
use Rattle.lists.specs.Lists.{any}
use Rattle.schema.specs.Schema.{Parent, ◌over◌times◌bars◌, Rule, ElementRules}
use Rattle.schema.specs.Schema.{one_of, parents, parent_in, under, elements, rules_in, rules_of}
use Rattle.schema.specs.SchemaCode.{names, attributes, kind_count, attribute_count, name_in, kind_name, attribute_name}
use Rattle.schema.specs.SchemaCode.{position_of, kind_of, attribute_of, is_carried, is_barred, held_in, kind_under}
use Rattle.schema.specs.SchemaCode.{number_in, attribute_in, knows, apart, sort_in, all_rules, sort_of}
use Rattle.lists.specs.BitsCode.{from, upto, has_bit, Marks}
use Rattle.lists.proofs.BitLaws.{everywhere}
use Rattle.schema.proofs.Tables.{one_back, some_back, past_last}

-- two functions agree at n if they do at the name of each rule, and n is one of these
module _ {A : Type 0} (f g : List ℕ → A) (n : List ℕ) where
  pub ruled : (rs : List Rule) → map (λ r. f (bytes r.name)) rs ≡ map (λ r. g (bytes r.name)) rs → knows rs n ≡ true → f n ≡ g n
  unfolding knows any
  ruled [] e k = absurd (true≢false (sym k))
  ruled (r ∷ rs) e k =
      by_cases (same n (bytes r.name))
      (λ t. rw (same_equal n (bytes r.name) t) (ap (λ (l : List A). get_or l 0 (f (bytes r.name))) e))
      (λ t. ruled rs (ap (drop 1) e) (rw t at k))

-- the first rule, or one behind it
module _ (r : Rule) (rs : List Rule) (n : List ℕ) where
  pub knows_here : same n (bytes r.name) ≡ true → knows (r ∷ rs) n ≡ true
  unfolding knows any
  knows_here t = rw t

  pub knows_later : same n (bytes r.name) ≡ false → knows (r ∷ rs) n ≡ knows rs n
  unfolding knows any
  knows_later t = rw t

-- two functions agree at the rules of every element, if they do at each row of the table
module _ {A : Type 0} (f g : List Rule → A) (none : f [] ≡ g []) (n : List ℕ) where
  each_rules : (es : List ElementRules) → map (λ e. f e.rules) es ≡ map (λ e. g e.rules) es → f (rules_in es n) ≡ g (rules_in es n)
  unfolding rules_in
  each_rules [] q = none
  each_rules (e ∷ es) q =
      by_cases (same n (bytes e.name)) (λ t. rw t (ap (λ (l : List A). get_or l 0 (f e.rules)) q))
      (λ t. rw t (each_rules es (ap (drop 1) q)))

  pub in_every_element : map (λ e. f e.rules) elements ≡ map (λ e. g e.rules) elements → f (rules_of n) ≡ g (rules_of n)
  in_every_element = each_rules elements

-- ---- elements
-- two functions agree at n if they do at each of the names, and n is one of them
module _ {A : Type 0} (f g : List ℕ → A) (n : List ℕ) where
  pub named : (xs : List String) → map (λ x. f (bytes x)) xs ≡ map (λ x. g (bytes x)) xs → one_of xs n ≡ true → f n ≡ g n
  unfolding any
  named [] e o = absurd (true≢false (sym o))
  named (x ∷ xs) e o =
      by_cases (same n (bytes x)) (λ t. rw (same_equal n (bytes x) t) (ap (λ (l : List A). get_or l 0 (f (bytes x))) e))
      (λ t. named xs (ap (drop 1) e) (rw t at o))

abbrev under_none : Parent
under_none = "" over [] times UpTo 0 bars []

module _ {A : Type 0} (f g : Parent → A) (none : f under_none ≡ g under_none) (n : List ℕ) where
  each_parent : (ps : List Parent) → map f ps ≡ map g ps → f (parent_in ps n) ≡ g (parent_in ps n)
  unfolding parent_in
  each_parent [] q = none
  each_parent (p ∷ ps) q =
      by_cases (same n (bytes p.name)) (λ t. rw t (ap (λ (l : List A). get_or l 0 (f p)) q)) (λ t. rw t (each_parent ps (ap (drop 1) q)))

  pub in_every_parent : map f parents ≡ map g parents → f (under n) ≡ g (under n)
  in_every_parent = each_parent parents

-- two functions agree at a name that a parent has, if they do at each of its names in every row of the table
module _ {A : Type 0} (own : Parent → List String) (f g : Parent → List ℕ → A) (q n : List ℕ) where
  under_each : map (λ x. f under_none (bytes x)) (own under_none) ≡ map (λ x. g under_none (bytes x)) (own under_none)
      → map (λ p. map (λ x. f p (bytes x)) (own p)) parents ≡ map (λ p. map (λ x. g p (bytes x)) (own p)) parents
      → one_of (own (under q)) n ≡ true → f (under q) n ≡ g (under q) n
  under_each none e =
      named (f (under q)) (g (under q)) n (own (under q))
      (in_every_parent (λ p. map (λ x. f p (bytes x)) (own p)) (λ p. map (λ x. g p (bytes x)) (own p)) none q e)

-- is it carried, is it barred, has it a number
abbrev says : List ℕ → List Bool
says n = is_carried n ∷ is_barred n ∷ one_of names n ∷ []

module _ (q n : List ℕ) where
  pub carried_not_barred : one_of (under q).carried n ≡ true → one_of (under q).barred n ≡ false
  unfolding parents any same bytes
  carried_not_barred = under_each (λ p. p.carried) (λ p. one_of p.barred) (λ p m. false) q n refl refl

  pub barred_not_carried : one_of (under q).barred n ≡ true → one_of (under q).carried n ≡ false
  barred_not_carried b =
      by_cases (one_of (under q).carried n) (λ c. absurd (true≢false (sym b ∙ carried_not_barred c))) (λ c. c)

  pub carried_held : one_of (under q).carried n ≡ true → held_in q n ≡ true
  unfolding held_in
  carried_held c = rw c

  carried_says : one_of (under q).carried n ≡ true → says n ≡ true ∷ false ∷ true ∷ []
  unfolding parents names is_carried is_barred any same bytes
  carried_says = under_each (λ p. p.carried) (λ p. says) (λ p m. true ∷ false ∷ true ∷ []) q n refl refl

  barred_says : one_of (under q).barred n ≡ true → says n ≡ false ∷ true ∷ true ∷ []
  unfolding parents names is_carried is_barred any same bytes
  barred_says = under_each (λ p. p.barred) (λ p. says) (λ p m. false ∷ true ∷ true ∷ []) q n refl refl

  module _ (h : held_in q n ≡ true) where
    held_says : says n ≡ one_of (under q).carried n ∷ one_of (under q).barred n ∷ true ∷ []
    unfolding held_in
    held_says =
        by_cases (one_of (under q).carried n) (λ t. rw (t, carried_not_barred t) (carried_says t))
        (λ t. let b = rw t at h in rw (t, b) (barred_says b))

    pub held_listed : one_of names n ≡ true
    held_listed = ap (λ (l : List Bool). get_or l 2 false) held_says

    held_carried : is_carried n ≡ one_of (under q).carried n
    held_carried = ap (λ (l : List Bool). get_or l 0 false) held_says

    held_barred : is_barred n ≡ one_of (under q).barred n
    held_barred = ap (λ (l : List Bool). get_or l 1 false) held_says

-- the kind of an element n in an element of the kind q: n is its name, and it is carried or barred as n is in q
module _ (q : ℕ) (n : List ℕ) where
  pub kind_is : held_in (kind_name q) n ≡ true → kind_under q n ≡ kind_of n
  unfolding kind_under
  kind_is h = rw h

  pub kind_named : held_in (kind_name q) n ≡ true → kind_name (kind_under q n) ≡ n
  unfolding kind_under
  kind_named h = rw h (one_back n names (held_listed (kind_name q) n h)).1

  pub kind_low : held_in (kind_name q) n ≡ true → kind_under q n < kind_count
  unfolding kind_under names
  kind_low h = rw h (one_back n names (held_listed (kind_name q) n h)).0

  module _ (h : held_in (kind_name q) n ≡ false) where
    pub no_kind : kind_under q n ≡ kind_count
    unfolding kind_under
    no_kind = rw h

    held_none : (one_of (under (kind_name q)).carried n ≡ false) × (one_of (under (kind_name q)).barred n ≡ false)
    unfolding held_in
    held_none = neither (one_of (under (kind_name q)).carried n) (one_of (under (kind_name q)).barred n) h

    nothing_known : (is_carried (kind_name (kind_under q n)) ≡ false) × (is_barred (kind_name (kind_under q n)) ≡ false)
    unfolding names name_in parents is_carried is_barred any same bytes
    nothing_known = rw no_kind (refl, refl)

  pub kind_carried : is_carried (kind_name (kind_under q n)) ≡ one_of (under (kind_name q)).carried n
  kind_carried =
      by_cases (held_in (kind_name q) n) (λ h. ap is_carried (kind_named h) ∙ held_carried (kind_name q) n h)
      (λ h. (nothing_known h).0 ∙ sym (held_none h).0)

  pub kind_barred : is_barred (kind_name (kind_under q n)) ≡ one_of (under (kind_name q)).barred n
  kind_barred =
      by_cases (held_in (kind_name q) n) (λ h. ap is_barred (kind_named h) ∙ held_barred (kind_name q) n h)
      (λ h. (nothing_known h).1 ∙ sym (held_none h).1)

-- only numbers of names are those of known elements
pub known_low : (k : ℕ) → (is_carried (kind_name k) || is_barred (kind_name k)) ≡ true → k < kind_count
unfolding names parents is_carried is_barred any same bytes
known_low k t =
    le_or_lt kind_count k
    (λ h. absurd (true≢false (sym t ∙ sym (past_last names kind_count refl (λ n. is_carried n || is_barred n) false refl k h)))) (λ h. h)

-- a test that holds of the kinds from lo up to hi
by_range : (p : List ℕ → Bool) (lo hi : ℕ) → hi ≤ kind_count → false ≡ p (bytes "?")
    → map (λ k. leb lo k && ltb k hi) (upto kind_count) ≡ map (λ k. p (kind_name k)) (upto kind_count) → (k : ℕ)
    → (leb lo k && ltb k hi) ≡ p (kind_name k)
unfolding names
by_range p lo hi l none e k =
    le_or_lt kind_count k
    (λ h. by_cases (leb lo k) (λ t. rw (t, le-ltb k hi (omega arith))) (λ t. rw t) ∙ past_last names kind_count refl p false none k h)
    (everywhere (λ k. leb lo k && ltb k hi) (λ k. p (kind_name k)) kind_count e k)

pub carried_range : (k : ℕ) → (leb 1 k && ltb k 24) ≡ is_carried (kind_name k)
unfolding names name_in parents is_carried any same bytes from
carried_range = by_range is_carried 1 24 (omega arith) refl refl

pub barred_range : (k : ℕ) → (leb 24 k && ltb k kind_count) ≡ is_barred (kind_name k)
unfolding names name_in parents is_barred any same bytes from
barred_range = by_range is_barred 24 kind_count (omega arith) refl refl

-- a kind is the number of its own name
pub kind_own : (k : ℕ) → k < kind_count → kind_of (kind_name k) ≡ k
unfolding names name_in position_of same bytes from
kind_own = everywhere (λ k. kind_of (kind_name k)) (λ k. k) kind_count refl

-- no parent carries an element without a name
pub no_name_carried : (q : List ℕ) → false ≡ one_of (under q).carried (bytes "?")
unfolding parents any same bytes
no_name_carried q = in_every_parent (λ p. false) (λ p. one_of p.carried (bytes "?")) refl q refl

-- kinds have one name if they are one, or there is none
no_name : (k : ℕ) → kind_count ≤ k → kind_name k ≡ bytes "?"
unfolding names
no_name k h = sym (past_last names kind_count refl (λ n. n) (bytes "?") refl k h)

own_name : (k : ℕ) → k < kind_count → same (kind_name k) (bytes "?") ≡ false
unfolding names name_in same bytes from
own_name = everywhere (λ k. same (kind_name k) (bytes "?")) (λ k. false) kind_count refl

pub same_kinds : (a b : ℕ) → (eqb a b || (leb kind_count a && leb kind_count b)) ≡ same (kind_name a) (kind_name b)
same_kinds a b =
    by_cases (eqb a b) (λ t. rw (t, eqb-true a b t, same_self (kind_name b))) (λ t. rw t (le_or_lt kind_count a
    (λ h. rw (le-leb kind_count a h, no_name a h) (le_or_lt kind_count b
    (λ g. rw (le-leb kind_count b g, no_name b g, same_self (bytes "?")))
    (λ g. rw (lt-leb kind_count b g) (sym (same_back (kind_name b) (bytes "?") (own_name b g))))))
    (λ h. rw (lt-leb kind_count a h) (le_or_lt kind_count b
    (λ g. rw (no_name b g) (sym (own_name a h)))
    (λ g. by_cases (same (kind_name a) (kind_name b))
    (λ u. absurd (eqb-false a b t (sym (kind_own a h) ∙ (ap kind_of (same_equal (kind_name a) (kind_name b) u) ∙ kind_own b g))))
    (λ u. sym u))))))

-- ---- attributes
-- the names that have a number
abbrev pub Listed : List ℕ → Type 0
Listed n = one_of attributes n ≡ true

module _ (n : List ℕ) (l : Listed n) where
  pub number_low : attribute_of n < attribute_count
  unfolding attributes
  number_low = (one_back n attributes l).0

  pub number_back : attribute_name (attribute_of n) ≡ n
  number_back = (one_back n attributes l).1

pub number_own : (a : ℕ) → a < attribute_count → attribute_of (attribute_name a) ≡ a
unfolding attributes name_in position_of same bytes from
number_own = everywhere (λ a. attribute_of (attribute_name a)) (λ a. a) attribute_count refl

module _ (m n : List ℕ) (k : knows (rules_of m) n ≡ true) where
  pub listed : Listed n
  unfolding elements attributes any same bytes
  listed =
      ruled (one_of attributes) (λ x. true) n (rules_of m)
      (in_every_element (λ rs. map (λ r. one_of attributes (bytes r.name)) rs) (λ rs. map (λ r. true) rs) refl m refl) k

  pub one_sort : sort_in (rules_of m) n ≡ sort_of n
  unfolding elements sort_in all_rules sort_of same bytes
  one_sort =
      ruled (sort_in (rules_of m)) sort_of n (rules_of m)
      (in_every_element (λ rs. map (λ r. sort_in rs (bytes r.name)) rs) (λ rs. map (λ r. sort_of (bytes r.name)) rs) refl m refl) k

-- the attribute n of the kind, where its name has no number, and where it has the number a, and s is the set of those that the kind may have
module _ (kind : ℕ) (n : List ℕ) where
  pub none_known : None ≡ number_in attributes n → None ≡ attribute_in kind n
  unfolding number_in attribute_in
  none_known e =
      by_cases (knows (rules_of (kind_name kind)) n) (λ k. absurd (none-some _ (rw (listed (kind_name kind) n k) at e))) (λ k. rw k)

  module _ (a s : ℕ) (marks : Marks attribute_count (λ j. knows (rules_of (kind_name kind)) (attribute_name j)) s) where
    module _ (e : Some a ≡ number_in attributes n) where
      mark_is : has_bit s a ≡ knows (rules_of (kind_name kind)) n
      unfolding attributes
      mark_is =
          let b = some_back n attributes a e in
          everywhere (has_bit s) (λ j. knows (rules_of (kind_name kind)) (attribute_name j)) attribute_count marks a b.1
          ∙ ap (knows (rules_of (kind_name kind))) b.2

      pub marked : has_bit s a ≡ true → Some a ≡ attribute_in kind n
      unfolding attribute_in
      marked t = rw (sym mark_is ∙ t) (ap Some (some_back n attributes a e).0)

      pub unmarked : has_bit s a ≡ false → None ≡ attribute_in kind n
      unfolding attribute_in
      unmarked t = rw (sym mark_is ∙ t)

-- ---- no two rules of an element have one name
pub rules_distinct : (n : List ℕ) → apart (rules_of n) ≡ true
unfolding elements apart knows any same bytes
rules_distinct n = in_every_element apart (λ rs. true) refl n refl
