-- What the attributes of an element come to, one by one: the fold over their list.
use Prim.Native.Nat.{ℕ}
use native.Mathlib.Omega.{arith}
use mathlib.Core.Path.{◌≡◌, refl, sym, ap, ◌∙◌}
use mathlib.Core.List.{List, [], ◌∷◌}
use mathlib.Core.Bool.{Bool, true, false, not, cond, ◌||◌, or_comm, or-false, true≢false}
use lib.Dec.{eqb}
use lib.ListN.{length, get_or, length-set, get_or-replicate}
use lib.Seq.{get_or-set_same, get_or-set_other}
use borrow.Author.Tests.{not-false, eq-eqb, ne_eqb}
use Rattle.text.specs.Texts.{bytes, same}
use Rattle.text.proofs.Equal.{same_self, same_equal}
use Rattle.lists.specs.Lists.{any}
use Rattle.lists.specs.BitsCode.{has_bit}
use Rattle.lists.proofs.Cases.{by_cases}
use Rattle.lists.proofs.Parts.{neither}
use Rattle.lists.proofs.BitLaws.{bit_none, bit_with}
use Rattle.values.specs.declared.Sort.{Sort}
use Rattle.values.specs.declared.Sort.TheVariants.{Numeric, Timeout, YesNo, Protocol, TriggerName, Unread, Flexible}
use Rattle.values.specs.Values.{either_word, trigger_name, worth_of}
use Rattle.values.specs.NumbersCode.{digits_from, digits, number_spelt}
use Rattle.shape.specs.Shape.{Attribute}
use Rattle.schema.specs.Schema.{Rule}
use Rattle.schema.specs.SchemaCode.{attribute_count, attribute_name, attribute_of, knows}
use Rattle.schema.proofs.Laws.{Listed, number_low, number_back}
use Rattle.file_rules.specs.Element.{is_bad, is_not_carried, good_of, worth_by, given_value, given, repeated}
use Rattle.element.specs.declared.Gathered.{Gathered}
use Rattle.element.specs.ElementCode.{nothing_gathered, put_worth, unfitted, judged, gathered_list}
use Rattle.element.proofs.Judged.{judged_fit, judged_again, judged_unknown}

swap : (p q r : Bool) → (p || (q || r)) ≡ (q || p || r)
swap true q r = rw (or_comm q true)
swap false q r = rw (or_comm q false)

module _ (n : List ℕ) (a : Attribute) (l : List Attribute) where
  given_here : same a.name n ≡ true → given n (a ∷ l) ≡ true
  unfolding given any
  given_here t = rw t

  pub given_later : same a.name n ≡ false → given n (a ∷ l) ≡ given n l
  unfolding given any
  given_later t = rw t

-- the test of an attribute's number, and what it is worth
abbrev holds : Gathered → List ℕ → Bool
holds g n = has_bit g.has (attribute_of n)

abbrev worth_on : Gathered → List ℕ → ℕ
worth_on g n = get_or g.values (attribute_of n) 0

abbrev unknown : List Rule → List Attribute → Bool
unknown rs l = any (λ a. not (knows rs a.name)) l

abbrev taken : List Rule → Gathered → Attribute → Gathered
taken rs g a = put_worth g (attribute_of a.name) (worth_by rs a)

-- every attribute has a rule, and did not come before
unfoldable Fits : List Rule → Gathered → List Attribute → Type 0
Fits rs g [] = Unit {0}
Fits rs g (a ∷ l) = (knows rs a.name ≡ true) × (holds g a.name ≡ false) × Fits rs (taken rs g a) l

-- names have numbers of their own
number_once : (n o : List ℕ) → Listed n → Listed o → attribute_of n ≡ attribute_of o → n ≡ o
number_once n o k l e = sym (number_back n k) ∙ (ap attribute_name e ∙ number_back o l)

-- a value of no bytes gives no number
good_none : (s : Sort) → good_of (worth_of s []) ≡ 0
unfolding worth_of number_spelt digits digits_from either_word trigger_name same bytes
good_none (Numeric lo hi most) = refl
good_none Timeout = refl
good_none (YesNo most) = refl
good_none Protocol = refl
good_none TriggerName = refl
good_none Unread = refl
good_none Flexible = refl

no_value : (rs : List Rule) (n : List ℕ) → good_of (worth_by rs (record { name = n; value = [] })) ≡ 0
unfolding worth_by
no_value [] n = refl
no_value (r ∷ rs) n = by_cases (same n (bytes r.name)) (λ t. rw t (good_none r.sort)) (λ t. rw t (no_value rs n))

pub spelled_none : (n : List ℕ) (l : List Attribute) → given n l ≡ false → given_value n l ≡ []
unfolding given_value given any
spelled_none n [] e = refl
spelled_none n (a ∷ l) e = let v = neither (same a.name n) (given n l) e in rw v.0 (spelled_none n l v.1)

module _ (rs : List Rule) (lists : (n : List ℕ) → knows rs n ≡ true → Listed n) where
  judged_five : (g : Gathered) (a : Attribute) → g.five ≡ true → (judged rs g a).five ≡ true
  judged_five g a e =
      by_cases (knows rs a.name)
      (λ t. by_cases (holds g a.name)
      (λ h. ap (λ (x : Gathered). x.five) (judged_again rs g a t h))
      (λ h. ap (λ (x : Gathered). x.five) (judged_fit rs g a t h) ∙ e))
      (λ t. ap (λ (x : Gathered). x.five) (judged_unknown rs g a t))

  five_stays : (l : List Attribute) (g : Gathered) → g.five ≡ true → (gathered_list rs l g).five ≡ true
  unfolding gathered_list
  five_stays [] g e = e
  five_stays (a ∷ l) g e = five_stays l (judged rs g a) (judged_five g a e)

  -- where no attribute misfits
  fits_of : (l : List Attribute) (g : Gathered) → (gathered_list rs l g).five ≡ false → Fits rs g l
  unfolding gathered_list Fits
  fits_of [] g e = tt
  fits_of (a ∷ l) g e =
      by_cases (knows rs a.name)
      (λ t. by_cases (holds g a.name)
      (λ h. absurd (unfit (judged_again rs g a t h)))
      (λ h. (t, h, fits_of l (taken rs g a) (ap (λ (y : Gathered). (gathered_list rs l y).five) (sym (judged_fit rs g a t h)) ∙ e))))
      (λ t. absurd (unfit (judged_unknown rs g a t)))
    where
      unfit : judged rs g a ≡ unfitted g → ⊥
      unfit q =
          true≢false (sym (five_stays l (unfitted g) refl) ∙ (ap (λ (y : Gathered). (gathered_list rs l y).five) (sym q) ∙ e))

  -- a step that fits
  fold_fit : (a : Attribute) (l : List Attribute) (g : Gathered) → knows rs a.name ≡ true → holds g a.name ≡ false
      → gathered_list rs (a ∷ l) g ≡ gathered_list rs l (taken rs g a)
  unfolding gathered_list
  fold_fit a l g k h = ap (gathered_list rs l) (judged_fit rs g a k h)

  five_kept : (l : List Attribute) (g : Gathered) → Fits rs g l → (gathered_list rs l g).five ≡ g.five
  unfolding Fits gathered_list
  five_kept [] g x = refl
  five_kept (a ∷ l) g x = ap (λ (y : Gathered). y.five) (fold_fit a l g x.0 x.1) ∙ five_kept l (taken rs g a) x.2

  -- a flag that is set by each attribute for which a test holds
  module _ (flag : Gathered → Bool) (test : Attribute → Bool)
      (put : (g : Gathered) (a : Attribute) → knows rs a.name ≡ true → flag (taken rs g a) ≡ (test a || flag g)) where
    flag_is : (l : List Attribute) (g : Gathered) → Fits rs g l → flag (gathered_list rs l g) ≡ (any test l || flag g)
    unfolding Fits gathered_list any
    flag_is [] g x = refl
    flag_is (a ∷ l) g x =
        ap flag (fold_fit a l g x.0 x.1) ∙ (flag_is l (taken rs g a) x.2
        ∙ (ap (λ (t : Bool). any test l || t) (put g a x.0) ∙ swap (any test l) (test a) (flag g)))

  -- what an attribute does at the number of the name n
  module _ (g : Gathered) (a : Attribute) (k : knows rs a.name ≡ true) (n : List ℕ) (l : Listed n) where
    apart : same a.name n ≡ false → attribute_of n ≡ attribute_of a.name → ⊥
    apart t e = true≢false (sym (ap (same a.name) (number_once n a.name l (lists a.name k) e) ∙ same_self a.name) ∙ t)

    same_number : eqb (attribute_of n) (attribute_of a.name) ≡ same a.name n
    same_number =
        by_cases (same a.name n) (λ t. eq-eqb _ _ (ap attribute_of (sym (same_equal a.name n t))) ∙ sym t)
        (λ t. ne_eqb _ _ (apart t) ∙ sym t)

    has_taken : holds (taken rs g a) n ≡ (same a.name n || holds g n)
    has_taken =
        bit_with g.has (attribute_of a.name) (attribute_of n)
        ∙ (ap (λ (t : Bool). holds g n || t) same_number ∙ or_comm (holds g n) (same a.name n))

    value_taken : length g.values ≡ attribute_count
        → worth_on (taken rs g a) n ≡ cond (same a.name n) (good_of (worth_by rs (record { name = n; value = a.value }))) (worth_on g n)
    value_taken z =
        by_cases (same a.name n)
        (λ t.
        let e = same_equal a.name n t in
        rw (t, e) (get_or-set_same g.values (attribute_of n) (good_of (worth_by rs (record { name = n; value = a.value }))) 0
        (omega (arith, number_low n l))))
        (λ t. rw t (get_or-set_other g.values (attribute_of a.name) (attribute_of n) (good_of (worth_by rs a)) 0 (apart t)))

  -- a name that is there does not come again
  not_again : (l : List Attribute) (g : Gathered) → Fits rs g l → (n : List ℕ) → Listed n → holds g n ≡ true → given n l ≡ false
  unfolding Fits given any
  not_again [] g x n k h = refl
  not_again (a ∷ l) g x n k h =
      by_cases (same a.name n)
      (λ t. absurd (true≢false (sym h ∙ (ap (holds g) (sym (same_equal a.name n t)) ∙ x.1))))
      (λ t. rw t (not_again l (taken rs g a) x.2 n k (has_taken g a x.0 n k ∙ rw (t, h))))

  -- so of the attributes each is known and none repeated
  fits_known : (l : List Attribute) (g : Gathered) → Fits rs g l → unknown rs l ≡ false
  unfolding Fits any
  fits_known [] g x = refl
  fits_known (a ∷ l) g x = rw x.0 (fits_known l (taken rs g a) x.2)

  fits_once : (l : List Attribute) (g : Gathered) → Fits rs g l → repeated l ≡ false
  unfolding Fits repeated
  fits_once [] g x = refl
  fits_once (a ∷ l) g x =
      let o = lists a.name x.0 in
      let h = has_taken g a x.0 a.name o ∙ ap (λ (t : Bool). t || holds g a.name) (same_self a.name) in
      rw (not_again l (taken rs g a) x.2 a.name o h) (fits_once l (taken rs g a) x.2)

  -- and the other way round, if none was there before
  fits_from : (l : List Attribute) (g : Gathered) → unknown rs l ≡ false → repeated l ≡ false
      → ((n : List ℕ) → Listed n → given n l ≡ true → holds g n ≡ false) → Fits rs g l
  unfolding Fits repeated any
  fits_from [] g u r h = tt
  fits_from (a ∷ l) g u r h =
      let v = neither (not (knows rs a.name)) (unknown rs l) u in
      let w = neither (given a.name l) (repeated l) r in
      let k = not-false (knows rs a.name) v.0 in (
        k,
        h a.name (lists a.name k) (given_here a.name a l (same_self a.name)),
        fits_from l (taken rs g a) v.1 w.1
            (λ n o t. has_taken g a k n o ∙ by_cases (same a.name n)
            (λ s. absurd (true≢false (sym t ∙ (ap (λ (y : List ℕ). given y l) (sym (same_equal a.name n s)) ∙ w.0))))
            (λ s. rw s (h n o (given_later n a l s ∙ t)))),
      )

  -- what a name has come to
  module _ (n : List ℕ) (o : Listed n) where
    value_is : (l : List Attribute) (g : Gathered) → length g.values ≡ attribute_count → Fits rs g l
        → worth_on (gathered_list rs l g) n
        ≡ cond (given n l) (good_of (worth_by rs (record { name = n; value = given_value n l }))) (worth_on g n)
    unfolding Fits gathered_list given any given_value
    value_is [] g z x = refl
    value_is (a ∷ l) g z x =
        let v = value_taken g a x.0 n o z in
        ap (λ (y : Gathered). worth_on y n) (fold_fit a l g x.0 x.1)
        ∙ (value_is l (taken rs g a) (length-set g.values (attribute_of a.name) (good_of (worth_by rs a)) ∙ z) x.2
        ∙ by_cases (same a.name n)
        (λ t.
        let h = has_taken g a x.0 n o ∙ ap (λ (u : Bool). u || holds g n) t in
        rw (t, not_again l (taken rs g a) x.2 n o h) (v ∙ rw t))
        (λ t. rw t (ap (cond (given n l) _) (v ∙ rw t))))

  -- the whole, from nothing on
  module _ (l : List Attribute) where
    abbrev whole : Gathered
    whole = gathered_list rs l nothing_gathered

    nothing_has : (n : List ℕ) → holds nothing_gathered n ≡ false
    unfolding nothing_gathered
    nothing_has n = bit_none (attribute_of n)

    nothing_value : (n : List ℕ) → Listed n → worth_on nothing_gathered n ≡ 0
    unfolding nothing_gathered
    nothing_value n o = get_or-replicate attribute_count (attribute_of n) 0 0 (number_low n o)

    pub five_is : whole.five ≡ (unknown rs l || repeated l)
    unfolding nothing_gathered
    five_is =
        by_cases whole.five
        (λ t. by_cases (unknown rs l)
        (λ u. rw (t, u))
        (λ u. by_cases (repeated l)
        (λ r. rw (t, u, r))
        (λ r. absurd (true≢false (sym t ∙ five_kept l nothing_gathered
        (fits_from l nothing_gathered u r (λ n o h. nothing_has n)))))))
        (λ t.
        let x = fits_of l nothing_gathered t in
        t ∙ rw (fits_known l nothing_gathered x, fits_once l nothing_gathered x))

    -- where no attribute misfits
    module _ (fit : whole.five ≡ false) where
      fits : Fits rs nothing_gathered l
      fits = fits_of l nothing_gathered fit

      pub bad_is : whole.six ≡ any (λ a. is_bad (worth_by rs a)) l
      unfolding nothing_gathered
      bad_is = flag_is (λ g. g.six) (λ a. is_bad (worth_by rs a)) (λ g a k. refl) l nothing_gathered fits ∙ or-false _

      pub not_carried_is : whole.seven ≡ any (λ a. is_not_carried (worth_by rs a)) l
      unfolding nothing_gathered
      not_carried_is = flag_is (λ g. g.seven) (λ a. is_not_carried (worth_by rs a)) (λ g a k. refl) l nothing_gathered fits ∙ or-false _

      module _ (n : List ℕ) (o : Listed n) where
        pub given_is : holds whole n ≡ given n l
        unfolding given
        given_is =
            flag_is (λ g. holds g n) (λ a. same a.name n) (λ g a k. has_taken g a k n o) l nothing_gathered fits
            ∙ (ap (λ (t : Bool). given n l || t) (nothing_has n) ∙ or-false (given n l))

        pub spelled_is : worth_on whole n ≡ good_of (worth_by rs (record { name = n; value = given_value n l }))
        unfolding nothing_gathered
        spelled_is =
            value_is n o l nothing_gathered refl fits
            ∙ by_cases (given n l) (λ t. rw t) (λ t. rw (t, spelled_none n l t) (nothing_value n o ∙ sym (no_value rs n)))
