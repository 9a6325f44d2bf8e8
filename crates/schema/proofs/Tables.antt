-- A table's rule at each of its entries, from one computed test; and names found by a key.
use Prim.Native.Nat.{ℕ, suc, ◌+◌, ◌*◌, ◌-◌, ◌/◌, ◌%◌, ◌≤◌, ◌<◌}
use Prim.Native.String.{String}
use native.Mathlib.Omega.{arith}
use native.Mathlib.Nat.{zero-mul}
use native.Mathlib.Numerals.{one-add}
use mathlib.Core.Path.{◌≡◌, refl, sym, ap, ◌∙◌}
use mathlib.Core.List.{List, [], ◌∷◌, map}
use mathlib.Core.Bool.{Bool, true, false, cond, true≢false}
use mathlib.Core.Logic.{inl, inr}
use lib.Dec.{eqb, leb, ltb}
use lib.ListN.{length, get_or, take, drop, get_or-eq_default}
use types.Run.{OneOf}
use borrow.Author.Tests.{leb-true, ltb-true, eqb-true}
use Rattle.text.specs.Texts.{bytes, same}
use Rattle.lists.proofs.Cases.{by_cases, le_or_lt}
use Rattle.lists.proofs.Parts.{and_left, and_right}
use Rattle.text.proofs.Equal.{same_self, same_equal}
use Rattle.std.specs.Prelude.{Some, None}
use Rattle.std.specs.Option.{unwrap_or}
use Rattle.std.proofs.lemmas.Option.{none-some}
use Rattle.schema.specs.Schema.{one_of}
use Rattle.schema.specs.SchemaCode.{Catalogued, name_in, position_of, number_in, in_row, start_of, part, key_of, keyed}
use Rattle.lists.specs.Lists.{any}
use Rattle.lists.specs.BitsCode.{upto}
use Rattle.lists.proofs.BitLaws.{everywhere}

-- ---- where a name stands
module _ (n : List ℕ) where
  pub one_back : (xs : List String) → one_of xs n ≡ true → (position_of n xs < length xs) × (name_in xs (position_of n xs) ≡ n)
  unfolding position_of name_in any
  one_back [] o = absurd (true≢false (sym o))
  one_back (x ∷ xs) o =
      by_cases (same n (bytes x))
      (λ t. rw t (omega arith, sym (same_equal n (bytes x) t)))
      (λ t. let h = one_back xs (rw t at o) in rw (t, one-add) (omega (arith, h.0), h.1))

  pub none_back : (xs : List String) → one_of xs n ≡ false → position_of n xs ≡ length xs
  unfolding position_of any
  none_back [] o = refl
  none_back (x ∷ xs) o =
      by_cases (same n (bytes x)) (λ t. absurd (true≢false (rw t at o))) (λ t. rw (t, one-add) (ap suc (none_back xs (rw t at o))))

  -- a name that has a number, and one that has none
  pub some_back : (xs : List String) (k : ℕ) → Some k ≡ number_in xs n → (k ≡ position_of n xs) × (k < length xs) × (name_in xs k ≡ n)
  unfolding number_in
  some_back xs k e =
      by_cases (one_of xs n)
      (λ o. let h = one_back xs o in let q : k ≡ position_of n xs = ap (λ r. unwrap_or r 0) (rw o at e) in (q, rw q h.0, rw q h.1))
      (λ o. absurd (none-some k (sym (rw o at e))))

  pub unnumbered : (xs : List String) → None ≡ number_in xs n → position_of n xs ≡ length xs
  unfolding number_in
  unnumbered xs e = by_cases (one_of xs n) (λ o. absurd (none-some _ (rw o at e))) (λ o. none_back xs o)

-- ---- keys
pub key_none : (w : ℕ) (n : List ℕ) → length n ≡ 0 → 0 ≡ key_of w n
unfolding key_of
key_none w [] h = rw (zero-mul w)
key_none w (b ∷ n) h = absurd (omega arith)

pub key_some : (w : ℕ) (n : List ℕ) (a b c : ℕ) → a ≡ get_or n 0 0 → b ≡ get_or n (length n - 1) 0 → c ≡ get_or n (length n / 2) 0
    → (length n % 128 * 4 + a + b * w + c) % 128 ≡ key_of w n
unfolding key_of
key_some w n a b c x y z = rw (x, y, z)

-- ---- a list of names that a key tells apart
module _ (xs : List String) (m w : ℕ) (laws : Catalogued xs m w) where
  module _ (n : List ℕ) (k : ℕ) (r : Bool) (e : r ≡ same (name_in xs k) n) where
    pub met : k < m → r ≡ true → Some k ≡ number_in xs n
    unfolding number_in
    met h t =
        let q = ap (λ (s : List ℕ). position_of s xs) (sym (same_equal (name_in xs k) n (sym e ∙ t)))
        ∙ everywhere (λ j. position_of (name_in xs j) xs) (λ j. j) m laws.own k h in
        by_cases (one_of xs n) (λ o. rw (o, q)) (λ o. absurd (omega (arith, none_back n xs o, laws.size, q)))

    pub unmet : k ≡ keyed w xs (key_of w n) → r ≡ false → None ≡ number_in xs n
    unfolding number_in
    unmet q t =
        by_cases (one_of xs n)
        (λ o.
        let h = one_back n xs o in
        let j = position_of n xs in
        let l : j < m = omega (arith, laws.size, h.0) in
        let g : List ℕ → ℕ = λ s. keyed w xs (key_of w s) in
        let f : k ≡ j = q ∙ (ap g (sym h.1) ∙ everywhere (λ i. g (name_in xs i)) (λ i. i) m laws.led j l) in
        absurd (true≢false (sym (same_self n) ∙ (ap (λ (s : List ℕ). same s n) (sym (ap (name_in xs) f ∙ h.1)) ∙ (sym e ∙ t)))))
        (λ o. rw o)

  pub number_fits : m ≤ 64
  number_fits = leb-true m 64 laws.few

  pub key_low : (k key : ℕ) → key < 128 → k ≡ keyed w xs key → k < m
  key_low k key h e = rw e (ltb-true _ _ (everywhere (λ j. ltb (keyed w xs j) m) (λ j. true) 128 laws.low key h))

  -- the names in a row: each stands between its start and the next
  module _ (k a e : ℕ) (h : k < m) (x : a ≡ start_of xs k) (y : e ≡ start_of xs (k + 1)) where
    pub row_bounds : (a ≤ e) × (e ≤ length (in_row xs))
    row_bounds =
        let low = leb (start_of xs k) (start_of xs (k + 1)) in
        let high = leb (start_of xs (k + 1)) (length (in_row xs)) in
        let b = everywhere _ (λ j. true) m laws.rises k h in
        rw (x, y) (
          leb-true (start_of xs k) (start_of xs (k + 1)) (and_left low high b),
          leb-true (start_of xs (k + 1)) (length (in_row xs)) (and_right low high b),
        )

    pub row_part : take (e - a) (drop a (in_row xs)) ≡ name_in xs k
    row_part = rw (x, y) (everywhere (part xs) (name_in xs) m laws.parts k h)

-- ---- what a `match` tells of a number, in an arm with the keys ks, and in the arm behind arms with the keys kss, the last first
abbrev is_in : ℕ → List ℕ → Bool
is_in e ks = any (λ k. eqb e k) ks

abbrev pub NoneOf : List (List ℕ) → ℕ → Type 0
NoneOf [] e = Unit {0}
NoneOf (ks ∷ kss) e = NoneOf kss e × (OneOf ks e → ⊥)

key_in : (ks : List ℕ) (e : ℕ) → is_in e ks ≡ true → OneOf ks e
unfolding any
key_in [] e t = absurd (true≢false (sym t))
key_in (k ∷ []) e t = by_cases (eqb e k) (λ u. eqb-true e k u) (λ u. absurd (true≢false (sym (rw u at t))))
key_in (k ∷ l ∷ ks) e t = by_cases (eqb e k) (λ u. inl (eqb-true e k u)) (λ u. inr (key_in (l ∷ ks) e (rw u at t)))

none_in : (kss : List (List ℕ)) (e : ℕ) → NoneOf kss e → any (is_in e) kss ≡ false
unfolding any
none_in [] e h = refl
none_in (ks ∷ kss) e h = by_cases (is_in e ks) (λ t. absurd (h.1 (key_in ks e t))) (λ t. rw t (none_in kss e h.0))

module _ {A : Type 0} (f : ℕ → A) (x : A) where
  pub in_arm : (ks : List ℕ) → map f ks ≡ map (λ k. x) ks → (e : ℕ) → OneOf ks e → x ≡ f e
  in_arm [] q e o = absurd o
  in_arm (k ∷ []) q e o = sym (ap f o ∙ ap (λ (l : List A). get_or l 0 x) q)
  in_arm (k ∷ l ∷ ks) q e (inl o) = sym (ap f o ∙ ap (λ (l : List A). get_or l 0 x) q)
  in_arm (k ∷ l ∷ ks) q e (inr o) = in_arm (l ∷ ks) (ap (drop 1) q) e o

  pub rest_below : (m : ℕ) (kss : List (List ℕ)) → map (λ k. cond (any (is_in k) kss) x (f k)) (upto m) ≡ map (λ k. x) (upto m)
      → (e : ℕ) → e < m → NoneOf kss e → x ≡ f e
  rest_below m kss q e l h = sym (rw (none_in kss e h) at (everywhere (λ k. cond (any (is_in k) kss) x (f k)) (λ k. x) m q e l))

-- behind the last name there is none
pub past_last : {A : Type 0} (xs : List String) (m : ℕ) → length xs ≡ m → (f : List ℕ → A) (x : A) → x ≡ f (bytes "?")
    → (e : ℕ) → m ≤ e → x ≡ f (name_in xs e)
unfolding name_in
past_last xs m size f x z e l = z ∙ ap (λ (s : String). f (bytes s)) (sym (get_or-eq_default xs "?" (omega arith)))

-- f speaks of names, of which there are m
module _ {A : Type 0} (xs : List String) (m : ℕ) (size : length xs ≡ m) (f : List ℕ → A) (x : A) where
  pub in_rest : (kss : List (List ℕ)) → map (λ k. cond (any (is_in k) kss) x (f (name_in xs k))) (upto m) ≡ map (λ k. x) (upto m)
      → x ≡ f (bytes "?") → (e : ℕ) → NoneOf kss e → x ≡ f (name_in xs e)
  unfolding name_in
  in_rest kss q z e h =
      le_or_lt m e (λ l. past_last xs m size f x z e l) (λ l. rest_below (λ k. f (name_in xs k)) x m kss q e l h)
