-- Every number of an element without faults is that of a whole value, or of its whole text.
use Prim.Native.Nat.{ℕ}
use mathlib.Core.Path.{◌≡◌, refl, sym, ap, ◌∙◌}
use mathlib.Core.Logic.{◌⊎◌, inl, inr}
use mathlib.Core.List.{List, [], ◌∷◌}
use mathlib.Core.Bool.{Bool, true, false, not, ◌&&◌, true≢false}
use lib.Dec.{leb}
use borrow.Author.Tests.{not-true}
use Rattle.text.specs.Texts.{bytes, same}
use Rattle.text.proofs.Equal.{same_self, same_equal}
use Rattle.lists.specs.Lists.{any, Every}
use Rattle.lists.proofs.Cases.{by_cases}
use Rattle.lists.proofs.Parts.{and_left, and_right, neither}
use Rattle.std.specs.Prelude.{Option, Some, None}
use Rattle.values.specs.declared.Sort.{Sort}
use Rattle.values.specs.declared.Sort.TheVariants.{Numeric, Timeout}
use Rattle.values.specs.Values.{ranged, worth_of}
use Rattle.values.specs.Numbers.{IsNumber}
use Rattle.values.specs.NumbersCode.{number_spelt}
use Rattle.values.proofs.Exact.{number_exactly}
use Rattle.shape.specs.Shape.{Attribute}
use Rattle.schema.specs.Schema.{Rule, rules_of}
use Rattle.schema.specs.SchemaCode.{knows, apart}
use Rattle.schema.proofs.Laws.{knows_here, knows_later, rules_distinct}
use Rattle.file_rules.specs.Element.{Known, worth_by, is_bad, is_not_carried, good_of, given_value, given, text_of, channel_of, misworded, ReadsWhole}
use Rattle.element.proofs.Laws.{Clean}

-- ---- a value that is good
ranged_good : (lo hi most : ℕ) (n : Option ℕ) → is_bad (ranged lo hi most n) ≡ false → is_not_carried (ranged lo hi most n) ≡ false
    → n ≡ Some (good_of (ranged lo hi most n))
ranged_good lo hi most None b c = absurd (true≢false b)
ranged_good lo hi most (Some v) b c =
    by_cases (leb lo v && leb v hi)
    (λ t. by_cases (leb v most) (λ u. rw (t, u)) (λ u. absurd (true≢false (rw (t, u) at c))))
    (λ t. absurd (true≢false (rw t at b)))

-- where the sort asks for a number, it is that of the whole value
module _ (s : List ℕ) where
  good_number : (lo hi most : ℕ) → is_bad (worth_of (Numeric lo hi most) s) ≡ false → is_not_carried (worth_of (Numeric lo hi most) s) ≡ false
      → IsNumber s (good_of (worth_of (Numeric lo hi most) s))
  unfolding worth_of
  good_number lo hi most b c = (number_exactly s _).0 (ranged_good lo hi most (number_spelt s) b c)

  good_timeout : is_bad (worth_of Timeout s) ≡ false → is_not_carried (worth_of Timeout s) ≡ false
      → (same s (bytes "-1") ≡ true) ⊎ IsNumber s (good_of (worth_of Timeout s))
  unfolding worth_of
  good_timeout b c =
      by_cases (same s (bytes "-1")) inl
      (λ t. inr (rw t ((number_exactly s _).0 (ranged_good 0 1000000000 1000000000 (number_spelt s) (rw t at b) (rw t at c)))))

-- ---- the attributes that are given
given_fails : (p : Attribute → Bool) (n : List ℕ) (l : List Attribute) → any p l ≡ false → given n l ≡ true
    → p (record { name = n; value = given_value n l }) ≡ false
unfolding given any given_value
given_fails p n [] e g = absurd (true≢false (sym g))
given_fails p n (a ∷ l) e g =
    let v = neither (p a) (any p l) e in
    by_cases (same a.name n) (λ t. rw (t, ← same_equal a.name n t) v.0) (λ t. rw t (given_fails p n l v.1 (rw t at g)))

-- each rule has its name, and says what a value under that name is worth
abbrev Own : List Rule → Rule → Type 0
Own rs r = (knows rs (bytes r.name) ≡ true)
    × ((s : List ℕ) → worth_by rs (record { name = bytes r.name; value = s }) ≡ worth_of r.sort s)

-- a name with a rule is not one without
names_apart : (rs : List Rule) (m n : List ℕ) → knows rs m ≡ true → knows rs n ≡ false → same m n ≡ false
names_apart rs m n k l =
    by_cases (same m n) (λ t. absurd (true≢false (sym k ∙ (ap (knows rs) (same_equal m n t) ∙ l)))) (λ t. t)

every_own : (P : Rule → Type 0) (rs : List Rule) → apart rs ≡ true → ((r : Rule) → Own rs r → P r) → Every P rs
unfolding Every apart worth_by
every_own P [] a f = tt
every_own P (r ∷ rs) a f =
    let n = bytes r.name in
    let b = not-true (knows rs n) (and_left (not (knows rs n)) (apart rs) a) in (
      f r (knows_here r rs n (same_self n), λ s. rw (same_self n)),
      every_own P rs (and_right (not (knows rs n)) (apart rs) a)
          (λ q y.
          let t = names_apart rs (bytes q.name) n y.0 b in
          f q (knows_later r rs (bytes q.name) t ∙ y.0, λ s. rw t (y.1 s))),
    )

pub whole_values : (k : Known) → Clean k → Every (ReadsWhole k) (rules_of k.name)
whole_values k c =
    let rs = rules_of k.name in
    every_own (ReadsWhole k) rs (rules_distinct k.name)
    (λ r y g.
    let n = bytes r.name in
    let s = given_value n k.attributes in
    let bad = given_fails (λ a. is_bad (worth_by rs a)) n k.attributes c.good g in
    let barred = given_fails (λ a. is_not_carried (worth_by rs a)) n k.attributes c.carried g in
    let asked : (q : Sort) → r.sort ≡ q → worth_by rs (record { name = n; value = s }) ≡ worth_of q s =
    λ q e. y.1 s ∙ ap (λ (z : Sort). worth_of z s) e in
    record {
      number = λ lo hi most e. let w = asked (Numeric lo hi most) e in rw w (good_number s lo hi most (rw w at bad) (rw w at barred));
      timeout = λ e. let w = asked Timeout e in rw w (good_timeout s (rw w at bad) (rw w at barred));
    })

-- ---- the text of a CHANNEL
ranged_carried : (lo hi : ℕ) (n : Option ℕ) → is_not_carried (ranged lo hi hi n) ≡ false
ranged_carried lo hi None = refl
ranged_carried lo hi (Some v) =
    by_cases (leb lo v && leb v hi) (λ t. rw (t, and_right (leb lo v) (leb v hi) t)) (λ t. rw t)

pub whole_channel : (k : Known) → Clean k → same k.name (bytes "CHANNEL") ≡ true → IsNumber (text_of k) (good_of (channel_of k))
unfolding misworded worth_of bytes same
whole_channel k c t =
    good_number (text_of k) 0 4 4 (rw (same_equal k.name (bytes "CHANNEL") t) at c.words)
    (ranged_carried 0 4 (number_spelt (text_of k)))
