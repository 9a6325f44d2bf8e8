-- What a trigger or a filter without faults says, from the numbers of its entry.
use Prim.Native.Nat.{ℕ, suc, ◌+◌, ◌≤◌, ◌<◌}
use Prim.Native.String.{String}
use native.Mathlib.Omega.{arith}
use native.Mathlib.Nat.{mod-add-div'}
use mathlib.Core.Path.{◌≡◌, refl, ap, ◌∙◌}
use mathlib.Core.List.{List, []}
use mathlib.Core.Bool.{true, cond, ◌&&◌}
use lib.Dec.{leb}
use borrow.Author.Tests.{leb-true, ne_eqb}
use Rattle.lists.specs.Lists.{any}
use Rattle.lists.specs.BitsCode.{has_bit}
use Rattle.lists.proofs.Cases.{by_cases}
use Rattle.lists.proofs.Parts.{and_right}
use Rattle.text.specs.Texts.{bytes, same}
use Rattle.text.proofs.Equal.{same_equal}
use Rattle.std.specs.Prelude.{Option, Some, None}
use Rattle.values.specs.declared.Sort.{Sort}
use Rattle.values.specs.declared.Sort.TheVariants.{Timeout}
use Rattle.values.specs.Values.{ranged, worth_of}
use Rattle.values.specs.NumbersCode.{number_spelt, digits}
use Rattle.records.specs.declared.Timeout.TheVariants.{Forever, Ms}
use Rattle.records.specs.RecordsCode.{timeout_at}
use Rattle.schema.specs.Schema.{◌to◌, one_of, parents, parent_in, under, elements, rules_in, rules_of}
use Rattle.schema.specs.SchemaCode.{attributes, attribute_of, knows, is_ruled, sort_in, all_rules, sort_of}
use Rattle.schema.proofs.Laws.{named, Listed, one_sort}
use Rattle.file_rules.specs.Element.{Known, worth_by, good_of, given_value, value_of, has}
use Rattle.file_rules.specs.Reading.{is, trigger_of, filter_of}
use Rattle.file_rules.specs.Tables.{is_in}
use Rattle.element.specs.ElementCode.{number_of, flag_of}
use Rattle.element.proofs.Judged.{worth_by_lem}
use Rattle.element.proofs.Gathers.{spelled_none}
use Rattle.element.proofs.Laws.{Clean, value_law, has_law}
use Rattle.document.proofs.Few.{own_clean}
use Rattle.document.specs.EntriesCode.{gathered_of, entry_of, flag_in, number_in}
use Rattle.tables.specs.RowsCode.{cause_from, trigger_from, filter_from}
use Rattle.tables.proofs.Wanted.{Fit}

-- no value is above its range
pub ranged_top : (lo hi most : ℕ) (n : Option ℕ) → good_of (ranged lo hi most n) ≤ hi
ranged_top lo hi most None = omega arith
ranged_top lo hi most (Some v) =
    by_cases (leb lo v && leb v hi)
    (λ t. by_cases (leb v most) (λ s. rw (t, s) (leb-true v hi (and_right (leb lo v) (leb v hi) t))) (λ s. rw (t, s) (omega arith)))
    (λ t. rw t (omega arith))

pub low_worth : (s : List ℕ) → good_of (worth_of (0 to 4) s) ≤ 4
unfolding worth_of
low_worth s = ranged_top 0 4 4 (number_spelt s)

-- the word that a timeout is gathered as is that of `-1` exactly if it says so
timeout_worth : (s : List ℕ)
    → timeout_at (good_of (worth_of Timeout s)) ≡ cond (same s (bytes "-1")) Forever (Ms (good_of (worth_of Timeout s)))
unfolding worth_of
timeout_worth s =
    by_cases (same s (bytes "-1")) (λ t. rw t)
    (λ t.
    let v = good_of (ranged 0 1000000000 1000000000 (number_spelt s)) in
    let h : v < 4294967295 = omega (arith, ranged_top 0 1000000000 1000000000 (number_spelt s)) in
    rw (t, ne_eqb v 4294967295 (λ e. absurd (omega (arith, h, e)))))

-- a value in an element that knows its attribute is worth what the attribute asks for
worth_known : (m n v : List ℕ) → knows (rules_of m) n ≡ true → worth_by (rules_of m) (record { name = n; value = v }) ≡ worth_of (sort_of n) v
worth_known m n v k = worth_by_lem (rules_of m) n v ∙ ap (λ (s : Sort). worth_of s v) (one_sort m n k)

-- the attributes that are read
pub read : Listed (bytes "timeout")
    × Listed (bytes "channel")
    × Listed (bytes "msgid")
    × Listed (bytes "msgid_min")
    × Listed (bytes "can_ext")
    × Listed (bytes "dlc")
    × Listed (bytes "dlc_min")
    × Listed (bytes "log_all")
unfolding attributes any same bytes
read = (refl, refl, refl, refl, refl, refl, refl, refl)

lasting : sort_of (bytes "timeout") ≡ Timeout
unfolding elements sort_in all_rules sort_of same bytes
lasting = refl

triggers_last : (n : List ℕ) → one_of (under (bytes "TRIGGERS")).carried n ≡ true → knows (rules_of n) (bytes "timeout") ≡ true
unfolding parents parent_in elements rules_in knows any same bytes
triggers_last n = named (λ m. knows (rules_of m) (bytes "timeout")) (λ m. true) n (under (bytes "TRIGGERS")).carried refl

filters_short : (n : List ℕ) → one_of (under (bytes "FILTERS")).carried n ≡ true → knows (rules_of n) (bytes "dlc_min") ≡ true
unfolding parents parent_in elements rules_in knows any same bytes
filters_short n = named (λ m. knows (rules_of m) (bytes "dlc_min")) (λ m. true) n (under (bytes "FILTERS")).carried refl

no_length : 0 ≡ good_of (worth_of (sort_of (bytes "dlc_min")) [])
unfolding elements sort_in all_rules sort_of worth_of number_spelt digits same bytes
no_length = refl

-- those that may have attributes
module _ (k : Known) where
  pub trigger_ruled : is_in "TRIGGERS" k ≡ true → is_ruled k.name ≡ true
  unfolding parents parent_in elements rules_in is_ruled any same bytes
  trigger_ruled = named is_ruled (λ m. true) k.name (under (bytes "TRIGGERS")).carried refl

  filter_ruled : is_in "FILTERS" k ≡ true → is_ruled k.name ≡ true
  unfolding parents parent_in elements rules_in is_ruled any same bytes
  filter_ruled = named is_ruled (λ m. true) k.name (under (bytes "FILTERS")).carried refl

  one_ruled : (x : String) → is_ruled (bytes x) ≡ true → is x k ≡ true → is_ruled k.name ≡ true
  one_ruled x r t = ap is_ruled (same_equal k.name (bytes x) t) ∙ r

  pub statement_ruled : is "STATEMENT" k ≡ true → is_ruled k.name ≡ true
  unfolding elements rules_in is_ruled any same bytes
  statement_ruled = one_ruled "STATEMENT" refl

  pub parameters_ruled : is "PARAMETERS" k ≡ true → is_ruled k.name ≡ true
  unfolding elements rules_in is_ruled any same bytes
  parameters_ruled = one_ruled "PARAMETERS" refl

  pub mode_ruled : is "MODE" k ≡ true → is_ruled k.name ≡ true
  unfolding elements rules_in is_ruled any same bytes
  mode_ruled = one_ruled "MODE" refl

  lasts : is_in "TRIGGERS" k ≡ true
      → timeout_at (value_of k "timeout")
      ≡ cond (same (given_value (bytes "timeout") k.attributes) (bytes "-1")) Forever (Ms (value_of k "timeout"))
  lasts t =
      let v = given_value (bytes "timeout") k.attributes in
      rw (worth_known k.name (bytes "timeout") v (triggers_last k.name t), lasting) (timeout_worth v)

  -- a filter without dlc
  shortest : is_in "FILTERS" k ≡ true → cond (has k "dlc_min") (value_of k "dlc_min") 0 ≡ value_of k "dlc_min"
  shortest t =
      by_cases (has k "dlc_min") (λ u. rw u)
      (λ u. rw (u, spelled_none (bytes "dlc_min") k.attributes u, worth_known k.name (bytes "dlc_min") [] (filters_short k.name t))
      no_length)

  -- what stands in the entry's row
  module _ (r : is_ruled k.name ≡ true) where
    row_number : (n : String) → number_in (entry_of k) n ≡ number_of (gathered_of k).values n
    row_number n =
        let a = attribute_of (bytes n) in
        let q : a + 2 ≡ suc (suc a) = omega arith in
        rw (r, q)

    row_flag : (n : String) → flag_in (entry_of k) n ≡ flag_of (gathered_of k).has n
    row_flag n = rw r (ap (λ (h : ℕ). has_bit h (attribute_of (bytes n))) (mod-add-div' (gathered_of k).has 4294967296))

-- ---- an element without faults, from its entry
module _ (f : List ℕ) (k : Known) (y : Fit f k) where
  pub clean : Clean k
  clean = own_clean k y.clean

  module _ (r : is_ruled k.name ≡ true) (n : String) (l : Listed (bytes n)) where
    pub number_is : number_in (entry_of k) n ≡ value_of k n
    number_is = row_number k r n ∙ value_law k clean.fits n l

    pub flag_is : flag_in (entry_of k) n ≡ has k n
    flag_is = row_flag k r n ∙ has_law k clean.fits n l

  pub trigger_is : is_in "TRIGGERS" k ≡ true → trigger_from (entry_of k) ≡ trigger_of k
  unfolding trigger_from cause_from trigger_of
  trigger_is t =
      let r = trigger_ruled k t in
      rw (
        y.named,
        number_is r "timeout" read.0,
        lasts k t,
        number_is r "channel" read.1,
        number_is r "msgid" read.2,
        number_is r "msgid_min" read.3,
        number_is r "can_ext" read.4,
        number_is r "dlc" read.5,
        number_is r "dlc_min" read.6,
      )

  pub filter_is : is_in "FILTERS" k ≡ true → (channels : ℕ) → filter_from channels (entry_of k) ≡ filter_of channels k
  unfolding filter_from filter_of
  filter_is t channels =
      let r = filter_ruled k t in
      rw (
        y.named,
        flag_is r "dlc" read.5,
        number_is r "msgid" read.2,
        number_is r "msgid_min" read.3,
        number_is r "can_ext" read.4,
        number_is r "dlc" read.5,
        number_is r "dlc_min" read.6,
        shortest k t,
      )
