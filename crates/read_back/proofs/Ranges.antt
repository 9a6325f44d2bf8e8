-- What an element without faults says lies in the loader's ranges.
use Prim.Native.Nat.{ℕ, ◌≤◌}
use Prim.Native.String.{String}
use native.Mathlib.Omega.{arith}
use mathlib.Core.Path.{◌≡◌, refl, sym, ap, ◌∙◌}
use mathlib.Core.List.{List, [], ◌∷◌}
use mathlib.Core.Bool.{Bool, true, false, not, cond, true≢false, ◌&&◌, ◌||◌}
use lib.Dec.{leb, ltb, eqb}
use borrow.Author.Tests.{leb-false, le-leb, ltb-false, lt-ltb, eqb-false, eq-eqb, not-false}
use Rattle.text.specs.Texts.{bytes, same}
use Rattle.lists.proofs.Cases.{by_cases}
use Rattle.text.proofs.Equal.{same_equal}
use Rattle.values.specs.declared.Sort.TheVariants.{Numeric, Timeout, YesNo}
use Rattle.values.specs.Values.{ranged, either_word, worth_of}
use Rattle.values.specs.NumbersCode.{number_spelt}
use Rattle.records.specs.Records.{dlc_top, timeout_in, id_top, trigger_in, filter_in}
use Rattle.records.specs.declared.Timeout.TheVariants.{Forever, Ms}
use Rattle.schema.specs.Schema.{Rule, elements, rules_in, rules_of, parent_in, parents}
use Rattle.file_rules.specs.Element.{Known, good_of, worth_by, given_value, value_of, given, has, repeated, misfit, crossed}
use Rattle.file_rules.specs.Reading.{is, trigger_of, filter_of}
use Rattle.file_rules.specs.Tables.{is_in, channel_named}
use Rattle.tables.proofs.Readings.{ranged_top}
use Rattle.lists.specs.Lists.{any}
use Rattle.lists.proofs.Parts.{and_left, and_right, neither}

-- ---- no value is above its range
number_top : (lo hi most : ℕ) (t : List ℕ) → good_of (worth_of (Numeric lo hi most) t) ≤ hi
unfolding worth_of
number_top lo hi most t = ranged_top lo hi most (number_spelt t)

flag_top : (t : List ℕ) → good_of (worth_of (YesNo 1) t) ≤ 1
unfolding worth_of
flag_top t = ranged_top 0 1 1 (either_word (bytes "NO") (bytes "YES") t)

timeout_top : (t : List ℕ) → timeout_in (cond (same t (bytes "-1")) Forever (Ms (good_of (worth_of Timeout t)))) ≡ true
unfolding worth_of
timeout_top t =
    by_cases (same t (bytes "-1")) (λ s. rw s refl)
    (λ s. let h = ranged_top 0 1000000000 1000000000 (number_spelt t) in
    rw s (le-leb (good_of (ranged 0 1000000000 1000000000 (number_spelt t))) 1000000000 h))

last_three : (a b c d e : Bool) → (a || b || c || d || e) ≡ false → (c ≡ false) × (d ≡ false) × (e ≡ false)
last_three a b c d e h =
    let y = neither (a || b || c || d) e h in
    let z = neither (a || b || c) d y.0 in
    ((neither (a || b) c z.0).1, z.1, y.1)

-- neither one without the other
together : (a b : Bool) → a && not b ≡ false → b && not a ≡ false → a ≡ b
together true true h g = refl
together true false h g = absurd (true≢false h)
together false true h g = absurd (true≢false g)
together false false h g = refl

-- ---- what a fit element has and how its bounds lie
module _ (k : Known) where
  -- a required attribute is given
  required : (n : String) (rs : List Rule) → any (λ r. r.required && not (has k r.name)) rs ≡ false
      → any (λ r. r.required && same (bytes n) (bytes r.name)) rs ≡ true → has k n ≡ true
  unfolding any
  required n [] h g = absurd (true≢false (sym g))
  required n (r ∷ rs) h g =
      let a = neither (r.required && not (has k r.name)) (any (λ r. r.required && not (has k r.name)) rs) h in
      by_cases (r.required && same (bytes n) (bytes r.name))
      (λ t.
      let q : bytes n
      ≡ bytes r.name = same_equal (bytes n) (bytes r.name) (and_right r.required (same (bytes n) (bytes r.name)) t) in
      let u : r.required ≡ true = and_left r.required (same (bytes n) (bytes r.name)) t in
      let z : not (has k r.name) ≡ false = rw u at a.0 in
      ap (λ (b : List ℕ). given b k.attributes) q ∙ not-false (has k r.name) z)
      (λ t. required n rs a.1 (rw t at g))

  abbrev Fit : Type 0
  Fit = (any (λ r. r.required && not (has k r.name)) (rules_of k.name) ≡ false)
      × (has k "dlc" && not (has k "dlc_min") ≡ false) × (has k "dlc_min" && not (has k "dlc") ≡ false)

  fit_parts : misfit k ≡ false → Fit
  unfolding misfit
  fit_parts m =
      last_three (any (λ a. not (any (λ r. same a.name (bytes r.name)) (rules_of k.name))) k.attributes)
      (repeated k.attributes) (any (λ r. r.required && not (has k r.name)) (rules_of k.name))
      (has k "dlc" && not (has k "dlc_min"))
      (has k "dlc_min" && not (has k "dlc")) m

  required_in : misfit k ≡ false → any (λ r. r.required && not (has k r.name)) (rules_of k.name) ≡ false
  required_in m = (fit_parts m).0

  -- both bounds of its length, or none
  pub paired : misfit k ≡ false → has k "dlc" ≡ has k "dlc_min"
  paired m = together (has k "dlc") (has k "dlc_min") (fit_parts m).1 (fit_parts m).2

  abbrev wide : Bool
  wide = ltb 2047 (value_of k "msgid") || ltb 2047 (value_of k "msgid_min")

  bounds_apart : crossed k ≡ false
      → ((has k "can_ext" && eqb (value_of k "can_ext") 0 && wide) ≡ false) × (ltb (value_of k "msgid") (value_of k "msgid_min") ≡ false)
      × (ltb (value_of k "dlc") (value_of k "dlc_min") ≡ false)
  unfolding crossed
  bounds_apart m =
      let a =
      neither (has k "can_ext" && eqb (value_of k "can_ext") 0 && wide || ltb (value_of k "msgid") (value_of k "msgid_min"))
      (ltb (value_of k "dlc") (value_of k "dlc_min")) m in
      let b = neither (has k "can_ext" && eqb (value_of k "can_ext") 0 && wide) (ltb (value_of k "msgid") (value_of k "msgid_min")) a.0 in
      (b.0, b.1, a.1)

  module _ (m : crossed k ≡ false) where
    ids_ordered : value_of k "msgid_min" ≤ value_of k "msgid"
    ids_ordered = ltb-false (value_of k "msgid") (value_of k "msgid_min") (bounds_apart m).1

    lengths_ordered : value_of k "dlc_min" ≤ value_of k "dlc"
    lengths_ordered = ltb-false (value_of k "dlc") (value_of k "dlc_min") (bounds_apart m).2

    id_small : has k "can_ext" ≡ true → value_of k "can_ext" ≡ 0 → value_of k "msgid" ≤ 2047
    id_small h e =
        let y : wide ≡ false = rw (h, eq-eqb (value_of k "can_ext") 0 e) at (bounds_apart m).0 in
        ltb-false 2047 (value_of k "msgid") (neither (ltb 2047 (value_of k "msgid")) (ltb 2047 (value_of k "msgid_min")) y).0

    -- the upper identifier, by whether it is extended
    id_top_lem : has k "can_ext" ≡ true → value_of k "can_ext" ≤ 1 → value_of k "msgid" ≤ 536870911
        → leb (value_of k "msgid") (id_top (eqb (value_of k "can_ext") 1)) ≡ true
    id_top_lem h b t =
        by_cases (eqb (value_of k "can_ext") 1)
        (λ e. rw e (le-leb (value_of k "msgid") 536870911 t))
        (λ e. rw e (let z = eqb-false (value_of k "can_ext") 1 e in le-leb (value_of k "msgid") 2047 (id_small h (omega (arith, b, z)))))

-- ---- the elements of a kind
trigger_case : {A : Type 0} (k : Known) → is_in "TRIGGERS" k ≡ true → (k.name ≡ bytes "TRIGGER_MSG_ID" → A)
    → (k.name ≡ bytes "TRIGGER_MSG_DLC" → A) → (k.name ≡ bytes "TRIGGER_MSG_ERROR_FRAME" → A) → (k.name ≡ bytes "TRIGGER_STARTUP" → A)
    → A
unfolding any parent_in parents bytes same
trigger_case k h a b c d =
    by_cases (same k.name (bytes "TRIGGER_MSG_ID")) (λ t. a (same_equal k.name (bytes "TRIGGER_MSG_ID") t))
    (λ t. by_cases (same k.name (bytes "TRIGGER_MSG_DLC")) (λ u. b (same_equal k.name (bytes "TRIGGER_MSG_DLC") u))
    (λ u. by_cases (same k.name (bytes "TRIGGER_MSG_ERROR_FRAME")) (λ v. c (same_equal k.name (bytes "TRIGGER_MSG_ERROR_FRAME") v))
    (λ v. by_cases (same k.name (bytes "TRIGGER_STARTUP")) (λ w. d (same_equal k.name (bytes "TRIGGER_STARTUP") w))
    (λ w. absurd (true≢false (sym h ∙ rw (t, u, v, w) refl))))))

-- a channel that is not beyond the last
below : (n v : ℕ) (vs : List ℕ) → vs ≡ v ∷ [] → any (leb n) vs ≡ false → ltb v n ≡ true
unfolding any
below n v vs e h =
    let g : (leb n v || false) ≡ false = rw e at h in
    lt-ltb v n (leb-false n v (neither (leb n v) false g).0)

module _ (n : ℕ) (k : Known) (fit : misfit k ≡ false) (bounds : crossed k ≡ false) (low : any (leb n) (channel_named k) ≡ false) where
  abbrev fires : Type 0
  fires = trigger_in n (trigger_of k) ≡ true

  abbrev lasts : List ℕ
  lasts = given_value (bytes "timeout") k.attributes

  abbrev is_in_time : Type 0
  is_in_time = timeout_in (cond (same lasts (bytes "-1")) Forever (Ms (value_of k "timeout"))) ≡ true

  timely : value_of k "timeout" ≡ good_of (worth_of Timeout lasts) → is_in_time
  timely e = rw e (timeout_top lasts)

  id_given : is "TRIGGER_MSG_ID" k ≡ true → is_in_time → ltb (value_of k "channel") n ≡ true
      → leb (value_of k "msgid_min") (value_of k "msgid") ≡ true → leb (value_of k "msgid") (id_top (eqb (value_of k "can_ext") 1)) ≡ true
      → fires
  unfolding trigger_of
  id_given e t c o i = rw (e, t, c, o, i) refl

  id_in : k.name ≡ bytes "TRIGGER_MSG_ID" → fires
  unfolding channel_named any bytes same worth_by rules_in elements parent_in parents
  id_in m =
      id_given (rw m refl) (timely (rw m refl))
      (below n (value_of k "channel") (channel_named k) (rw m refl) low)
      (le-leb (value_of k "msgid_min") (value_of k "msgid") (ids_ordered k bounds))
      (id_top_lem k bounds (required k "can_ext" (rules_of k.name) (required_in k fit) (rw m refl))
      (rw m (flag_top (given_value (bytes "can_ext") k.attributes)))
      (rw m (number_top 0 536870911 536870911 (given_value (bytes "msgid") k.attributes))))

  length_given : is "TRIGGER_MSG_ID" k ≡ false → is "TRIGGER_MSG_DLC" k ≡ true → is_in_time → ltb (value_of k "channel") n ≡ true
      → leb (value_of k "dlc_min") (value_of k "dlc") ≡ true → leb (value_of k "dlc") dlc_top ≡ true → fires
  unfolding trigger_of
  length_given e g t c o i = rw (e, g, t, c, o, i) refl

  length_in : k.name ≡ bytes "TRIGGER_MSG_DLC" → fires
  unfolding channel_named any bytes same worth_by rules_in elements parent_in parents
  length_in m =
      length_given (rw m refl) (rw m refl) (timely (rw m refl))
      (below n (value_of k "channel") (channel_named k) (rw m refl) low)
      (le-leb (value_of k "dlc_min") (value_of k "dlc") (lengths_ordered k bounds))
      (le-leb (value_of k "dlc") 8 (rw m (number_top 0 8 8 (given_value (bytes "dlc") k.attributes))))

  error_given : is "TRIGGER_MSG_ID" k ≡ false → is "TRIGGER_MSG_DLC" k ≡ false → is "TRIGGER_MSG_ERROR_FRAME" k ≡ true → is_in_time
      → ltb (value_of k "channel") n ≡ true → fires
  unfolding trigger_of
  error_given e g h t c = rw (e, g, h, t, c) refl

  error_in : k.name ≡ bytes "TRIGGER_MSG_ERROR_FRAME" → fires
  unfolding channel_named any bytes same worth_by rules_in elements parent_in parents
  error_in m =
      error_given (rw m refl) (rw m refl) (rw m refl) (timely (rw m refl))
      (below n (value_of k "channel") (channel_named k) (rw m refl) low)

  startup_given : is "TRIGGER_MSG_ID" k ≡ false → is "TRIGGER_MSG_DLC" k ≡ false → is "TRIGGER_MSG_ERROR_FRAME" k ≡ false → is_in_time → fires
  unfolding trigger_of
  startup_given e g h t = rw (e, g, h, t) refl

  startup_in : k.name ≡ bytes "TRIGGER_STARTUP" → fires
  unfolding bytes same worth_by rules_in elements
  startup_in m = startup_given (rw m refl) (rw m refl) (rw m refl) (timely (rw m refl))

  pub trigger_in_lem : is_in "TRIGGERS" k ≡ true → fires
  trigger_in_lem h = trigger_case k h id_in length_in error_in startup_in

-- ---- filters
pub filter_case : {A : Type 0} (k : Known) → is_in "FILTERS" k ≡ true → (k.name ≡ bytes "MESSAGE_PASS" → A)
    → (k.name ≡ bytes "MESSAGE_STOP" → A) → A
unfolding any parent_in parents bytes same
filter_case k h a b =
    by_cases (same k.name (bytes "MESSAGE_PASS")) (λ t. a (same_equal k.name (bytes "MESSAGE_PASS") t))
    (λ t. by_cases (same k.name (bytes "MESSAGE_STOP")) (λ u. b (same_equal k.name (bytes "MESSAGE_STOP") u))
    (λ u. absurd (true≢false (sym h ∙ rw (t, u) refl))))

module _ (k : Known) (fit : misfit k ≡ false) (bounds : crossed k ≡ false) (masks mask : ℕ) (some_channel : leb 1 mask ≡ true)
    (low : ltb mask masks ≡ true) where
  abbrev passes : Type 0
  passes = filter_in masks (filter_of mask k) ≡ true

  filter_given : leb (value_of k "msgid_min") (value_of k "msgid") ≡ true
      → leb (value_of k "msgid") (id_top (eqb (value_of k "can_ext") 1)) ≡ true → value_of k "dlc_min" ≤ value_of k "dlc" → value_of k "dlc" ≤ 8
      → passes
  unfolding filter_of filter_in
  filter_given o i l t =
      let g = le-leb (value_of k "dlc_min") (value_of k "dlc") l in
      let h = le-leb (value_of k "dlc") 8 t in
      by_cases (has k "dlc") (λ b. rw (b, sym (paired k fit) ∙ b, some_channel, low, o, i, g, h) refl)
      (λ b. rw (b, sym (paired k fit) ∙ b, some_channel, low, o, i) refl)

  pass_in : k.name ≡ bytes "MESSAGE_PASS" → passes
  unfolding any bytes same worth_by rules_in elements
  pass_in m =
      filter_given (le-leb (value_of k "msgid_min") (value_of k "msgid") (ids_ordered k bounds))
      (id_top_lem k bounds (required k "can_ext" (rules_of k.name) (required_in k fit) (rw m refl))
      (rw m (flag_top (given_value (bytes "can_ext") k.attributes)))
      (rw m (number_top 0 536870911 536870911 (given_value (bytes "msgid") k.attributes))))
      (lengths_ordered k bounds) (rw m (number_top 0 8 8 (given_value (bytes "dlc") k.attributes)))

  stop_in : k.name ≡ bytes "MESSAGE_STOP" → passes
  unfolding any bytes same worth_by rules_in elements
  stop_in m =
      filter_given (le-leb (value_of k "msgid_min") (value_of k "msgid") (ids_ordered k bounds))
      (id_top_lem k bounds (required k "can_ext" (rules_of k.name) (required_in k fit) (rw m refl))
      (rw m (flag_top (given_value (bytes "can_ext") k.attributes)))
      (rw m (number_top 0 536870911 536870911 (given_value (bytes "msgid") k.attributes))))
      (lengths_ordered k bounds) (rw m (number_top 0 8 8 (given_value (bytes "dlc") k.attributes)))

  pub filter_in_lem : is_in "FILTERS" k ≡ true → passes
  filter_in_lem h = filter_case k h pass_in stop_in

-- ---- statements
pub post_in : (k : Known) → is "STATEMENT" k ≡ true → leb (value_of k "posttrigger") 1000000000 ≡ true
unfolding bytes same worth_by rules_in elements
post_in k h =
    let m = same_equal k.name (bytes "STATEMENT") h in
    le-leb (value_of k "posttrigger") 1000000000
    (rw m (number_top 0 1000000000 1000000000 (given_value (bytes "posttrigger") k.attributes)))
