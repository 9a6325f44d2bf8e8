-- What is told of the known elements of a document: its triggers' names, and the head.
use Prim.Native.Nat.{ℕ, suc, ◌+◌, ◌≤◌, ◌<◌}
use native.Mathlib.Omega.{arith}
use mathlib.Core.Path.{◌≡◌, refl, sym, ap, ◌∙◌, subst}
use mathlib.Core.List.{List, [], ◌∷◌, ◌++◌, map, map-append, append_assoc, append-nil}
use mathlib.Core.Bool.{Bool, true, false, not, ◌&&◌, ◌||◌, or-true, or-false, or_assoc, true≢false}
use lib.Dec.{eqb}
use lib.ListN.{length, take, set, get_or, replicate, length-map, length-append, length-set, get_or-replicate, get_or-eq_default}
use lib.Seq.{slice, take_all, get_or-set_same, get_or-set_other}
use borrow.Author.Tests.{lt-ltb, eqb-true, eqb-false}
use Rattle.text.specs.Texts.{bytes, same}
use Rattle.lists.proofs.Cases.{by_cases, le_or_lt}
use Rattle.text.proofs.Equal.{same_equal}
use Rattle.walk.specs.declared.Part.{Part}
use Rattle.schema.specs.Schema.{one_of, parents, parent_in, under, elements, rules_in, rules_of}
use Rattle.schema.specs.SchemaCode.{demands}
use Rattle.schema.proofs.Laws.{named}
use Rattle.file_rules.specs.Element.{Known, worth_by, given_value, given, has, repeated, misfit, value_of}
use Rattle.element.specs.ElementCode.{value_at}
use Rattle.lists.proofs.Parts.{neither}
use Rattle.element.proofs.Required.{demand_back}
use Rattle.element.proofs.Laws.{spelled_law}
use Rattle.grammar.specs.TokensCode.{spans, names_in}
use Rattle.file_rules.specs.Reading.{is}
use Rattle.tables.proofs.Readings.{read, low_worth, parameters_ruled, mode_ruled, clean, number_is}
use Rattle.document.specs.EntriesCode.{entry_of}
use Rattle.document.proofs.Stood.{All}
use Rattle.tables.specs.declared.rows.Names.{Names}
use Rattle.tables.specs.declared.rows.Head.{Head}
use Rattle.tables.specs.RowsCode.{no_head, tell_head, folded, no_names, push_name, tell_name}
use Rattle.file_rules.specs.Tables as Tables
use Rattle.file_rules.specs.Tables.{kept, is_in, channels_in}
use Rattle.tables.specs.TablesCode.{names_at}
use Rattle.tables.proofs.Wanted.{Fit}
use Rattle.tables.proofs.Nested.{all_kept}
use Rattle.lists.specs.Lists.{any}
use Rattle.lists.specs.FillsCode.{Filled}
use Rattle.lists.proofs.Fills.{filled_none, filled_count, filled_one}

-- ---- names
-- an attribute that the rules require is given
fits_given : (k : Known) (n : List ℕ) → misfit k ≡ false → demands (rules_of k.name) n ≡ true → given n k.attributes ≡ true
unfolding misfit
fits_given k n m d =
    let u = any (λ a. not (any (λ r. same a.name (bytes r.name)) (rules_of k.name))) k.attributes || repeated k.attributes in
    let w = any (λ r. r.required && not (has k r.name)) (rules_of k.name) in
    let x = has k "dlc" && not (has k "dlc_min") in
    let a = neither (u || w || x) (has k "dlc_min" && not (has k "dlc")) m in
    let b = (neither u w (neither (u || w) x a.0).0).1 in
    by_cases (given n k.attributes) (λ t. t)
    (λ t. absurd (true≢false (sym (demand_back (λ o. given o k.attributes) (rules_of k.name) n d t) ∙ b)))

name_demanded : (n : List ℕ) → one_of (under (bytes "TRIGGERS")).carried n ≡ true → demands (rules_of n) (bytes "name") ≡ true
unfolding demands parent_in parents rules_in elements any bytes same
name_demanded n = named (λ m. demands (rules_of m) (bytes "name")) (λ m. true) n (under (bytes "TRIGGERS")).carried refl

-- one value more in an array of 32
put_one : (g : Known → ℕ) (a : List ℕ) (i : ℕ) (ms : List Known) (k : Known) → Filled (map g ms) (replicate 32 0) a i → i < 32
    → Filled (map g (ms ++ (k ∷ []))) (replicate 32 0) (set a i (g k)) (i + 1)
put_one g a i ms k x c = rw (map-append g ms (k ∷ [])) (filled_one (map g ms) (replicate 32 0) a i (i + 1) (g k) x c refl)

module _ (f : List ℕ) where
  abbrev name_at : Known → Part
  name_at k = value_at (bytes "name") f k.place

  -- the triggers ms are told
  record NamesHold (n : Names) (ms : List Known) : Type 0 where
    pub starts : Filled (map (λ k. (name_at k).from) ms) (replicate 32 0) n.starts n.count
    pub ends : Filled (map (λ k. (name_at k).to) ms) (replicate 32 0) n.ends n.count
    pub places : Filled (map (λ k. k.place) ms) (replicate 32 0) n.places n.count

  names_from : (ks : List Known) (n : Names) (ms : List Known) → All (Fit f) ks → length ms + length (kept (is_in "TRIGGERS") ks) ≤ 32
      → NamesHold n ms → NamesHold (folded (tell_name f) n (map entry_of ks)) (ms ++ kept (is_in "TRIGGERS") ks)
  unfolding folded kept tell_name push_name
  names_from [] n ms y h z = rw (append-nil ms) z
  names_from (k ∷ ks) n ms y h z =
      let Told : Names → Type 0 = λ m. NamesHold (folded (tell_name f) m (map entry_of ks)) (ms ++ kept (is_in "TRIGGERS") (k ∷ ks)) in
      by_cases (is_in "TRIGGERS" k)
      (λ u.
      let l : length ms + suc (length (kept (is_in "TRIGGERS") ks)) ≤ 32 = rw u at h in
      let c : n.count < 32 = omega (arith, l, filled_count z.places, length-map ms (λ j. j.place)) in
      let m : Names = record {
        starts = set n.starts n.count (name_at k).from;
        ends = set n.ends n.count (name_at k).to;
        places = set n.places n.count k.place;
        count = n.count + 1;
      } in
      let e : tell_name f n (entry_of k) ≡ m = rw (y.0.named, u, lt-ltb n.count 32 c) in
      subst Told (sym e)
      (rw (u, ← append_assoc ms (k ∷ []) (kept (is_in "TRIGGERS") ks))
      (names_from ks m (ms ++ (k ∷ [])) y.1 (omega (arith, l, length-append ms (k ∷ [])))
      (record {
        starts = put_one (λ j. (name_at j).from) n.starts n.count ms k z.starts c;
        ends = put_one (λ j. (name_at j).to) n.ends n.count ms k z.ends c;
        places = put_one (λ j. j.place) n.places n.count ms k z.places c;
      }))))
      (λ u. let e : tell_name f n (entry_of k) ≡ n = rw (y.0.named, u) in
      subst Told (sym e) (rw u (names_from ks n ms y.1 (rw u at h) z)))

  names_hold : (ks : List Known) → All (Fit f) ks → length (kept (is_in "TRIGGERS") ks) ≤ 32
      → NamesHold (folded (tell_name f) no_names (map entry_of ks)) (kept (is_in "TRIGGERS") ks)
  names_hold ks y h =
      names_from ks no_names [] y (omega (arith, h))
      (record { starts = filled_none (replicate 32 0); ends = filled_none (replicate 32 0); places = filled_none (replicate 32 0) })

  name_is : (k : Known) → Fit f k → is_in "TRIGGERS" k ≡ true → slice (name_at k).from (name_at k).to f ≡ Tables.name_of k
  name_is k y t =
      spelled_law f y.stood.depth k.place k.place k.name k.attributes k.items y.stood.behind y.stood.element
      (bytes "name")
      (fits_given k (bytes "name") (clean f k y).fits (name_demanded k.name t))

  spans_are : (ms : List Known) → All (λ k. (is_in "TRIGGERS" k ≡ true) × Fit f k) ms
      → spans f (map (λ k. (name_at k).from) ms) (map (λ k. (name_at k).to) ms) ≡ map Tables.name_of ms
  unfolding spans
  spans_are [] y = refl
  spans_are (k ∷ ms) y =
      ap (λ (w : List ℕ). w ∷ spans f (map (λ j. (name_at j).from) ms) (map (λ j. (name_at j).to) ms)) (name_is k y.0.1 y.0.0)
      ∙ ap (λ (l : List (List ℕ)). Tables.name_of k ∷ l) (spans_are ms y.1)

  module _ (ks : List Known) (y : All (Fit f) ks) (h : length (kept (is_in "TRIGGERS") ks) ≤ 32) where
    pub names_law : names_at f (folded (tell_name f) no_names (map entry_of ks)) ≡ map Tables.name_of (kept (is_in "TRIGGERS") ks)
    unfolding names_in
    names_law =
        let z = names_hold ks y h in
        let ms = kept (is_in "TRIGGERS") ks in
        let e = spans_are ms (all_kept (Fit f) (is_in "TRIGGERS") ks y) in
        rw (z.starts.words, z.ends.words, e) (take_all 32 (map Tables.name_of ms) (omega (arith, h, length-map ms Tables.name_of)))

    pub places_law : take (folded (tell_name f) no_names (map entry_of ks)).count (folded (tell_name f) no_names (map entry_of ks)).places
        ≡ map (λ k. k.place) (kept (is_in "TRIGGERS") ks)
    places_law = (names_hold ks y h).places.words

-- ---- PARAMETERS and MODE
channel_low : (k : Known) → k.name ≡ bytes "PARAMETERS" → value_of k "channel" ≤ 4
unfolding worth_by rules_in elements bytes same
channel_low k m = rw m (low_worth (given_value (bytes "channel") k.attributes))

-- one flag more
set_present : (l : List Bool) (v c : ℕ) (b : Bool) → v < length l → (get_or (set l v true) c false || b) ≡ (get_or l c false || (eqb c v || b))
set_present l v c b h =
    by_cases (eqb c v)
    (λ t.
    let g : get_or (set l v true) c false ≡ true = rw (eqb-true c v t) (get_or-set_same l v true false h) in
    rw (g, t) (sym (or-true (get_or l c false))))
    (λ t. rw (t, get_or-set_other l v c true false (eqb-false c v t)))

-- r is what h becomes by ks
record HeadFrom (h r : Head) (ks : List Known) : Type 0 where
  pub channels : r.channels ≡ h.channels + length (kept (is "PARAMETERS") ks)
  pub all : r.all ≡ (h.all || any (λ k. eqb (value_of k "log_all") 1) (kept (is "MODE") ks))
  pub present : (c : ℕ) → get_or r.present c false ≡ (get_or h.present c false || any (eqb c) (channels_in ks))

pub record HeadHold (h : Head) (ks : List Known) : Type 0 where
  pub channels : h.channels ≡ length (kept (is "PARAMETERS") ks)
  pub all : h.all ≡ any (λ k. eqb (value_of k "log_all") 1) (kept (is "MODE") ks)
  pub present : (c : ℕ) → get_or h.present c false ≡ any (eqb c) (channels_in ks)

module _ (f : List ℕ) where
  head_from : (ks : List Known) (h : Head) → All (Fit f) ks → h.channels + length (kept (is "PARAMETERS") ks) ≤ 5
      → length h.present ≡ 5 → HeadFrom h (folded tell_head h (map entry_of ks)) ks
  unfolding folded kept tell_head any bytes same
  head_from [] h y n w =
      record { channels = omega arith; all = sym (or-false h.all); present = λ c. sym (or-false (get_or h.present c false)) }
  head_from (k ∷ ks) h y n w =
      let Told : Head → Type 0 = λ g. HeadFrom h (folded tell_head g (map entry_of ks)) (k ∷ ks) in
      by_cases (is "PARAMETERS" k)
      (λ t.
      let m = same_equal k.name (bytes "PARAMETERS") t in
      let u : is "MODE" k ≡ false = rw m refl in
      let l : h.channels + suc (length (kept (is "PARAMETERS") ks)) ≤ 5 = rw t at n in
      let v = number_is f k y.0 (parameters_ruled k t) "channel" read.1 in
      let g : Head = record { channels = h.channels + 1; present = set h.present (value_of k "channel") true; all = h.all } in
      let e : tell_head h (entry_of k) ≡ g = rw (y.0.named, t, lt-ltb h.channels 5 (omega (arith, l)), v) in
      let r = head_from ks g y.1 (omega (arith, l)) (length-set h.present (value_of k "channel") true ∙ w) in
      subst Told (sym e)
      (record {
        channels = rw t (omega (arith, r.channels));
        all = rw u r.all;
        present = λ c. rw t (r.present c
            ∙ set_present h.present (value_of k "channel") c (any (eqb c) (channels_in ks)) (omega (arith, channel_low k m, w)));
      }))
      (λ t. by_cases (is "MODE" k)
      (λ u.
      let b = eqb (value_of k "log_all") 1 in
      let g : Head = record { channels = h.channels; present = h.present; all = h.all || b } in
      let e : tell_head h (entry_of k) ≡ g = rw (y.0.named, t, u, number_is f k y.0 (mode_ruled k u) "log_all" read.7) in
      let r = head_from ks g y.1 (rw t at n) w in
      subst Told (sym e)
      (record { channels = rw t r.channels; all = rw u (r.all ∙ or_assoc h.all b _); present = λ c. rw t (r.present c) }))
      (λ u.
      let e : tell_head h (entry_of k) ≡ h = rw (y.0.named, t, u) in
      let r = head_from ks h y.1 (rw t at n) w in
      subst Told (sym e) (record { channels = rw t r.channels; all = rw u r.all; present = λ c. rw t (r.present c) })))

  none_present : (c : ℕ) → get_or (replicate 5 false) c false ≡ false
  none_present c = le_or_lt 5 c (λ h. get_or-eq_default (replicate 5 false) false h) (λ h. get_or-replicate 5 c false false h)

  pub head_law : (ks : List Known) → All (Fit f) ks → length (kept (is "PARAMETERS") ks) ≤ 5
      → HeadHold (folded tell_head no_head (map entry_of ks)) ks
  head_law ks y h =
      let r = head_from ks no_head y (omega (arith, h)) refl in
      record {
        channels = omega (arith, r.channels);
        all = r.all;
        present = λ c. r.present c ∙ ap (λ (b : Bool). b || any (eqb c) (channels_in ks)) (none_present c);
      }
