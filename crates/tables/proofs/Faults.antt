-- The faults 9 and 10 that are found over the entries are those of the document.
use Prim.Native.Nat.{ℕ, zero, suc, ◌≤◌}
use mathlib.Core.Path.{◌≡◌, refl, sym, ap, ◌∙◌}
use mathlib.Core.List.{List, [], ◌∷◌, ◌++◌, map, append-nil}
use mathlib.Core.Bool.{Bool, true, false, not, cond, ◌&&◌, ◌||◌, or-false}
use lib.Dec.{leb, eqb}
use lib.ListN.{length, get_or, length-map}
use Rattle.text.specs.Texts.{bytes, same}
use Rattle.lists.proofs.Cases.{by_cases}
use Rattle.schema.specs.SchemaCode.{kind_name, kind_of}
use Rattle.file_rules.specs.Element.{Known, Fault, ◌at◌if◌, good_of, channel_of, value_of}
use Rattle.element.specs.ElementCode as element
use Rattle.file_rules.specs.Reading.{is}
use Rattle.document.specs.EntriesCode.{Entry, entry_of, number_in}
use Rattle.document.proofs.Stood.{All}
use Rattle.tables.specs.declared.rows.Head.{Head}
use Rattle.tables.specs.RowsCode.{folded, no_names, tell_name, no_head, tell_head, told}
use Rattle.file_rules.specs.declared.Refusal.{Refusal}
use Rattle.file_rules.specs.Tables as Tables
use Rattle.file_rules.specs.Tables.{kept, is_in, used_names, gap, channel_named, channels_in, table_faults}
use Rattle.tables.specs.TablesCode.{used_from, name_fault, first_where, bus_fault, is_beyond, channel_fault, table_fault}
use Rattle.std.specs.Prelude.{Option, None}
use Rattle.std.specs.Option.{option_or}
use Rattle.tables.proofs.Wanted.{Fit, first_of}
use Rattle.tables.proofs.Readings.{read, trigger_ruled, number_is}
use Rattle.tables.proofs.Nested.{all_mapped}
use Rattle.tables.proofs.Tells.{names_law, places_law, HeadHold, head_law}
use Rattle.lists.specs.Lists.{any, gathered}
use Rattle.lists.specs.FlagsCode.{lacks_first}

-- ---- 9: a name that was used earlier, or else what the rest says
used_law : (rest : List Fault) (earlier : List (List ℕ)) (ms : List Known)
    → first_of (used_names earlier ms ++ rest) ≡ option_or (used_from earlier (map Tables.name_of ms) (map (λ k. k.place) ms)) (first_of rest)
unfolding used_names used_from
used_law rest earlier [] = refl
used_law rest earlier (k ∷ ms) =
    by_cases (any (same (Tables.name_of k)) earlier) (λ t. rw t refl) (λ t. rw t (used_law rest (earlier ++ (Tables.name_of k ∷ [])) ms))

-- ---- 10: the first for which a test holds, or else what the rest says
first_law : (p : Entry → Bool) (b : Known → Bool) (rest : List Fault) (ks : List Known) → All (λ k. p (entry_of k) ≡ b k) ks
    → first_of (gathered (λ k. 10 at k.place if b k) ks ++ rest) ≡ option_or (first_where p (map entry_of ks)) (first_of rest)
unfolding gathered first_where
first_law p b rest [] y = refl
first_law p b rest (k ∷ ks) y = by_cases (b k) (λ t. rw (y.0, t) refl) (λ t. rw (y.0, t) (first_law p b rest ks y.1))

or_none : (p : Entry → Bool) (es : List Entry) → option_or (first_where p es) None ≡ first_where p es
unfolding first_where
or_none p [] = refl
or_none p (e ∷ es) = by_cases (p e) (λ t. rw t refl) (λ t. rw t (or_none p es))

gathered_kept : (b : Known → Bool) (ks : List Known)
    → gathered (λ k. 10 at k.place if true) (kept b ks) ≡ gathered (λ k. 10 at k.place if b k) ks
unfolding gathered kept
gathered_kept b [] = refl
gathered_kept b (k ∷ ks) =
    by_cases (b k) (λ t. rw t (ap (λ (l : List Fault). 10 at k.place if true ++ l) (gathered_kept b ks))) (λ t. rw t (gathered_kept b ks))

gathered_none : (ks : List Known) → gathered (λ k. 10 at k.place if false) ks ≡ []
unfolding gathered
gathered_none [] = refl
gathered_none (k ∷ ks) = gathered_none ks

-- ---- a channel is lacking
lacks_last : (c : ℕ) (l : List Bool) → lacks_first (suc c) l ≡ (not (get_or l c false) || lacks_first c l)
unfolding lacks_first
lacks_last zero [] = refl
lacks_last zero (b ∷ l) = refl
lacks_last (suc c) [] = refl
lacks_last (suc c) (b ∷ l) = ap (λ (t : Bool). not b || t) (lacks_last c l) ∙ swap (not b) (not (get_or l c false)) (lacks_first c l)
  where
    swap : (s t u : Bool) → (s || (t || u)) ≡ (t || (s || u))
    swap true true u = refl
    swap true false u = refl
    swap false t u = refl

gap_law : (l : List Bool) (cs : List ℕ) → ((c : ℕ) → get_or l c false ≡ any (eqb c) cs) → (n : ℕ) → lacks_first n l ≡ gap n cs
unfolding lacks_first gap
gap_law l cs h zero = refl
gap_law l cs h (suc n) = lacks_last n l ∙ rw (h n, gap_law l cs h n)

-- ---- the channel that an element names
module _ (f : List ℕ) (n : ℕ) (k : Known) (y : Fit f k) where
  beyond_trigger : cond (is_in "TRIGGERS" k && not (is "TRIGGER_STARTUP" k)) (leb n (number_in (entry_of k) "channel")) false
      ≡ any (leb n) (cond (is_in "TRIGGERS" k && not (is "TRIGGER_STARTUP" k)) (value_of k "channel" ∷ []) [])
  unfolding any
  beyond_trigger =
      by_cases (is_in "TRIGGERS" k)
      (λ t. by_cases (is "TRIGGER_STARTUP" k) (λ s. rw (t, s) refl)
      (λ s. rw (t, s, number_is f k y (trigger_ruled k t) "channel" read.1) (sym (or-false (leb n (value_of k "channel"))))))
      (λ t. rw t refl)

  beyond_law : is_beyond n (entry_of k) ≡ any (leb n) (channel_named k)
  unfolding is_beyond channel_named any
  beyond_law =
      by_cases (is "CHANNEL" k)
      (λ t. rw (y.named, t) (sym (or-false (leb n (good_of (channel_of k))))))
      (λ t. rw (y.named, t) beyond_trigger)

-- ---- all of them
module _ (f : List ℕ) (ks : List Known) (y : All (Fit f) ks) where
  name_law : length (kept (is_in "TRIGGERS") ks) ≤ 32 → (rest : List Fault)
      → first_of (used_names [] (kept (is_in "TRIGGERS") ks) ++ rest)
      ≡ option_or (name_fault f (folded (tell_name f) no_names (map entry_of ks))) (first_of rest)
  unfolding name_fault
  name_law h rest =
      let ms = kept (is_in "TRIGGERS") ks in
      let u : used_from [] (map Tables.name_of ms) (map (λ k. k.place) ms)
      ≡ name_fault f (folded (tell_name f) no_names (map entry_of ks)) = rw (names_law f ks y h, places_law f ks y h) refl in
      used_law rest [] ms ∙ ap (λ (r : Option Refusal). option_or r (first_of rest)) u

  module _ (h : length (kept (is "PARAMETERS") ks) ≤ 5) where
    abbrev head : Head
    head = folded tell_head no_head (map entry_of ks)

    held : HeadHold head ks
    held = head_law f ks y h

    channels_are : head.channels ≡ length (channels_in ks)
    channels_are = held.channels ∙ sym (length-map (kept (is "PARAMETERS") ks) (λ k. value_of k "channel"))

    bus_by : (g : Bool) (rest : List Fault)
        → first_of (gathered (λ k. 10 at k.place if g) (kept (is "CAN_BUS") ks) ++ rest)
        ≡ option_or (cond g (first_where (λ e. element.is_kind e.kind "CAN_BUS") (map entry_of ks)) None) (first_of rest)
    bus_by false rest = rw (gathered_none (kept (is "CAN_BUS") ks)) refl
    bus_by true rest =
        rw (gathered_kept (is "CAN_BUS") ks)
        (first_law (λ e. element.is_kind e.kind "CAN_BUS") (is "CAN_BUS") rest ks
        (all_mapped (Fit f) (λ k. same (kind_name (kind_of k.name)) (bytes "CAN_BUS") ≡ is "CAN_BUS" k)
        (λ k z. ap (λ (n : List ℕ). same n (bytes "CAN_BUS")) z.named) ks y))

    bus_law : (rest : List Fault)
        → first_of (gathered (λ k. 10 at k.place if gap (length (channels_in ks)) (channels_in ks)) (kept (is "CAN_BUS") ks) ++ rest)
        ≡ option_or (bus_fault head (map entry_of ks)) (first_of rest)
    unfolding bus_fault
    bus_law rest =
        let g : lacks_first head.channels head.present
        ≡ gap (length (channels_in ks)) (channels_in ks) = ap (λ (n : ℕ). lacks_first n head.present) channels_are
        ∙ gap_law head.present (channels_in ks) held.present (length (channels_in ks)) in
        rw g (bus_by (gap (length (channels_in ks)) (channels_in ks)) rest)

    channels_law : first_of (gathered (λ k. 10 at k.place if any (leb (length (channels_in ks))) (channel_named k)) ks)
        ≡ channel_fault head (map entry_of ks)
    unfolding channel_fault
    channels_law =
        let n = length (channels_in ks) in
        let b : Known → Bool = λ k. any (leb n) (channel_named k) in
        rw channels_are
        (ap first_of (sym (append-nil (gathered (λ k. 10 at k.place if b k) ks)))
        ∙ (first_law (is_beyond n) b [] ks (all_mapped (Fit f) (λ k. is_beyond n (entry_of k) ≡ b k) (λ k z. beyond_law f n k z) ks y)
        ∙ or_none (is_beyond n) (map entry_of ks)))

pub fault_law : (f : List ℕ) (ks : List Known) → All (Fit f) ks → length (kept (is_in "TRIGGERS") ks) ≤ 32
    → length (kept (is "PARAMETERS") ks) ≤ 5 → table_fault f (map entry_of ks) (told f (map entry_of ks)) ≡ first_of (table_faults ks)
unfolding table_fault table_faults told
fault_law f ks y t h =
    let bs = gathered (λ k. 10 at k.place if gap (length (channels_in ks)) (channels_in ks)) (kept (is "CAN_BUS") ks) in
    let cs = gathered (λ k. 10 at k.place if any (leb (length (channels_in ks))) (channel_named k)) ks in
    sym
    (name_law f ks y t (bs ++ cs) ∙ ap (option_or (name_fault f (folded (tell_name f) no_names (map entry_of ks))))
    (bus_law f ks y h cs ∙ ap (option_or (bus_fault (folded tell_head no_head (map entry_of ks)) (map entry_of ks))) (channels_law f ks y h)))
