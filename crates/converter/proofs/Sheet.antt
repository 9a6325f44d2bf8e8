-- The words that are written for a document without faults are those of its plan, and 1590 are enough.
use Prim.Native.Nat.{ℕ, ◌*◌, ◌≤◌}
use native.Mathlib.Omega.{arith}
use native.Mathlib.Nat.{suc-mul}
use mathlib.Core.Path.{◌≡◌, refl, sym, ap, ◌∙◌}
use mathlib.Core.Bool.{Bool, true, or-false}
use mathlib.Core.List.{List, [], ◌∷◌, ◌++◌, map}
use lib.ListN.{length, length-map, length-append}
use Rattle.lists.specs.Lists.{any, gathered}
use Rattle.lists.proofs.Cases.{by_cases}
use Rattle.lists.proofs.Gathers.{gathered_map}
use Rattle.text.specs.Texts.{bytes, same}
use Rattle.shape.specs.Shape.{Node, WellShaped}
use Rattle.records.specs.Records.{PlanStatement, trigger_words, filter_words, statement_words, action_word, timeout_word, sum_from}
use Rattle.loader.specs.Plan.{words_of}
use Rattle.loader.proofs.RecordLaws.{cause_long}
use Rattle.grammar.specs.GrammarCode.{code_in}
use Rattle.grammar.proofs.Ruled as grammar
use Rattle.schema.specs.Schema.{parents, parent_in}
use Rattle.schema.specs.SchemaCode as schema
use Rattle.schema.specs.SchemaCode.{kind_name, kind_of}
use Rattle.file_rules.specs.Element.{Known}
use Rattle.file_rules.specs.Reading.{is, trigger_of, filter_of, action_of}
use Rattle.file_rules.specs.Document.{known_elements, element_faults}
use Rattle.file_rules.specs.Tables.{kept, is_in, within, channels_of, names_of, expression_of}
use Rattle.document.specs.EntriesCode.{entry_of}
use Rattle.document.proofs.Stood.{All}
use Rattle.tables.specs.declared.Telling.{Telling}
use Rattle.tables.specs.RowsCode.{counted}
use Rattle.tables.specs.TablesCode.{names_at}
use Rattle.tables.proofs.Wanted.{Fit, Formed, Reads}
use Rattle.tables.proofs.Nested.{Nested, Named, all_named_lem, all_within, all_zipped, all_mapped, all_kept}
use Rattle.tables.proofs.Entries.{all_nested, all_fit}
use Rattle.tables.proofs.Counts.{few_triggers, few_filters, few_statements, all_formed}
use Rattle.converter.specs.Converter.{plan_for}
use Rattle.converter.specs.PlanCode.{late_fault, sheet_words}
use Rattle.tables.proofs.Wanted.{first_of}
use Rattle.converter.proofs.Lines.{Line, counted_are, triggers_are, filters_are, code_of, statement_of, faults_of, lines_are, late_is}

kinds_back : (kind_name (kind_of (bytes "TRIGGERS")) ≡ bytes "TRIGGERS")
    × (kind_name (kind_of (bytes "FILTERS")) ≡ bytes "FILTERS")
    × (kind_name (kind_of (bytes "STATEMENTS")) ≡ bytes "STATEMENTS")
unfolding schema.names schema.name_in schema.position_of same bytes
kinds_back = (refl, refl, refl)

one_line : (k : Known) → is_in "STATEMENTS" k ≡ is "STATEMENT" k
unfolding parents parent_in any bytes same
one_line k = or-false (is "STATEMENT" k)

kept_same : (p q : Known → Bool) → ((k : Known) → p k ≡ q k) → (ks : List Known) → kept p ks ≡ kept q ks
unfolding kept
kept_same p q h [] = refl
kept_same p q h (k ∷ ks) = by_cases (q k) (λ t. rw (h k, t) (ap (◌∷◌ k) (kept_same p q h ks))) (λ t. rw (h k, t) (kept_same p q h ks))

-- of lists that are not longer than c
pub at_most : {Y : Type 0} (g : Known → List Y) (c : ℕ) (ks : List Known) → All (λ k. length (g k) ≤ c) ks
    → length (gathered g ks) ≤ length ks * c
unfolding gathered
at_most g c [] y = omega arith
at_most g c (k ∷ ks) y =
    omega (arith, length-append (g k) (gathered g ks), y.0, at_most g c ks y.1, suc-mul (length ks) c)

all_of : (p : Known → Type 0) → ((k : Known) → p k) → (ks : List Known) → All p ks
all_of p h [] = tt
all_of p h (k ∷ ks) = (h k, all_of p h ks)

module _ (f : List ℕ) (x : Node) (short : length f ≤ 32768) (w : WellShaped f x) (e : element_faults x ≡ []) (t : Telling)
    (r : Reads f (known_elements x) t) where
  abbrev ks : List Known
  ks = known_elements x

  abbrev pub names : List (List ℕ)
  names = names_of ks

  abbrev pub lines : List Known
  lines = kept (is "STATEMENT") ks

  abbrev pub statements : List PlanStatement
  statements = map (statement_of names) lines

  fits : All (Fit f) ks
  fits = all_fit f x w e

  nested : Nested [] ks
  nested = all_nested x e

  named : All Named ks
  named = all_named_lem [] ks nested

  whole : All (Line f) ks
  whole =
      all_mapped (λ k. (Fit f k × All (Fit f) (within k)) × Formed k) (Line f)
      (λ k y. record { fit = y.0.0; inner = y.0.1; formed = y.1 }) ks
      (all_zipped (λ k. Fit f k × All (Fit f) (within k)) Formed ks
      (all_zipped (Fit f) (λ k. All (Fit f) (within k)) ks fits (all_within (Fit f) x fits)) (all_formed x e))

  pub late_are : late_fault f (names_at f t.told.names) (map entry_of ks) ≡ first_of (gathered (faults_of names) lines)
  late_are = ap (λ ns. late_fault f ns (map entry_of ks)) r.names ∙ late_is f short names ks nested named whole

  triggers_count : counted (kind_of (bytes "TRIGGERS")) (map entry_of ks) ≡ length (map trigger_of (kept (is_in "TRIGGERS") ks))
  triggers_count = counted_are _ (bytes "TRIGGERS") ks kinds_back.0 named ∙ sym (length-map (kept (is_in "TRIGGERS") ks) trigger_of)

  filters_count : counted (kind_of (bytes "FILTERS")) (map entry_of ks)
      ≡ length (map (λ k. filter_of (sum_from 5 (channels_of k)) k) (kept (is_in "FILTERS") ks))
  filters_count = counted_are _ (bytes "FILTERS") ks kinds_back.1 named ∙ sym (length-map (kept (is_in "FILTERS") ks) _)

  lines_count : counted (kind_of (bytes "STATEMENTS")) (map entry_of ks) ≡ length statements
  lines_count =
      counted_are _ (bytes "STATEMENTS") ks kinds_back.2 named ∙ ap length (kept_same (is_in "STATEMENTS") (is "STATEMENT") one_line ks)
      ∙ sym (length-map lines (statement_of names))

  pub sheet_is : sheet_words f t.told (map entry_of ks) ≡ words_of (plan_for statements ks)
  unfolding sheet_words words_of plan_for
  sheet_is =
      rw (
        r.channels,
        r.log_all_lem,
        r.names,
        triggers_count,
        filters_count,
        lines_count,
        triggers_are f ks nested named fits,
        filters_are f ks nested named fits,
        lines_are f short names ks nested named whole,
      )

  -- ---- how long it is
  line_most : (k : Known) → is "STATEMENT" k ≡ true → Formed k → length (statement_words (statement_of names k)) ≤ 73
  line_most k b y =
      let c = code_in (code_of names k) in
      let h = grammar.few_code names (expression_of k) in
      let acts = kept (is_in "ACTIONS") (within k) in
      omega (
        arith,
        length-append (map action_word (map action_of acts)) c,
        length-map (map action_of acts) action_word,
        length-map acts action_of,
        (y b).0,
        h,
      )

  lines_most : length (gathered statement_words statements) ≤ length lines * 73
  lines_most =
      rw (← gathered_map statement_words (statement_of names) lines)
      (at_most (λ k. statement_words (statement_of names k)) 73 lines
      (all_mapped (λ k. (is "STATEMENT" k ≡ true) × Formed k) (λ k. length (statement_words (statement_of names k)) ≤ 73)
      (λ k y. line_most k y.0 y.1) lines (all_kept Formed (is "STATEMENT") ks (all_formed x e))))

  pub sheet_fits : length (sheet_words f t.told (map entry_of ks)) ≤ 1590
  unfolding words_of plan_for
  sheet_fits =
      let ts = map trigger_of (kept (is_in "TRIGGERS") ks) in
      let fs = map (λ k. filter_of (sum_from 5 (channels_of k)) k) (kept (is_in "FILTERS") ks) in
      let a : length (gathered trigger_words ts) ≤ length (kept (is_in "TRIGGERS") ks) * 6 =
      rw (← gathered_map trigger_words trigger_of (kept (is_in "TRIGGERS") ks))
      (at_most (λ k. trigger_words (trigger_of k)) 6 (kept (is_in "TRIGGERS") ks)
      (all_of _ (λ k. omega (arith, cause_long (timeout_word (trigger_of k).timeout) (trigger_of k).cause)) (kept (is_in "TRIGGERS") ks))) in
      let b : length (gathered filter_words fs) ≤ length (kept (is_in "FILTERS") ks) * 7 =
      rw (← gathered_map filter_words (λ k. filter_of (sum_from 5 (channels_of k)) k) (kept (is_in "FILTERS") ks))
      (at_most (λ k. filter_words (filter_of (sum_from 5 (channels_of k)) k)) 7 (kept (is_in "FILTERS") ks)
      (all_of _ (λ k. omega arith) (kept (is_in "FILTERS") ks))) in
      omega (
        arith,
        ap length sheet_is,
        length-append (gathered trigger_words ts) (gathered filter_words fs ++ gathered statement_words statements),
        length-append (gathered filter_words fs) (gathered statement_words statements),
        a,
        b,
        lines_most,
        few_triggers x e,
        few_filters x e,
        few_statements x e,
      )
