-- The records of a document without faults from its entries: triggers, filters, statements with their code, and the faults of expressions.
use Prim.Native.Nat.{ℕ, suc, ◌≤◌}
use native.Mathlib.Omega.{arith}
use mathlib.Core.Path.{◌≡◌, refl, sym, ap, subst, ◌∙◌}
use mathlib.Core.Bool.{Bool, true, false, not, cond, ◌&&◌, ◌||◌, beq}
use mathlib.Core.List.{List, [], ◌∷◌, ◌++◌, map, map-map, append-nil}
use lib.ListN.{length, length-map}
use Rattle.lists.specs.Lists.{any, gathered}
use Rattle.lists.proofs.Cases.{by_cases}
use Rattle.lists.proofs.Gathers.{gathered_map}
use Rattle.text.specs.Texts.{bytes, same}
use Rattle.records.specs.Records.{PlanStatement, trigger_words, filter_words, action_word, statement_words, sum_from}
use Rattle.records.specs.declared.Action.{Action}
use Rattle.std.specs.Prelude.{Result, Ok, Err}
use Rattle.grammar.specs.declared.Unfit.{Unfit}
use Rattle.grammar.specs.declared.Unfit.TheVariants.{Broken, Unknown}
use Rattle.grammar.specs.declared.Words.{Words}
use Rattle.grammar.specs.GrammarCode.{verdict_refusal, code_in, compiled}
use Rattle.grammar.proofs.Ruled.{compiled_becomes}
use Rattle.schema.specs.Schema.{parents, parent_in, one_of, under}
use Rattle.schema.specs.SchemaCode.{attributes, kind_name}
use Rattle.schema.proofs.Laws.{Listed}
use Rattle.file_rules.specs.Element.{Known, Fault, value_of, text_of}
use Rattle.file_rules.specs.Reading.{is, trigger_of, filter_of, action_of}
use Rattle.file_rules.specs.Tables.{kept, is_in, within, channels_of, actions_of, expressions_of, expression_of}
use Rattle.element.specs.ElementCode.{is_kind, short_text}
use Rattle.element.proofs.Texts.{short_law}
use Rattle.document.specs.EntriesCode.{Entry, entry_of, number_in}
use Rattle.document.proofs.Stood.{All}
use Rattle.tables.specs.RowsCode as rows
use Rattle.tables.specs.RowsCode.{front, counted, is_channel, mask_of, is_inner}
use Rattle.tables.proofs.Readings.{statement_ruled, number_is, trigger_is, filter_is}
use Rattle.tables.proofs.Wanted.{Fit, Formed}
use Rattle.tables.proofs.Nested.{Nested, Named, each_name, each_pair, all_kept, all_mapped}
use Rattle.tables.proofs.Fronts.{mask_is, text_is}
use Rattle.converter.specs.Converter.{fault_of, Composes}
use Rattle.std.specs.Option.{option_or}
use Rattle.tables.proofs.Wanted.{first_of}
use Rattle.converter.specs.PlanCode.{rows_of, trigger_row, filter_row, compiled_at, action_row, code_from, line_words, line_row, verdict_fault, line_fault, late_fault}
use Rattle.converter.proofs.Blocks.{rows_are}

-- ---- how many there are
pub counted_are : (q : ℕ) (n : List ℕ) (ks : List Known) → kind_name q ≡ n → All Named ks
    → counted q (map entry_of ks) ≡ length (kept (λ k. one_of (under n).carried k.name) ks)
unfolding counted kept
counted_are q n [] e z = refl
counted_are q n (k ∷ ks) e z =
    let h = counted_are q n ks e z.1 in
    by_cases (one_of (under n).carried k.name) (λ t. rw (e, z.0, t) (omega (arith, h))) (λ t. rw (e, z.0, t) h)

module _ (f : List ℕ) (ks : List Known) (h : Nested [] ks) (z : All Named ks) where
  -- ---- triggers: nothing stands in them
  triggers_inner : each_pair (λ n m. cond (one_of (under (bytes "TRIGGERS")).carried n)
      (one_of (under (bytes "TRIGGERS")).carried m && (false && not (one_of (under (bytes "TRIGGERS")).carried m))) true) parents ≡ true
  unfolding each_pair each_name parents parent_in any bytes same
  triggers_inner = refl

  triggers_outer : each_pair (λ n m. cond (one_of (under (bytes "TRIGGERS")).carried n) true
      (beq (one_of (under (bytes "TRIGGERS")).carried m) (one_of (under (bytes "TRIGGERS")).carried m) && not false)) parents ≡ true
  unfolding each_pair each_name parents parent_in any bytes same
  triggers_outer = refl

  trigger_none : (k : Known) → Fit f k → is_in "TRIGGERS" k ≡ false → (es : List Entry) → trigger_row (entry_of k) es ≡ []
  unfolding trigger_row
  trigger_none k y b es = rw (y.named, b)

  trigger_one : (k : Known) → Fit f k → is_in "TRIGGERS" k ≡ true → (es : List Entry)
      → trigger_row (entry_of k) es ≡ trigger_words (trigger_of k)
  unfolding trigger_row
  trigger_one k y b es = rw (y.named, b) (ap trigger_words (trigger_is f k y b))

  root_outside : (one_of (under (bytes "TRIGGERS")).carried [] ≡ false)
      × ((one_of (under (bytes "FILTERS")).carried [] || same [] (bytes "CHANNEL")) ≡ false)
      × ((same [] (bytes "STATEMENT")
      || (one_of (under (bytes "STATEMENT")).carried [] || one_of (under (bytes "ACTIONS")).carried [])) ≡ false)
  unfolding parents parent_in any bytes same
  root_outside = (refl, refl, refl)

  pub triggers_are : All (Fit f) ks → rows_of trigger_row (map entry_of ks) ≡ gathered trigger_words (map trigger_of (kept (is_in "TRIGGERS") ks))
  triggers_are y =
      rows_are trigger_row (λ n. one_of (under (bytes "TRIGGERS")).carried n) (λ n. false)
      (λ n. one_of (under (bytes "TRIGGERS")).carried n) triggers_inner triggers_outer (λ k. trigger_words (trigger_of k)) (Fit f)
      trigger_none
      (λ k y b es ps q. trigger_one k y b es) ks root_outside.0 h y z
      ∙ gathered_map trigger_words trigger_of (kept (is_in "TRIGGERS") ks)

  -- ---- filters, in which CHANNELs stand
  abbrev filter_on : Known → List ℕ
  filter_on k = filter_words (filter_of (sum_from 5 (channels_of k)) k)

  abbrev is_filter : List ℕ → Bool
  is_filter n = one_of (under (bytes "FILTERS")).carried n

  filters_inner : each_pair (λ n m. cond (is_filter n || same n (bytes "CHANNEL"))
      ((is_filter m || same m (bytes "CHANNEL")) && (same m (bytes "CHANNEL") && not (is_filter m))) true) parents ≡ true
  unfolding each_pair each_name parents parent_in any bytes same
  filters_inner = refl

  filters_outer : each_pair (λ n m. cond (is_filter n || same n (bytes "CHANNEL")) true
      (beq (is_filter m || same m (bytes "CHANNEL")) (is_filter m) && not (same m (bytes "CHANNEL")))) parents ≡ true
  unfolding each_pair each_name parents parent_in any bytes same
  filters_outer = refl

  filter_none : (k : Known) → Fit f k → is_filter k.name ≡ false → (es : List Entry) → filter_row (entry_of k) es ≡ []
  unfolding filter_row
  filter_none k y b es = rw (y.named, b)

  filter_one : (k : Known) → Fit f k → is_filter k.name ≡ true → (es : List Entry)
      → All (λ c. same c.name (bytes "CHANNEL") ≡ true) (within k)
      → front is_channel es ≡ map entry_of (within k) → filter_row (entry_of k) es ≡ filter_on k
  unfolding filter_row
  filter_one k y b es ps q =
      rw (y.named, b)
      (ap (λ (l : List Entry). filter_words (rows.filter_from (mask_of l) (entry_of k))) q
      ∙ ap (λ (m : ℕ). filter_words (rows.filter_from m (entry_of k))) (mask_is (within k) ps)
      ∙ ap filter_words (filter_is f k y b (sum_from 5 (channels_of k))))

  pub filters_are : All (Fit f) ks
      → rows_of filter_row (map entry_of ks)
      ≡ gathered filter_words (map (λ k. filter_of (sum_from 5 (channels_of k)) k) (kept (is_in "FILTERS") ks))
  filters_are y =
      rows_are filter_row is_filter (λ n. same n (bytes "CHANNEL")) (λ n. is_filter n || same n (bytes "CHANNEL")) filters_inner filters_outer
      filter_on (Fit f) filter_none filter_one ks root_outside.1 h y z
      ∙ gathered_map filter_words (λ k. filter_of (sum_from 5 (channels_of k)) k) (kept (is_in "FILTERS") ks)

-- ---- a statement's actions
module _ (f : List ℕ) where
  action_one : (c : Known) → Named c → is_in "ACTIONS" c ≡ true → action_row (entry_of c) ≡ action_word (action_of c) ∷ []
  unfolding action_row action_of
  action_one c n t =
      rw (n, t)
      (by_cases (is "ACTION_START_LOG" c) (λ t. rw t) (λ t. by_cases (is "ACTION_STOP_LOG" c) (λ u. rw (t, u)) (λ u. rw (t, u))))

  action_none : (c : Known) → Named c → is_in "ACTIONS" c ≡ false → action_row (entry_of c) ≡ []
  unfolding action_row
  action_none c n t = rw (n, t)

actions_are : (ms : List Known) → All Named ms
    → gathered action_row (map entry_of ms) ≡ map (λ c. action_word (action_of c)) (kept (is_in "ACTIONS") ms)
unfolding gathered kept
actions_are [] n = refl
actions_are (c ∷ ms) n =
    by_cases (is_in "ACTIONS" c)
    (λ t. rw (t, action_one [] c n.0 t) (ap (λ l. action_word (action_of c) ∷ l) (actions_are ms n.1)))
    (λ t. rw (t, action_none [] c n.0 t) (actions_are ms n.1))

-- ---- what `compile` gives each statement
module _ (names : List (List ℕ)) where
  abbrev pub code_of : Known → Result Words Unfit
  code_of k = compiled names (expression_of k)

  abbrev pub statement_of : Known → PlanStatement
  statement_of k = record { post = value_of k "posttrigger"; actions = actions_of k; code = code_in (code_of k) }

  abbrev pub faults_of : Known → List Fault
  faults_of k = gathered (λ e. fault_of (verdict_refusal (code_of k)) e.place) (expressions_of k)

  -- it is what the rules give
  pub compile_composes : length names ≤ 32 → (ks : List Known) → Composes names ks (gathered faults_of ks) (map statement_of ks)
  unfolding gathered
  compile_composes few [] = Composes.over
  compile_composes few (k ∷ ks) =
      Composes.next k (verdict_refusal (code_of k)) (code_in (code_of k)) ks (gathered faults_of ks) (map statement_of ks)
      (compiled_becomes names (expression_of k) few) (compile_composes few ks)

-- ---- the first fault of expressions
abbrev fault_row : List ℕ → List (List ℕ) → Entry → List Entry → List Fault
fault_row f names e es =
    cond (is_kind e.kind "STATEMENT") (fault_of (verdict_refusal (code_from f names es)) (rows.text_of (front is_inner es))) []

first_one : (v : Result Words Unfit) (p : ℕ) (l : List Fault)
    → option_or (verdict_fault v p) (first_of l) ≡ first_of (fault_of (verdict_refusal v) p ++ l)
first_one (Ok w) p l = refl
first_one (Err Broken) p l = refl
first_one (Err Unknown) p l = refl

pub late_first : (f : List ℕ) (names : List (List ℕ)) (es : List Entry) → late_fault f names es ≡ first_of (rows_of (fault_row f names) es)
unfolding late_fault line_fault rows_of
late_first f names [] = refl
late_first f names (e ∷ es) =
    by_cases (is_kind e.kind "STATEMENT")
    (λ t. rw (t, late_first f names es)
    (first_one (code_from f names es) (rows.text_of (front is_inner es)) (rows_of (fault_row f names) es)))
    (λ t. rw (t, late_first f names es) refl)

-- ---- statements, in which an EXPRESSION, ACTIONS and actions stand
posted : Listed (bytes "posttrigger")
unfolding attributes any same bytes
posted = refl

words_same : (p q : ℕ) (a : List ℕ) (b : List Action) (w v : List ℕ) → p ≡ q → a ≡ map action_word b → w ≡ v
    → line_words p a w ≡ q ∷ length b ∷ length v ∷ (map action_word b ++ v)
words_same p q a b w v e g h = rw (e, g, h, length-map b action_word)

abbrev is_line : List ℕ → Bool
is_line n = same n (bytes "STATEMENT")

abbrev is_part : List ℕ → Bool
is_part n = one_of (under (bytes "STATEMENT")).carried n || one_of (under (bytes "ACTIONS")).carried n

lines_inner : each_pair (λ n m. cond (is_line n || is_part n) ((is_line m || is_part m) && (is_part m && not (is_line m))) true) parents ≡ true
unfolding each_pair each_name parents parent_in any bytes same
lines_inner = refl

lines_outer : each_pair (λ n m. cond (is_line n || is_part n) true (beq (is_line m || is_part m) (is_line m) && not (is_part m))) parents
    ≡ true
unfolding each_pair each_name parents parent_in any bytes same
lines_outer = refl

root_apart : (is_line [] || is_part []) ≡ false
unfolding parents parent_in any bytes same
root_apart = refl

pub record Line (f : List ℕ) (k : Known) : Type 0 where
  pub fit : Fit f k
  pub inner : All (Fit f) (within k)
  pub formed : Formed k

module _ (f : List ℕ) (room : length f ≤ 32768) (names : List (List ℕ)) where
  module _ (k : Known) (y : Line f k) (b : is_line k.name ≡ true) (es : List Entry) (q : front is_inner es ≡ map entry_of (within k)) where
    all_named_lem : All Named (within k)
    all_named_lem = all_mapped (Fit f) Named (λ m z. z.named) (within k) y.inner

    abbrev e : Known
    e = (y.formed b).1.0

    only : expressions_of k ≡ e ∷ []
    only = (y.formed b).1.1

    fit_e : Fit f e
    fit_e = (subst (All (λ m. (is "EXPRESSION" m ≡ true) × Fit f m)) only (all_kept (Fit f) (is "EXPRESSION") (within k) y.inner)).0.1

    place_is : rows.text_of (front is_inner es) ≡ e.place
    place_is = ap rows.text_of q ∙ text_is (within k) e all_named_lem only

    text_of_lem : expression_of k ≡ text_of e
    unfolding gathered
    text_of_lem = ap (gathered text_of) only ∙ append-nil (text_of e)

    code_is : code_from f names es ≡ code_of names k
    unfolding compiled_at
    code_is =
        let s = fit_e.stood in
        ap (λ (p : ℕ). compiled names (short_text f p)) place_is
        ∙ ap (compiled names)
        (short_law f (suc s.depth) e.place e.place e.name e.attributes e.items s.behind s.element s.deep room
        ∙ sym text_of_lem)

    line_one : line_row f names (entry_of k) es ≡ statement_words (statement_of names k)
    unfolding line_row
    line_one =
        rw (y.fit.named, b)
        (words_same (number_in (entry_of k) "posttrigger") (value_of k "posttrigger") (gathered action_row (front is_inner es)) (actions_of k)
        (code_in (code_from f names es)) (code_in (code_of names k)) (number_is f k y.fit (statement_ruled k b) "posttrigger" posted)
        (ap (gathered action_row) q
        ∙ (actions_are (within k) all_named_lem ∙ sym (map-map action_word action_of (kept (is_in "ACTIONS") (within k)))))
        (ap code_in code_is))

    fault_one : fault_row f names (entry_of k) es ≡ faults_of names k
    unfolding gathered
    fault_one =
        rw (y.fit.named, b)
        (ap (λ (x : Result Words Unfit). fault_of (verdict_refusal x) (rows.text_of (front is_inner es))) code_is
        ∙ ap (fault_of (verdict_refusal (code_of names k))) place_is
        ∙ sym (ap (gathered (λ e. fault_of (verdict_refusal (code_of names k)) e.place)) only
        ∙ append-nil (fault_of (verdict_refusal (code_of names k)) e.place)))

  line_none : (k : Known) → Line f k → is_line k.name ≡ false → (es : List Entry) → line_row f names (entry_of k) es ≡ []
  unfolding line_row
  line_none k y b es = rw (y.fit.named, b)

  fault_none : (k : Known) → Line f k → is_line k.name ≡ false → (es : List Entry) → fault_row f names (entry_of k) es ≡ []
  fault_none k y b es = rw (y.fit.named, b)

  module _ (ks : List Known) (h : Nested [] ks) (z : All Named ks) (y : All (Line f) ks) where
    pub lines_are : rows_of (line_row f names) (map entry_of ks) ≡ gathered statement_words (map (statement_of names) (kept (is "STATEMENT") ks))
    lines_are =
        rows_are (line_row f names) is_line is_part (λ n. is_line n || is_part n) lines_inner lines_outer
        (λ k. statement_words (statement_of names k)) (Line f) line_none (λ k y b es ps q. line_one k y b es q) ks root_apart h y z
        ∙ gathered_map statement_words (statement_of names) (kept (is "STATEMENT") ks)

    pub late_is : late_fault f names (map entry_of ks) ≡ first_of (gathered (faults_of names) (kept (is "STATEMENT") ks))
    late_is =
        late_first f names (map entry_of ks)
        ∙ ap first_of (rows_are (fault_row f names) is_line is_part (λ n. is_line n || is_part n) lines_inner lines_outer (faults_of names)
        (Line f) fault_none (λ k y b es ps q. fault_one k y b es q) ks root_apart h y z)
