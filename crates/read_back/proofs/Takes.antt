-- The loader takes every plan of a document without faults, and reads it back as it was.
use Prim.Native.Nat.{ℕ, suc, ◌^◌, ◌≤◌}
use native.Mathlib.Omega.{arith}
use mathlib.Core.Path.{◌≡◌, refl, sym, ap, ◌∙◌, subst}
use mathlib.Core.List.{List, [], ◌∷◌, ◌++◌, map}
use mathlib.Core.Option.{Option, none, some}
use mathlib.Core.Bool.{Bool, true, false, ◌||◌}
use lib.Dec.{leb, eqb}
use lib.ListN.{length, take, drop, length-map}
use lib.Seq.{take-append_seam}
use borrow.Author.Tests.{le-leb, leb-false, lt-leb, eqb-false}
use Rattle.text.specs.Texts.{bytes, same}
use Rattle.lists.proofs.Cases.{le_or_lt}
use Rattle.shape.specs.Shape.{Node, WellShaped}
use Rattle.records.specs.declared.Filter.{Filter}
use Rattle.records.specs.Records.{PlanStatement, trigger_in, filter_in, sum_from}
use Rattle.std.specs.Prelude.{Option as Maybe, Some}
use Rattle.loader.specs.declared.Layout.{Layout}
use Rattle.loader.specs.Plan.{statement_in, in_range, PlanOf, Loads, layout_of}
use Rattle.loader.proofs.Exact.{loads_once, one_plan}
use Rattle.grammar.specs.Outcome.{Becomes}
use Rattle.grammar.proofs.Loads.{GoodCode, good}
use Rattle.schema.specs.declared.Times.TheVariants.{OneTo}
use Rattle.schema.specs.Schema.{one_of, under, parent_in, parents}
use Rattle.file_rules.specs.Element.{Known, Fault, ◌at◌if◌, own_faults, good_of, channel_of, value_of, has}
use Rattle.element.specs.ElementCode.{first_number}
use Rattle.element.proofs.Laws.{Clean, clean_law}
use Rattle.lists.proofs.Parts.{neither}
use Rattle.file_rules.specs.Reading.{is, trigger_of, filter_of, action_of}
use Rattle.file_rules.specs.Document.{known_elements, held, lacks, unmet, element_faults}
use Rattle.document.proofs.Few.{append_none}
use Rattle.document.proofs.Stood.{All}
use Rattle.file_rules.specs.Tables.{kept, is_in, within, name_of, channels_of, channel_named, channels_in, actions_of, expressions_of, expression_of, names_of, used_names, gap, table_faults}
use Rattle.tables.proofs.Wanted.{Formed}
use Rattle.tables.proofs.Nested.{Nested, all_within, all_inner, all_mapped, all_zipped, all_kept, spread, each_name, each_pair}
use Rattle.tables.proofs.Entries.{faultless_parts, all_nested}
use Rattle.tables.proofs.Counts.{few_triggers, few_filters, few_statements, few_parameters, some_parameters, all_formed, held_kept, any_none}
use Rattle.converter.specs.Converter.{plan_for, fault_of, Composes, Judged, Meets, Converts}
use Rattle.std.specs.Prelude.{Ok}
use Rattle.read_back.proofs.Ranges.{paired, trigger_in_lem, filter_case, filter_in_lem, post_in}
use Rattle.records.proofs.Masks.{mask_some, mask_below}
use Rattle.lists.specs.Lists.{any, all, gathered}

-- ---- lists without faults
none_gathered : (g : Known → List Fault) (ks : List Known) → gathered g ks ≡ [] → All (λ k. g k ≡ []) ks
unfolding gathered
none_gathered g [] e = tt
none_gathered g (k ∷ ks) e = let a = append_none (g k) (gathered g ks) e in (a.0, none_gathered g ks a.1)

not_at : (n p : ℕ) (b : Bool) → n at p if b ≡ [] → b ≡ false
not_at n p true e = absurd (omega (arith, ap length e))
not_at n p false e = refl

all_true : {X : Type 0} (ok : X → Bool) (g : Known → X) (ks : List Known) → All (λ k. ok (g k) ≡ true) ks → all ok (map g ks) ≡ true
unfolding all
all_true ok g [] h = refl
all_true ok g (k ∷ ks) h = rw h.0 (all_true ok g ks h.1)

-- ---- a filter's channels
abbrev of_filters : List ℕ → Bool
of_filters n = one_of (under (bytes "FILTERS")).carried n || same n (bytes "CHANNEL")

only_channels : (k : Known) → is_in "FILTERS" k ≡ true → Nested k.name (within k) → All (λ c. is "CHANNEL" c ≡ true) (within k)
unfolding parent_in parents any bytes same each_name each_pair
only_channels k h = spread of_filters (λ n. same n (bytes "CHANNEL")) refl k.name (within k) (rw h refl)

named_channel : (c : Known) → is "CHANNEL" c ≡ true → channel_named c ≡ good_of (channel_of c) ∷ []
unfolding channel_named
named_channel c h = rw h refl

channels_low : (n : ℕ) (ks : List Known) → All (λ c. is "CHANNEL" c ≡ true) ks → All (λ c. any (leb n) (channel_named c) ≡ false) ks
    → any (leb n) (map (λ c. good_of (channel_of c)) ks) ≡ false
unfolding any
channels_low n [] h l = refl
channels_low n (c ∷ ks) h l =
    let a : (leb n (good_of (channel_of c)) || false) ≡ false = rw (named_channel c h.0) at l.0 in
    rw (neither (leb n (good_of (channel_of c))) false a).0 (channels_low n ks h.1 l.1)

-- a filter that lacks nothing holds a channel
all_kept_all : (ks : List Known) → length (kept (λ k. true) ks) ≡ length ks
unfolding kept
all_kept_all [] = refl
all_kept_all (k ∷ ks) = let h = all_kept_all ks in omega (arith, h)

some_length : {X Y : Type 0} (xs : List X) (ys : List Y) → eqb (length xs) 0 ≡ false → length xs ≤ length ys → 1 ≤ length ys
some_length xs ys u h = let b = eqb-false (length xs) 0 u in le_or_lt 1 (length ys) (λ g. g) (λ g. absurd (b (omega (arith, h, g))))

some_inside : (k : Known) (m : ℕ) → lacks k ≡ false → (under k.name).times ≡ OneTo m → 1 ≤ length (within k)
unfolding lacks unmet
some_inside k m l t =
    let q = under k.name in
    let u : eqb (length (held q [] k.items)) 0
    ≡ false =
    subst (λ y. unmet (record { name = q.name; carried = q.carried; times = y; barred = q.barred }) (held q [] k.items) ≡ false) t
    l in
    let a = held_kept (λ n. true) q (λ n o. refl) [] k.items in
    let b = all_kept_all (within k) in
    some_length (held q [] k.items) (within k) u (omega (arith, a, b))

filter_times : (k : Known) → is_in "FILTERS" k ≡ true → (under k.name).times ≡ OneTo 5
unfolding any parent_in parents bytes same
filter_times k h = filter_case k h (λ m. rw m refl) (λ m. rw m refl)

-- what is below n is below m, if n is
low_in : (n m : ℕ) (cs : List ℕ) → n ≤ m → any (leb n) cs ≡ false → any (leb m) cs ≡ false
unfolding any
low_in n m [] l h = refl
low_in n m (c ∷ cs) l h =
    let a = neither (leb n c) (any (leb n) cs) h in
    let g = leb-false n c a.0 in
    rw (lt-leb m c (omega (arith, g, l))) (low_in n m cs l a.1)

mask_low : (n : ℕ) (cs : List ℕ) → n ≤ 5 → 1 ≤ length cs → any (leb n) cs ≡ false → leb 1 (sum_from 5 cs) ≡ true
mask_low n [] l s h = absurd (omega (arith, s))
mask_low n (c ∷ cs) l s h = mask_some n c cs l h

-- ---- statements, each with the code that its expression becomes
pub data Coded (names : List (List ℕ)) : List Known → List PlanStatement → Type 0 where
  over : Coded names [] []
  next :
      (k : Known) (code : List ℕ) (ks : List Known) (ss : List PlanStatement)
      → GoodCode names (expression_of k) code
      → Coded names ks ss
      → Coded names (k ∷ ks) (record { post = value_of k "posttrigger"; actions = actions_of k; code = code } ∷ ss)

abbrev Whole : Known → Type 0
Whole k = (is "STATEMENT" k ≡ true) × Formed k

no_refusal : (r : Option ℕ) (es : List Known) (e : Known) → es ≡ e ∷ [] → gathered (λ y. fault_of r y.place) es ≡ [] → r ≡ none
unfolding gathered
no_refusal none es e o h = refl
no_refusal (some n) es e o h = absurd (omega (arith, ap length (rw o at h)))

module _ (names : List (List ℕ)) (few : length names ≤ 32) where
  coded : (ks : List Known) (fs : List Fault) (ss : List PlanStatement) → All Whole ks → Composes names ks fs ss → fs ≡ []
      → Coded names ks ss
  coded [] fs ss h Composes.over e = Coded.over
  coded (k ∷ ks) fs ss h (Composes.next k₁ r code ks₁ gs ts b m) e =
      let a = append_none (gathered (λ y. fault_of r y.place) (expressions_of k)) gs e in
      let w = h.0.1 h.0.0 in
      let z = no_refusal r (expressions_of k) w.1.0 w.1.1 a.0 in
      let c = subst (λ (q : Option ℕ). Becomes names (expression_of k) q code) z b in
      Coded.next k code ks ts (good few c) (coded ks gs ts h.1 m a.1)

  statement_in_lem : (k : Known) (code : List ℕ) → Whole k → GoodCode names (expression_of k) code
      → statement_in (length names) (record { post = value_of k "posttrigger"; actions = actions_of k; code = code }) ≡ true
  unfolding statement_in
  statement_in_lem k code w c =
      let m = length-map (kept (is_in "ACTIONS") (within k)) action_of in
      rw (
        post_in k w.0,
        le-leb (length (actions_of k)) 6 (omega (arith, m, (w.1 w.0).0)),
        le-leb 1 (length code) c.some_words,
        le-leb (length code) 64 c.few,
        c.loads,
      )

  statements_in_range : (ks : List Known) (ss : List PlanStatement) → All Whole ks → Coded names ks ss
      → (all (statement_in (length names)) ss ≡ true) × (length ss ≡ length ks)
  unfolding all
  statements_in_range [] ss h Coded.over = (refl, refl)
  statements_in_range (k ∷ ks) ss h (Coded.next k₁ code ks₁ ts c m) =
      let r = statements_in_range ks ts h.1 m in
      (rw (statement_in_lem k code h.0 c) r.0, ap suc r.1)

abbrev pub Plain : Known → Type 0
Plain k = (any (leb 5) (channels_of k) ≡ false) × (has k "dlc" ≡ has k "dlc_min")

-- ---- the plan of a document without faults
module _ (x : Node) (e : element_faults x ≡ []) (h : table_faults (known_elements x) ≡ []) where
  abbrev ks : List Known
  ks = known_elements x

  abbrev n : ℕ
  n = length (channels_in ks)

  parameters : n ≡ length (kept (is "PARAMETERS") ks)
  parameters = length-map (kept (is "PARAMETERS") ks) (λ k. value_of k "channel")

  n_top : n ≤ 5
  n_top = let a = few_parameters x e in omega (arith, a, parameters)

  abbrev Low : Known → Type 0
  Low k = any (leb n) (channel_named k) ≡ false

  lows : All Low ks
  unfolding table_faults
  lows =
      let a =
      append_none (used_names [] (kept (is_in "TRIGGERS") ks))
      (gathered (λ k. 10 at k.place if gap n (channels_in ks)) (kept (is "CAN_BUS") ks)
      ++ gathered (λ k. 10 at k.place if any (leb n) (channel_named k)) ks) h in
      let b =
      append_none (gathered (λ k. 10 at k.place if gap n (channels_in ks)) (kept (is "CAN_BUS") ks))
      (gathered (λ k. 10 at k.place if any (leb n) (channel_named k)) ks) a.1 in
      all_mapped (λ k. 10 at k.place if any (leb n) (channel_named k) ≡ []) Low (λ k. not_at 10 k.place (any (leb n) (channel_named k)))
      ks
      (none_gathered (λ k. 10 at k.place if any (leb n) (channel_named k)) ks b.1)

  pub cleans : All Clean ks
  unfolding first_number
  cleans =
      all_mapped (λ k. own_faults k ≡ []) Clean (λ k z. clean_law k (ap first_number z)) ks
      (none_gathered own_faults ks (faultless_parts x e).0)

  mets : All (λ k. lacks k ≡ false) ks
  mets = any_none lacks ks (faultless_parts x e).1

  triggers_in_range : all (trigger_in n) (map trigger_of (kept (is_in "TRIGGERS") ks)) ≡ true
  triggers_in_range =
      all_true (trigger_in n) trigger_of (kept (is_in "TRIGGERS") ks)
      (all_mapped (λ k. (is_in "TRIGGERS" k ≡ true) × (Clean k × Low k)) (λ k. trigger_in n (trigger_of k) ≡ true)
      (λ k z. trigger_in_lem n k z.1.0.fits z.1.0.bounds z.1.1 z.0) (kept (is_in "TRIGGERS") ks)
      (all_kept (λ k. Clean k × Low k) (is_in "TRIGGERS") ks (all_zipped Clean Low ks cleans lows)))

  abbrev filter_as : Known → Filter
  filter_as k = filter_of (sum_from 5 (channels_of k)) k

  filter_good : (k : Known) → is_in "FILTERS" k ≡ true → Clean k → lacks k ≡ false → All Low (within k) → Nested k.name (within k)
      → filter_in (2 ^ n) (filter_as k) ≡ true
  filter_good k i c l w y =
      let low = channels_low n (within k) (only_channels k i y) w in
      let s = some_inside k 5 l (filter_times k i) in
      let m = length-map (within k) (λ y. good_of (channel_of y)) in
      filter_in_lem k c.fits c.bounds (2 ^ n) (sum_from 5 (channels_of k)) (mask_low n (channels_of k) n_top (omega (arith, s, m)) low)
      (mask_below n (channels_of k) n_top low) i

  abbrev Ready : Known → Type 0
  Ready k = Clean k × ((lacks k ≡ false) × (All Low (within k) × Nested k.name (within k)))

  readies : All Ready ks
  readies =
      all_zipped Clean (λ k. (lacks k ≡ false) × (All Low (within k) × Nested k.name (within k))) ks cleans
      (all_zipped (λ k. lacks k ≡ false) (λ k. All Low (within k) × Nested k.name (within k)) ks mets
      (all_zipped (λ k. All Low (within k)) (λ k. Nested k.name (within k)) ks (all_within Low x lows)
      (all_inner [] ks (all_nested x e))))

  filters_in_range : all (filter_in (2 ^ n)) (map filter_as (kept (is_in "FILTERS") ks)) ≡ true
  filters_in_range =
      all_true (filter_in (2 ^ n)) filter_as (kept (is_in "FILTERS") ks)
      (all_mapped (λ k. (is_in "FILTERS" k ≡ true) × Ready k) (λ k. filter_in (2 ^ n) (filter_as k) ≡ true)
      (λ k z. filter_good k z.0 z.1.0 z.1.1.0 z.1.1.1.0 z.1.1.1.1) (kept (is_in "FILTERS") ks)
      (all_kept Ready (is_in "FILTERS") ks readies))

  -- a filter's channels are below 5, and it has both bounds of its length or none
  pub plain_filters : All Plain (kept (is_in "FILTERS") ks)
  plain_filters =
      all_mapped (λ k. (is_in "FILTERS" k ≡ true) × Ready k) Plain
      (λ k z. (
        low_in n 5 (channels_of k) n_top (channels_low n (within k) (only_channels k z.0 z.1.1.1.1) z.1.1.1.0),
        paired k z.1.0.fits,
      ))
      (kept (is_in "FILTERS") ks)
      (all_kept Ready (is_in "FILTERS") ks readies)

  abbrev names : List (List ℕ)
  names = names_of ks

  few_names : length names ≤ 32
  few_names = let a = few_triggers x e in let b = length-map (kept (is_in "TRIGGERS") ks) name_of in omega (arith, a, b)

  module _ (ss : List PlanStatement) (c : Composes names (kept (is "STATEMENT") ks) [] ss) where
    wholes : All Whole (kept (is "STATEMENT") ks)
    wholes = all_kept Formed (is "STATEMENT") ks (all_formed x e)

    pub codes : Coded names (kept (is "STATEMENT") ks) ss
    codes = coded names few_names (kept (is "STATEMENT") ks) [] ss wholes c refl

    many_triggers : length (map trigger_of (kept (is_in "TRIGGERS") ks)) ≡ length names
    many_triggers = length-map (kept (is_in "TRIGGERS") ks) trigger_of ∙ sym (length-map (kept (is_in "TRIGGERS") ks) name_of)

    pub is_in_range : in_range (plan_for ss ks) ≡ true
    unfolding in_range plan_for
    is_in_range =
        let a = some_parameters x e in
        let f = length-map (kept (is_in "FILTERS") ks) filter_as in
        let s = statements_in_range names few_names (kept (is "STATEMENT") ks) ss wholes codes in
        let b = few_filters x e in
        let d = few_statements x e in
        rw (← parameters, many_triggers)
        (rw (
          le-leb 1 n (omega (arith, a, parameters)),
          le-leb n 5 n_top,
          le-leb (length names) 32 few_names,
          le-leb (length (map filter_as (kept (is_in "FILTERS") ks))) 32 (omega (arith, f, b)),
          le-leb (length ss) 16 (omega (arith, s.1, d)),
          triggers_in_range,
          filters_in_range,
          s.0,
        )
        refl)

-- ---- what `convert` has written: the loader takes it, and reads it back as the plan of the file
pub record TakenBack (s ws : List ℕ) : Type 0 where
  pub document : Node
  pub statements : List PlanStatement
  pub shaped : WellShaped s document
  pub coded : Coded (names_of (known_elements document)) (kept (is "STATEMENT") (known_elements document)) statements
  pub filters : All Plain (kept (is_in "FILTERS") (known_elements document))
  pub is_plan_lem : PlanOf ws
  pub takes : (r : Maybe Layout) → Loads ws r → r ≡ Some (layout_of (plan_for statements (known_elements document)))
  pub reads_back : (p : PlanOf ws) → p.plan ≡ plan_for statements (known_elements document)

-- the parts of a judgement without faults
pub no_faults : (x : Node) (ss : List PlanStatement) → Judged x [] ss
    → (element_faults x ≡ []) × (table_faults (known_elements x) ≡ [])
    × Composes (names_of (known_elements x)) (kept (is "STATEMENT") (known_elements x)) [] ss
no_faults x ss j =
    let ks = known_elements x in
    let a = append_none (element_faults x) (table_faults ks ++ j.late) (sym j.in_order) in
    let b = append_none (table_faults ks) j.late a.1 in
    (a.0, b.0, subst (λ (l : List Fault). Composes (names_of ks) (kept (is "STATEMENT") ks) l ss) b.1 j.composed)

pub meets_plan : (s ws : List ℕ) → Meets s ws → TakenBack s ws
meets_plan s ws m =
    let x = m.document in
    let ss = m.statements in
    let f = no_faults x ss m.faultless in
    let spelt : PlanOf ws =
    record { plan = plan_for ss (known_elements x); is_in_range = is_in_range x f.0 f.1 ss f.2; words = sym m.words } in
    record {
      document = x;
      statements = ss;
      shaped = m.spells;
      coded = codes x f.0 f.1 ss f.2;
      filters = plain_filters x f.0 f.1;
      is_plan_lem = spelt;
      takes = λ r l. loads_once l (Loads.takes spelt);
      reads_back = λ p. one_plan p spelt;
    }

pub loader_takes : (s d : List ℕ) (count : ℕ) (out : List ℕ) → Converts s d (Ok count) out → TakenBack s (take count out)
loader_takes s d count out (Converts.converts ws m l) =
    subst (TakenBack s) (sym (take-append_seam ws (drop (length ws) d))) (meets_plan s ws m)
