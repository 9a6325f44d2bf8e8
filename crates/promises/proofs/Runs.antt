-- A plan that `convert` wrote runs as the file's own configuration does.
use Prim.Native.Nat.{ℕ}
use native.Mathlib.Omega.{arith}
use mathlib.Core.Path.{◌≡◌, refl, sym, ap, fun_ext, ◌∙◌, subst}
use mathlib.Core.List.{List, [], ◌∷◌, map}
use mathlib.Core.Bool.{Bool, true}
use mathlib.Core.Option.{none}
use lib.ListN.{length, take}
use borrow.Author.Tests.{le-leb}
use Rattle.lists.specs.Lists.{all, Every}
use Rattle.lists.proofs.Cases.{by_cases}
use Rattle.lists.proofs.Parts.{and_left, and_right}
use Rattle.shape.specs.Shape.{Node, WellShaped}
use Rattle.shape.proofs.OneDoc.{one_doc}
use Rattle.std.specs.Prelude.{Option, Some}
use Rattle.code.specs.Code.{Runs}
use Rattle.code.proofs.Sound.{sound_code_lem}
use Rattle.records.specs.Records.{PlanStatement, sum_from}
use Rattle.loader.specs.declared.Layout.{Layout}
use Rattle.loader.specs.Plan.{PlanOf, Loads, load_refusal, statement_in}
use Rattle.grammar.specs.Tree.{Expression, mean}
use Rattle.grammar.specs.Outcome.{state_of}
use Rattle.grammar.proofs.Ruled.{only_tree}
use Rattle.grammar.proofs.Loads.{GoodCode}
use Rattle.file_rules.specs.Element.{Known, value_of, has}
use Rattle.file_rules.specs.Reading.{is, filter_of}
use Rattle.file_rules.specs.Document.{known_elements}
use Rattle.file_rules.specs.Tables.{kept, is_in, channels_of, actions_of, expression_of, names_of}
use Rattle.document.proofs.Stood.{All}
use Rattle.std.specs.Prelude.{Ok}
use Rattle.converter.specs.Converter.{plan_for, Converts}
use Rattle.read_back.proofs.Takes.{Plain, Coded, TakenBack, loader_takes}
use Rattle.event_rules.specs.declared.Event.{Event}
use Rattle.event_rules.specs.declared.Engine.{Engine}
use Rattle.event_rules.specs.declared.Counts.{Counts}
use Rattle.event_rules.specs.declared.Outcome.{Outcome}
use Rattle.event_rules.specs.Rules.{Statement, MessageFilter, Config}
use Rattle.event_rules.specs.Calls.{step, statement_of, filter_rule, config_of, Answers}
use Rattle.event_rules.proofs.Faults.{code_in, statements_in_range}
use Rattle.event_rules.proofs.Filters.{on_channels}
use Rattle.event_rules.proofs.HistoryLaws.{chain_is}
use Rattle.replay.proofs.Replays.{replay_is}
use Rattle.promises.specs.Own.{own_filter, SaysStatement, SaysStatements, Says}
use Rattle.promises.specs.Promises.{SameRun}

-- ---- filters: the mask is on the channels that the CHANNELs name, the two bounds cover the lengths that the file says
abbrev written : Known → MessageFilter
written k = filter_rule (filter_of (sum_from 5 (channels_of k)) k)

module _ (k : Known) (p : Plain k) where
  on_same : (written k).on ≡ (own_filter k).on
  unfolding filter_of
  on_same = fun_ext (on_channels (filter_of (sum_from 5 (channels_of k)) k) (channels_of k) p.0 refl)

  covers_same : (written k).covers ≡ (own_filter k).covers
  unfolding filter_of
  covers_same =
      fun_ext (λ dlc. by_cases (has k "dlc") (λ t. rw (t, sym p.1 ∙ t))
      (λ t. rw (t, sym p.1 ∙ t, le-leb 0 dlc (omega arith))))

  filter_same : written k ≡ own_filter k
  unfolding filter_of
  filter_same = λ i. record {
    effect = (own_filter k).effect;
    on = on_same i;
    ext = (own_filter k).ext;
    lower = (own_filter k).lower;
    upper = (own_filter k).upper;
    covers = covers_same i;
  }

filters_same : (ks : List Known) → All Plain ks → map filter_rule (map (λ k. filter_of (sum_from 5 (channels_of k)) k) ks) ≡ map own_filter ks
filters_same [] h = refl
filters_same (k ∷ ks) h = λ i. filter_same k h.0 i ∷ filters_same ks h.1 i

-- ---- statements: the code's value is what the tree says of the triggers by their names
module _ (names : List (List ℕ)) where
  abbrev made : Known → List ℕ → Statement
  made k code = statement_of (record { post = value_of k "posttrigger"; actions = actions_of k; code = code })

  statement_same : (k : Known) (code : List ℕ) (s : Statement) → GoodCode names (expression_of k) code → SaysStatement names k s
      → made k code ≡ s
  statement_same k code s g o =
      let h : (made k code).holds ≡ s.holds =
      fun_ext (λ states. g.value states
      ∙ ap (λ (e : Expression (List ℕ)). Some (mean e (state_of names states))) (only_tree g.reads o.written)
      ∙ sym (o.holds states)) in
      λ i. record { post = sym o.post i; actions = sym o.actions i; holds = h i }

  statements_same : (ks : List Known) (ss : List PlanStatement) (ts : List Statement) → Coded names ks ss → SaysStatements names ks ts
      → map statement_of ss ≡ ts
  statements_same [] ss ts Coded.over SaysStatements.over = refl
  statements_same (k ∷ ks) ss ts (Coded.next k₁ code ks₁ ss₁ g more) (SaysStatements.next k₂ t ks₂ ts₁ o rest) =
      let a : made k code ≡ t = statement_same k code t g o in
      let b : map statement_of ss₁ ≡ ts₁ = statements_same ks ss₁ ts₁ more rest in
      λ i. a i ∷ b i

  statements_own : (ks : List Known) (ss : List PlanStatement) → Coded names ks ss → SaysStatements names ks (map statement_of ss)
  statements_own [] ss Coded.over = SaysStatements.over
  statements_own (k ∷ ks) ss (Coded.next k₁ code ks₁ ss₁ g more) =
      SaysStatements.next k (made k code) ks (map statement_of ss₁)
      (record { tree = g.tree; written = g.reads; post = refl; actions = refl; holds = g.value }) (statements_own ks ss₁ more)

-- ---- the configuration of the plan that was written
module _ (s ws : List ℕ) (b : TakenBack s ws) where
  abbrev ks : List Known
  ks = known_elements b.document

  abbrev ran : Config
  ran = config_of (plan_for b.statements ks)

  -- it is the document's own
  ran_is : (c : Config) → Says ks c → ran ≡ c
  unfolding plan_for
  ran_is c o =
      let f : ran.filters ≡ c.filters = filters_same (kept (is_in "FILTERS") ks) b.filters ∙ sym o.filters in
      let g : ran.statements ≡ c.statements =
      statements_same (names_of ks) (kept (is "STATEMENT") ks) b.statements c.statements b.coded o.statements in
      λ i. record {
        channels = sym o.channels i;
        log_all = sym o.log_all i;
        triggers = sym o.triggers i;
        filters = f i;
        statements = g i;
      }

  ran_says : Says ks ran
  unfolding plan_for
  ran_says = record {
    channels = refl;
    log_all = refl;
    triggers = refl;
    filters = filters_same (kept (is_in "FILTERS") ks) b.filters;
    statements = statements_own (names_of ks) (kept (is "STATEMENT") ks) b.statements b.coded;
  }

  read_as : (c : Config) → Says ks c → (p : PlanOf ws) → config_of p.plan ≡ c
  read_as c o p = ap config_of (b.reads_back p) ∙ ran_is c o

  module _ (c : Config) (o : Says ks c) where
    call_same : (en : Engine) (k : Counts) (e : Event) (r : Outcome) → Answers ws en k e r → r ≡ step c en k e
    call_same en k e r (Answers.by_plan p) = ap (λ (y : Config). step y en k e) (read_as c o p)
    call_same en k e r (Answers.no_plan n) = absurd (n b.is_plan_lem)

    same_run : SameRun ws c
    same_run = record {
      call = call_same;
      calls = λ es os h. chain_is ws c call_same h;
      replay = λ events k out after h. replay_is ws events k out after c (read_as c o) b.is_plan_lem h;
    }

-- ---- demand 3
module _ (s d : List ℕ) (n : ℕ) (out : List ℕ) (h : Converts s d (Ok n) out) where
  abbrev back : TakenBack s (take n out)
  back = loader_takes s d n out h

  module _ (x : Node) (w : WellShaped s x) where
    its_document : back.document ≡ x
    its_document = one_doc s back.document x back.shaped w

    pub own_config : (c : Config) × Says (known_elements x) c
    own_config =
        let c = ran s (take n out) back in
        (c, subst (λ (y : Node). Says (known_elements y) c) its_document (ran_says s (take n out) back))

    pub same_run_as : (c : Config) → Says (known_elements x) c → SameRun (take n out) c
    same_run_as c o = same_run s (take n out) back c (subst (λ (y : Node). Says (known_elements y) c) (sym its_document) o)

  pub plan_taken : (r : Option Layout) → Loads (take n out) r → load_refusal r ≡ none
  plan_taken r l = ap load_refusal (back.takes r l)

-- code that the loader takes
codes : (t : ℕ) (ss : List PlanStatement) → all (statement_in t) ss ≡ true → Every (λ y. (v : ℕ → Bool) → Runs v y.code) ss
unfolding all Every
codes t [] h = tt
codes t (y ∷ ss) h =
    let a = and_left (statement_in t y) (all (statement_in t) ss) h in
    let b = and_right (statement_in t y) (all (statement_in t) ss) h in
    (sound_code_lem t y.code (code_in t y a), codes t ss b)

pub safe_codes : (ws : List ℕ) (p : PlanOf ws) → Every (λ y. (v : ℕ → Bool) → Runs v y.code) p.plan.statements
safe_codes ws p = codes (length p.plan.triggers) p.plan.statements (statements_in_range p.plan p.is_in_range)
