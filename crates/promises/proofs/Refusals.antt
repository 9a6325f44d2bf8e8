-- Demand 1: refused exactly if the rules refuse so, and then nothing is changed.
use Prim.Native.Nat.{ℕ, ◌/◌, ◌%◌, ◌≤◌}
use native.Mathlib.Omega.{arith}
use mathlib.Core.Path.{◌≡◌, refl, sym, ap, ◌∙◌, subst}
use mathlib.Core.Logic.{◌↔◌}
use mathlib.Core.Option.{none, some, none-ne-some}
use Rattle.std.proofs.Common.{Option, None, Some}
use mathlib.Core.List.{List}
use lib.ListN.{length}
use Rattle.lists.specs.Lists.{Every}
use Rattle.loader.specs.declared.Layout.{Layout}
use Rattle.loader.specs.Plan.{PlanOf, Loads, load_refusal}
use Rattle.std.specs.Prelude.{Ok, Err}
use Rattle.file_rules.specs.RefusalCode.{refused_at}
use Rattle.converter.specs.Converter.{Refuses, Converts, convert_answer, Converted}
use Rattle.converter.proofs.Once.{one_converted}
use Rattle.read_back.proofs.Places.{refusal_top, places}
use Rattle.converter_c.specs.Calls.{packed, Converting, converting}
use Rattle.converter_c.proofs.Packing.{words_told, refused_told, one_converting}
use Rattle.event_rules.specs.declared.Event.{Event}
use Rattle.event_rules.specs.declared.Refusal.{Refusal}
use Rattle.event_rules.specs.declared.Refusal.TheVariants.{NoPlan}
use Rattle.event_rules.specs.declared.Engine.{Engine}
use Rattle.event_rules.specs.declared.Counts.{Counts}
use Rattle.event_rules.specs.declared.Answer.TheVariants as answers
use Rattle.event_rules.specs.declared.Outcome.{Outcome}
use Rattle.event_rules.specs.Rules.{Config, Result}
use Rattle.event_rules.specs.Calls.{refusal_number, refused, unless_refused, step, event_refusal, answer_refusal, config_of, Answers}
use Rattle.event_rules.specs.History.{CallsInTurn}
use Rattle.event_rules.proofs.Outcomes.{refusal_range, ProcessGives, given, fails, process_gives, not_refusal}
use Rattle.event_rules.proofs.HistoryLaws.{answers_once}
use Rattle.event_rules.proofs.Faults.{never_25}
use Rattle.event_rules.proofs.Named.{call_named}
use Rattle.logger_c.specs.Calls.{Loading}
use Rattle.promises.specs.Promises.{Rejects, AboutFiles, AboutConverting, AboutEvents}

-- ---- files
module _ (s d : List ℕ) where
  refuses_so : (r : Converted) (out : List ℕ) → Converts s d r out → (n p : ℕ) → convert_answer r ≡ (n, p) → 1 ≤ n → Refuses s (length d) n p
  refuses_so r out (Converts.refuses u a) n p e h =
      subst (λ (z : ℕ × ℕ). Refuses s (length d) z.0 z.1) e a
  refuses_so r out (Converts.converts ws m l) n p e h = absurd (omega (arith, h, ap (λ (z : ℕ × ℕ). z.0) e))

  module _ (r : Converted) (out : List ℕ) (h : Converts s d r out) where
    -- the answer where the rules refuse
    so_answered : (n p : ℕ) → Refuses s (length d) n p → (r ≡ Err (refused_at n p)) × (out ≡ d)
    so_answered n p a = one_converted s d r (Err (refused_at n p)) out d h (Converts.refuses (refused_at n p) a)

    pub about_files : AboutFiles s d r out
    about_files = record {
      exactly = λ n p. (
        λ e. refuses_so r out h n p e.0 e.1,
        λ a. (ap convert_answer (so_answered n p a).0, (refusal_top s (length d) n p a).0),
      );
      stays = λ n p a. (so_answered n p a).1;
      only = λ r' out' g. one_converted s d r r' out out' h g;
    }

  -- ---- the same from C
  told_refused : (a : Converted) (out : List ℕ) → Converts s d a out → (n p : ℕ) → packed a / 4294967296 ≡ n → packed a % 4294967296 ≡ p
      → 1 ≤ n → Refuses s (length d) n p
  told_refused (Ok m) out h n p e g l = absurd (omega (arith, e, l, (words_told s d m out h).0))
  told_refused (Err u) out h n p e g l =
      let t = refused_told s d u.number u.place out h in
      refuses_so (Err u) out h n p (λ i. ((sym t.0 ∙ e) i, (sym t.1 ∙ g) i)) l

  told_words : (a : Converted) (out : List ℕ) → Converts s d a out → (n : ℕ) → packed a / 4294967296 ≡ 0 → packed a % 4294967296 ≡ n
      → Converts s d (Ok n) out
  told_words (Ok m) out h n e g =
      subst (λ (k : ℕ). Converts s d (Ok k) out) (sym (words_told s d m out h).1 ∙ g) h
  told_words (Err u) out h n e g =
      absurd (omega (arith, e, (refused_told s d u.number u.place out h).0, (places s d u.number u.place out h).0))

  pub about_converting : (r : ℕ) (out : List ℕ) → Converting s d r out → AboutConverting s d r out
  about_converting r out (converting a _ h) = record {
    exactly = λ n p. (
      λ e. told_refused a out h n p e.0 e.1 e.2,
      λ z.
          let q = (so_answered a out h n p z).0 in
          let t = refused_told s d n p d (Converts.refuses (refused_at n p) z) in (
            ap (λ (b : Converted). packed b / 4294967296) q ∙ t.0,
            ap (λ (b : Converted). packed b % 4294967296) q ∙ t.1,
            (refusal_top s (length d) n p z).0,
          ),
    );
    words = λ n. (
      λ e. told_words a out h n e.0 e.1,
      λ z.
          let q = (one_converted s d a (Ok n) out out h z).0 in
          let t = words_told s d n out z in
          (ap (λ (b : Converted). packed b / 4294967296) q ∙ t.0, ap (λ (b : Converted). packed b % 4294967296) q ∙ t.1),
    );
    stays = λ n p z. (so_answered a out h n p z).1;
    only = λ r' out' g. one_converting s d (packed a) r' out out' (converting a out h) g;
  }

-- ---- plans
pub about_plans : (ws : List ℕ) (r : Option Layout) → Loads ws r
    → ((load_refusal r ≡ some (20, 0)) ↔ (PlanOf ws → ⊥)) × ((load_refusal r ≡ none) ↔ PlanOf ws)
about_plans ws r (Loads.takes p) =
    ((λ e. absurd (none-ne-some (20, 0) e), λ n. absurd (n p)), (λ e. p, λ q. refl))
about_plans ws r (Loads.refuses n) =
    ((λ e. n, λ m. refl), (λ e. absurd (none-ne-some (20, 0) (sym e)), λ p. absurd (n p)))

pub about_loading : (ws : List ℕ) (r : ℕ) → Loading ws r → ((r ≡ 20) ↔ (PlanOf ws → ⊥)) × ((r ≡ 0) ↔ PlanOf ws)
about_loading ws r (Loading.taken p) = ((λ e. absurd (omega (arith, e)), λ n. absurd (n p)), (λ e. p, λ q. refl))
about_loading ws r (Loading.refused n) = ((λ e. n, λ m. refl), (λ e. absurd (omega (arith, e)), λ p. absurd (n p)))

-- ---- events
same_number : (r : Refusal) (n : ℕ) → answer_refusal (answers.Refused r) ≡ Some (n, 0) → n ≡ refusal_number r
same_number r n g =
    let q : ◌≡◌ {A = ℕ × ℕ} (refusal_number r, 0) (n, 0) = cc in
    ap (λ (p : ℕ × ℕ). p.0) (sym q)

module _ (c : Config) (en : Engine) (k : Counts) (e : Event) where
  -- the number of the answer is that of the rules' refusal, but for 25
  step_refusal : (n : ℕ) → (answer_refusal (step c en k e).answer ≡ Some (25, 0) → ⊥) → answer_refusal (step c en k e).answer ≡ Some (n, 0)
      → (r : Refusal) × (event_refusal c en k e ≡ Some r) × (n ≡ refusal_number r)
  unfolding step
  step_refusal n never q = go (event_refusal c en k e) (process_gives c en e) never q
    where
      go : (o : Option Refusal) {x : Result} → ProcessGives e x → (answer_refusal (unless_refused o en k x).answer ≡ Some (25, 0) → ⊥)
          → answer_refusal (unless_refused o en k x).answer ≡ Some (n, 0) → (r : Refusal) × (o ≡ Some r) × (n ≡ refusal_number r)
      go None (given w after) h g = let z = sym (not_refusal e w) ∙ g in cc
      go None fails h g = absurd (h refl)
      go (Some r) y h g = (r, refl, same_number r n g)

  step_refused : (r : Refusal) → event_refusal c en k e ≡ Some r → step c en k e ≡ refused r en k
  unfolding step
  step_refused r q = rw q

module _ (ws : List ℕ) (en : Engine) (k : Counts) (e : Event) where
  rejected : (o : Outcome) (n : ℕ) → Answers ws en k e o → Rejects ws en k e n
      → (r : Refusal) × (n ≡ refusal_number r) × (o ≡ refused r en k)
  rejected o n a (Rejects.no_plan h q) = (NoPlan, q, answers_once a (Answers.no_plan h))
  rejected o n a (Rejects.by_rules p r q h) = (r, h, answers_once a (Answers.by_plan p) ∙ step_refused (config_of p.plan) en k e r q)

  rejects : (o : Outcome) (n : ℕ) → Answers ws en k e o → answer_refusal o.answer ≡ Some (n, 0) → Rejects ws en k e n
  rejects o n (Answers.by_plan p) g =
      let r = step_refusal (config_of p.plan) en k e n (never_25 p.plan p.is_in_range en k e) g in
      Rejects.by_rules p r.0 r.1 r.2
  rejects o n (Answers.no_plan h) g = Rejects.no_plan h (same_number NoPlan n g)

  pub about_events : (o : Outcome) → Answers ws en k e o → AboutEvents ws en k e o
  about_events o a = record {
    exactly = λ n. (
      rejects o n a,
      λ r.
          let q = rejected o n a r in
          ap (λ (x : Outcome). answer_refusal x.answer) q.2 ∙ ap (λ (m : ℕ). Some (m, 0)) (sym q.1),
    );
    named = call_named a;
    stays = λ n r. let q = (rejected o n a r).2 in (ap (λ (x : Outcome). x.engine) q, ap (λ (x : Outcome). x.counts) q);
    only = λ o' b. answers_once a b;
  }

  pub record_kept : (after : Counts) (o : Outcome) → Answers ws en k e o → after ≡ o.counts → (n : ℕ)
      → Rejects ws en k e n → after ≡ k
  record_kept after o a h n r = h ∙ ap (λ (x : Outcome). x.counts) (rejected o n a r).2

  rejects_range : (n : ℕ) → Rejects ws en k e n → (20 ≤ n) × (n ≤ 24)
  rejects_range n (Rejects.no_plan h q) = (omega (arith, q), omega (arith, q))
  rejects_range n (Rejects.by_rules p r q h) =
      let s = refusal_range (config_of p.plan) en k e r q in
      (omega (arith, h, s.0), omega (arith, h, s.1))

-- on any history the refusals are 20 to 24
pub numbers_in : (ws : List ℕ) (en : Engine) (k : Counts) (es : List Event) (os : List Outcome) → CallsInTurn ws en k es os
    → Every (λ o. (n : ℕ) → answer_refusal o.answer ≡ Some (n, 0) → (20 ≤ n) × (n ≤ 24)) os
unfolding Every
numbers_in ws en k es os (CallsInTurn.over en₁ k₁) = tt
numbers_in ws en k es os (CallsInTurn.call en₁ k₁ e es₁ o os₁ now next) =
    (λ n g. rejects_range ws en k e n (rejects ws en k e o n now g), numbers_in ws o.engine o.counts es₁ os₁ next)
