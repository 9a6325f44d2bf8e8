-- Histories: calls in turn give what the rules give, the four counts are the numbers of such answers, their sum is the frames accepted,
-- and a refused event changes nothing.
use Prim.Native.Nat.{ℕ, ◌+◌}
use mathlib.Core.Path.{◌≡◌, refl, ap, sym, ◌∙◌}
use mathlib.Core.List.{List, [], ◌∷◌}
use native.Mathlib.Omega.{arith}
use Rattle.loader.specs.Plan.{Loads, takes, refuses}
use Rattle.std.specs.Prelude.{Option as Maybe}
use Rattle.loader.specs.declared.Layout.{Layout}
use Rattle.loader.proofs.Exact.{one_plan, loads}
use Rattle.event_rules.specs.Types.{Event, frame, tick, Refusal, Engine, Counts, Outcome}
use Rattle.event_rules.specs.declared.Answer.TheVariants as answers
use Rattle.event_rules.specs.Rules.{Config}
use Rattle.event_rules.specs.Calls.{counted, answer_refusal, step, config_of, Answers, by_plan, no_plan}
use Rattle.event_rules.specs.History.{outcomes, CallsInTurn, over, call, counted_all, counts_after, sum_of, accepted, accepted_frames}
use Rattle.event_rules.proofs.Outcomes.{recorded, idle, stopped, halted, not_refusal, StepGives, refuses, accepts, step_gives}

-- ---- one event
module _ {en : Engine} {k : Counts} where
  gives_counted : {e : Event} {o : Outcome} → StepGives en k e o → o.counts ≡ counted k o.answer
  gives_counted (refuses n) = refl
  gives_counted (accepts w after) = refl

  gives_sum : (e : Event) {o : Outcome} → StepGives en k e o → sum_of o.counts ≡ sum_of k + accepted e (answer_refusal o.answer)
  gives_sum (frame f) (refuses n) = omega arith
  gives_sum (frame f) (accepts recorded after) = omega arith
  gives_sum (frame f) (accepts idle after) = omega arith
  gives_sum (frame f) (accepts stopped after) = omega arith
  gives_sum (frame f) (accepts halted after) = omega arith
  gives_sum (tick u) (refuses n) = omega arith
  gives_sum (tick u) (accepts w after) = omega arith

  gives_unchanged : (e : Event) {o : Outcome} (r : Refusal) → StepGives en k e o → o.answer ≡ answers.Refused r
      → (o.engine ≡ en) × (o.counts ≡ k)
  gives_unchanged e r (refuses x) p = (refl, refl)
  gives_unchanged e r (accepts w after) p = let q = sym (not_refusal e w) ∙ ap answer_refusal p in cc

module _ (c : Config) (en : Engine) (k : Counts) (e : Event) where
  pub refused_changes_nothing : (r : Refusal) → (step c en k e).answer ≡ answers.Refused r
      → ((step c en k e).engine ≡ en) × ((step c en k e).counts ≡ k)
  refused_changes_nothing r p = gives_unchanged e r (step_gives c en e k) p

-- ---- any history
pub counts_history : (c : Config) (en : Engine) (k : Counts) (es : List Event)
    → counts_after k (outcomes c en k es) ≡ counted_all k (outcomes c en k es)
unfolding outcomes counts_after counted_all
counts_history c en k [] = refl
counts_history c en k (e ∷ es) =
    counts_history c (step c en k e).engine (step c en k e).counts es
    ∙ ap (λ (x : Counts). counted_all x (outcomes c (step c en k e).engine (step c en k e).counts es))
    (gives_counted (step_gives c en e k))

pub sum_history : (c : Config) (en : Engine) (k : Counts) (es : List Event)
    → sum_of (counts_after k (outcomes c en k es)) ≡ sum_of k + accepted_frames es (outcomes c en k es)
unfolding outcomes counts_after accepted_frames
sum_history c en k [] = omega arith
sum_history c en k (e ∷ es) =
    omega (arith, gives_sum e (step_gives c en e k), sum_history c (step c en k e).engine (step c en k e).counts es)

-- ---- event calls
pub answers_once : {ws : List ℕ} {en : Engine} {k : Counts} {e : Event} {o o' : Outcome} → Answers ws en k e o → Answers ws en k e o'
    → o ≡ o'
answers_once {ws} {en} {k} {e} (by_plan p) (by_plan q) = ap (λ x. step (config_of x) en k e) (one_plan p q)
answers_once (by_plan p) (no_plan none) = absurd (none p)
answers_once (no_plan none) (by_plan q) = absurd (none q)
answers_once (no_plan none) (no_plan none') = refl

answers_there : (ws : List ℕ) (en : Engine) (k : Counts) (e : Event) → (o : Outcome) × Answers ws en k e o
answers_there ws en k e = go (loads ws)
  where
    go : {r : Maybe Layout} → Loads ws r → (o : Outcome) × Answers ws en k e o
    go (takes p) = (_, by_plan p)
    go (refuses none) = (_, no_plan none)

pub chain_there : (ws : List ℕ) (en : Engine) (k : Counts) (es : List Event) → (os : List Outcome) × CallsInTurn ws en k es os
chain_there ws en k [] = ([], over en k)
chain_there ws en k (e ∷ es) =
    let now = answers_there ws en k e in
    let next = chain_there ws now.0.engine now.0.counts es in
    (now.0 ∷ next.0, call en k e es now.0 next.0 now.1 next.1)

-- calls in turn give what the rules give, where each call answers as they do for a configuration
module _ (ws : List ℕ) (c : Config)
    (same : (en : Engine) (k : Counts) (e : Event) (o : Outcome) → Answers ws en k e o → o ≡ step c en k e) where
  pub chain_is : {en : Engine} {k : Counts} {es : List Event} {os : List Outcome} → CallsInTurn ws en k es os → os ≡ outcomes c en k es
  unfolding outcomes
  chain_is (over en k) = refl
  chain_is (call en k e es o os now next) =
      ap (λ (x : List Outcome). o ∷ x) (chain_is next)
      ∙ ap (λ (x : Outcome). x ∷ outcomes c x.engine x.counts es) (same en k e o now)
