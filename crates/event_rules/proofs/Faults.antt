-- No plan in range answers 25: its code gives a value on all states, and no other refusal has that number.
use Prim.Native.Nat.{ℕ, ◌<◌}
use mathlib.Core.Path.{◌≡◌, refl, ap, sym, ◌∙◌}
use mathlib.Core.List.{List, [], ◌∷◌, ◌++◌, map}
use mathlib.Core.Bool.{Bool, true, false, not, ◌&&◌, false≢true, and-false}
use Rattle.std.proofs.Common.{Option, None, Some}
use native.Mathlib.Omega.{arith}
use lib.ListN.{length}
use Rattle.code.specs.HeightsCode.{sound_code}
use Rattle.code.proofs.Sound.{value_of_sound}
use Rattle.records.specs.Records as plans
use Rattle.loader.specs.Plan.{Plan, statement_in, in_range}
use Rattle.event_rules.specs.Types.{Event, Refusal, Logging, Engine, Counts, Answer, Outcome}
use Rattle.event_rules.specs.Rules.{Config, Result, gives, faults, states, evaluated, acted, triggered, process}
use Rattle.event_rules.specs.Calls.{refusal_number, event_refusal, answer_refusal, unless_refused, step, statement_of, config_of, Answers, by_plan, no_plan}
use Rattle.event_rules.specs.History.{outcomes}
use Rattle.event_rules.proofs.Outcomes.{refusal_range, not_refusal, process_cases, ProcessGives, given, fails, process_gives, each_outcome}
use Rattle.lists.specs.Lists.{all}

pub refusal_below_25 : (c : Config) (en : Engine) (k : Counts) (e : Event) (r : Refusal) → event_refusal c en k e ≡ Some r
    → refusal_number r < 25
refusal_below_25 c en k e r q = omega (arith, (refusal_range c en k e r q).1)

gives_not_faults : {a : Answer} {after : Engine} → gives a after ≡ faults → ⊥
gives_not_faults q = let z : ◌≡◌ {A = ℕ} 0 1 = cc in omega arith

both : (a b : Bool) → a && b ≡ true → (a ≡ true) × (b ≡ true)
both true b p = (refl, p)
both false b p = absurd (false≢true p)

true_if : (b : Bool) → (b ≡ false → ⊥) → b ≡ true
true_if true never = refl
true_if false never = absurd (never refl)

-- the last of all tests on a statement, and on a plan
pub code_in : (t : ℕ) (s : plans.PlanStatement) → statement_in t s ≡ true → sound_code t s.code ≡ true
unfolding statement_in
code_in t s ok = true_if (sound_code t s.code) (λ e. false≢true (rw (e, and-false) at ok))

pub statements_in_range : (p : Plan) → in_range p ≡ true → all (statement_in (length p.triggers)) p.statements ≡ true
unfolding in_range
statements_in_range p ok = true_if (all (statement_in (length p.triggers)) p.statements) (λ e. false≢true (rw (e, and-false) at ok))

-- all expressions of such statements have values
values : (t : ℕ) (ss : List plans.PlanStatement) → all (statement_in t) ss ≡ true → (now : List Bool)
    → (vs : List Bool) × (evaluated (map statement_of ss) now ≡ Some vs)
unfolding all evaluated
values t [] ok now = ([], refl)
values t (s ∷ ss) ok now =
    let oks = both (statement_in t s) (all (statement_in t) ss) ok in
    let v = value_of_sound t s.code (code_in t s oks.0) now in
    let vs = values t ss oks.1 now in
    (v.0 ∷ vs.0, rw (v.1, vs.1))

module _ (p : Plan) (ok : in_range p ≡ true) (en : Engine) where
  triggered_runs : (e : Event) (l : Logging) → triggered (config_of p) en l e ≡ faults → ⊥
  unfolding triggered
  triggered_runs e l q =
      let vs =
      values (length p.triggers) p.statements (statements_in_range p ok) (states p.triggers (not en.started) e en.fired) in
      let gone : acted (config_of p) en l e (Some vs.0) ≡ faults = rw vs.1 at q in
      gives_not_faults gone

  pub never_faults : (e : Event) → process (config_of p) en e ≡ faults → ⊥
  never_faults e = process_cases (λ r. r ≡ faults → ⊥) (config_of p) en e (λ l w. gives_not_faults) (triggered_runs e)

  pub never_25 : (k : Counts) (e : Event) → answer_refusal (step (config_of p) en k e).answer ≡ Some (25, 0) → ⊥
  unfolding step
  never_25 k e = go (event_refusal (config_of p) en k e) refl (process_gives (config_of p) en e) (never_faults e)
    where
      go : (o : Option Refusal) → event_refusal (config_of p) en k e ≡ o → {r : Result} → ProcessGives e r → (r ≡ faults → ⊥)
          → answer_refusal (unless_refused o en k r).answer ≡ Some (25, 0) → ⊥
      go None s (given w after) runs q = let z = sym (not_refusal e w) ∙ q in cc
      go None s fails runs q = runs refl
      go (Some x) s g runs q =
          let same : ◌≡◌ {A = ℕ × ℕ} (refusal_number x, 0) (25, 0) = cc in
          omega (arith, refusal_below_25 (config_of p) en k e x s, ap (λ (m : ℕ × ℕ). m.0) same)

-- so no history of such a plan has 25 among its answers
pub history_never_25 : (p : Plan) → in_range p ≡ true
    → (en : Engine) (k : Counts) (es : List Event) (before : List Outcome) (o : Outcome) (behind : List Outcome)
    → outcomes (config_of p) en k es ≡ before ++ (o ∷ behind) → answer_refusal o.answer ≡ Some (25, 0) → ⊥
history_never_25 p ok =
    each_outcome (λ x. answer_refusal x.answer ≡ Some (25, 0) → ⊥) (config_of p) (never_25 p ok)

-- and no event call answers 25
pub call_never_25 : {ws : List ℕ} {en : Engine} {k : Counts} {e : Event} {o : Outcome} → Answers ws en k e o
    → answer_refusal o.answer ≡ Some (25, 0) → ⊥
call_never_25 {ws} {en} {k} {e} (by_plan p) q = never_25 p.plan p.is_in_range en k e q
call_never_25 (no_plan none) q =
    let z : ◌≡◌ {A = ℕ × ℕ} (20, 0) (25, 0) = cc in
    omega (arith, ap (λ (m : ℕ × ℕ). m.0) z)
