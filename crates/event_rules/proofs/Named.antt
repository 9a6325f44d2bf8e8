-- The refusals that the rules give are those with a name. `Other` is for a number that no rule gives: no event is refused by it.
use Prim.Native.Nat.{ℕ, ◌≤◌}
use mathlib.Core.Path.{◌≡◌, refl, ap, sym, ◌∙◌}
use mathlib.Core.List.{List, ◌∷◌, ◌++◌}
use mathlib.Core.Bool.{Bool, true, false, cond}
use Rattle.std.proofs.Common.{Option, None, Some}
use lib.Dec.{leb}
use Rattle.lists.specs.Lists.{Every}
use native.Mathlib.Omega.{arith}
use Rattle.event_rules.specs.Types.{Event, frame, tick, Refusal, NoPlan, NoChannel, BadTime, OutOfRange, CountsFull, CodeFault, Other, Engine, Counts, Outcome}
use Rattle.event_rules.specs.declared.Answer.TheVariants as answers
use Rattle.event_rules.specs.Rules.{Config, Result}
use Rattle.event_rules.specs.Calls.{late, out_of_range, full, refusal_number, refusal_at, Named, refusal_from, event_refusal, answer_refusal, unless_refused, step, Answers, by_plan, no_plan}
use Rattle.event_rules.specs.History.{outcomes, CallsInTurn, over, call}
use Rattle.event_rules.proofs.Outcomes.{not_refusal, ProcessGives, given, fails, process_gives, each_outcome}

-- its number is one of the paper's, and tells which it is
pub named_number : (r : Refusal) → Named r → (20 ≤ refusal_number r) × (refusal_number r ≤ 25)
named_number NoPlan h = omega arith
named_number NoChannel h = omega arith
named_number BadTime h = omega arith
named_number OutOfRange h = omega arith
named_number CountsFull h = omega arith
named_number CodeFault h = omega arith
named_number (Other n) h = absurd (h n refl)

pub named_again : (r : Refusal) → Named r → refusal_at (refusal_number r) ≡ r
named_again NoPlan h = refl
named_again NoChannel h = refl
named_again BadTime h = refl
named_again OutOfRange h = refl
named_again CountsFull h = refl
named_again CodeFault h = refl
named_again (Other n) h = absurd (h n refl)

-- ---- the refusals of an event on a plan
abbrev AllNamed : Option Refusal → Type 0
AllNamed o = (r : Refusal) → o ≡ Some r → Named r

none_named : AllNamed None
none_named r q = cc

or_named : (b : Bool) (r : Refusal) (o : Option Refusal) → Named r → AllNamed o → AllNamed (cond b (Some r) o)
or_named true r o h g s q = let e : r ≡ s = cc in rw (← e) h
or_named false r o h g s q = g s q

pub refusal_named : (channels last : ℕ) (k : Counts) (e : Event) (r : Refusal) → refusal_from channels last k e ≡ Some r → Named r
refusal_named channels last k (frame f) =
    or_named (leb channels f.channel) _ _ (λ n q. cc)
    (or_named (late last f.time) _ _ (λ n q. cc)
    (or_named (out_of_range f) _ _ (λ n q. cc)
    (or_named (full k) _ None (λ n q. cc) none_named)))
refusal_named channels last k (tick u) = or_named (late last u) _ None (λ n q. cc) none_named

-- ---- and those of an answer
pub answer_named : (c : Config) (en : Engine) (k : Counts) (e : Event) (r : Refusal) → (step c en k e).answer ≡ answers.Refused r → Named r
unfolding step
answer_named c en k e r = go (event_refusal c en k e) refl (process_gives c en e)
  where
    go : (o : Option Refusal) → event_refusal c en k e ≡ o → {x : Result} → ProcessGives e x
        → (unless_refused o en k x).answer ≡ answers.Refused r → Named r
    go None s (given w after) q = let z = sym (not_refusal e w) ∙ ap answer_refusal q in cc
    go None s fails q = let same : CodeFault ≡ r = cc in rw (← same) (λ n z. cc)
    go (Some x) s g q = let same : x ≡ r = cc in rw (← same) (refusal_named c.channels en.last k e x s)

pub history_named : (c : Config) (en : Engine) (k : Counts) (es : List Event) (before : List Outcome) (o : Outcome) (behind : List Outcome)
    → outcomes c en k es ≡ before ++ (o ∷ behind) → (r : Refusal) → o.answer ≡ answers.Refused r → Named r
history_named c = each_outcome (λ x. (r : Refusal) → x.answer ≡ answers.Refused r → Named r) c (answer_named c)

pub call_named : {ws : List ℕ} {en : Engine} {k : Counts} {e : Event} {o : Outcome} → Answers ws en k e o
    → (r : Refusal) → o.answer ≡ answers.Refused r → Named r
call_named {ws} {en} {k} {e} (by_plan p) r q = answer_named _ en k e r q
call_named (no_plan none) r q = λ n z. cc

pub calls_named : {ws : List ℕ} {en : Engine} {k : Counts} {es : List Event} {os : List Outcome} → CallsInTurn ws en k es os
    → Every (λ o. (r : Refusal) → o.answer ≡ answers.Refused r → Named r) os
unfolding Every
calls_named (over en k) = tt
calls_named (call en k e es o os now next) = (call_named now, calls_named next)
