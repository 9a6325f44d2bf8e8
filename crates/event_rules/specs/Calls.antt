-- An event call: its refusals, its counts, and what a plan lent to it gives ("Refusal numbers" 20 to 25 of paper 01).
use Rattle.std.specs.Prelude.{ℕ, ◌+◌, ◌/◌, ◌%◌, ◌^◌, List, map, Bool, false, not, ◌&&◌, ◌||◌, cond, replicate, leb, ltb, eqb, Option, None, Some, ◌≡◌}
use Rattle.code.specs.Code.{value_on}
use Rattle.records.specs.Records as plans
use Rattle.records.specs.Records.{id_top, dlc_top}
use Rattle.loader.specs.Plan.{Plan, PlanOf}
use Rattle.event_rules.specs.Types.{Filter, Frame, Event, frame, tick, Off, Engine, Counts, Refusal, NoPlan, NoChannel, BadTime, OutOfRange, CountsFull, CodeFault, Other, Answer, Outcome}
use Rattle.event_rules.specs.declared.Answer.TheVariants.{Recorded, Idle, Stopped, Halted, Ticked, Refused}
use Rattle.event_rules.specs.Rules.{Statement, MessageFilter, Config, Result, gives, faults, process}

-- Fresh: Off, nothing fired, all expressions false, counts 0, last time 0.
abbrev pub fresh : Engine
fresh =
    record { logging = Off; fired = replicate 32 (record { ever = false; at = 0 }); truth = replicate 16 false; started = false; last = 0 }

abbrev pub no_counts : Counts
no_counts = record { recorded = 0; idle = 0; stopped = 0; halted = 0 }

-- 22: time below the last accepted, or above 10^16
abbrev pub late : ℕ → ℕ → Bool
late last u = ltb u last || ltb 10000000000000000 u

-- 23: identifier out of range or dlc above 8; an error frame's are not looked at
abbrev pub out_of_range : Frame → Bool
out_of_range f = not f.error && (ltb (id_top f.ext) f.id || ltb dlc_top f.dlc)

-- 24: the four counts already sum to 4,294,967,295 or more
abbrev pub full : Counts → Bool
full k = leb 4294967295 (k.recorded + k.idle + k.stopped + k.halted)

-- the paper's number for each refusal
abbrev pub refusal_number : Refusal → ℕ
refusal_number r = elim r [ NoPlan ↦ 20 | NoChannel ↦ 21 | BadTime ↦ 22 | OutOfRange ↦ 23 | CountsFull ↦ 24 | CodeFault ↦ 25 | Other n ↦ n ]

-- the refusal of a number: 20 to 25 are the named ones, any other is Other
abbrev pub refusal_at : ℕ → Refusal
refusal_at n =
    cond (eqb n 20) NoPlan
    (cond (eqb n 21) NoChannel
    (cond (eqb n 22) BadTime (cond (eqb n 23) OutOfRange (cond (eqb n 24) CountsFull (cond (eqb n 25) CodeFault (Other n))))))

-- a refusal with a name: any but Other
abbrev pub Named : Refusal → Type 0
Named r = (n : ℕ) → r ≡ Other n → ⊥

-- 21 to 24 in number order, for ticks only 22
abbrev pub frame_refusal : ℕ → ℕ → Counts → Frame → Option Refusal
frame_refusal n last k f =
    cond (leb n f.channel) (Some NoChannel)
    (cond (late last f.time) (Some BadTime)
    (cond (out_of_range f) (Some OutOfRange)
    (cond (full k) (Some CountsFull) None)))

abbrev pub refusal_from : ℕ → ℕ → Counts → Event → Option Refusal
refusal_from n last k (frame f) = frame_refusal n last k f
refusal_from n last k (tick u) = cond (late last u) (Some BadTime) None

abbrev pub event_refusal : Config → Engine → Counts → Event → Option Refusal
event_refusal c en k e = refusal_from c.channels en.last k e

-- four counts (Recorded, Idle, Stopped, Halted) are the numbers of such answers
abbrev pub counted : Counts → Answer → Counts
counted k Recorded = record { recorded = k.recorded + 1; idle = k.idle; stopped = k.stopped; halted = k.halted }
counted k Idle = record { recorded = k.recorded; idle = k.idle + 1; stopped = k.stopped; halted = k.halted }
counted k Stopped = record { recorded = k.recorded; idle = k.idle; stopped = k.stopped + 1; halted = k.halted }
counted k Halted = record { recorded = k.recorded; idle = k.idle; stopped = k.stopped; halted = k.halted + 1 }
counted k Ticked = k
counted k (Refused r) = k

-- the paper's refusal number and place for each answer
abbrev pub answer_refusal : Answer → Option (ℕ × ℕ)
answer_refusal a =
    elim a [ Recorded ↦ None | Idle ↦ None | Stopped ↦ None | Halted ↦ None | Ticked ↦ None | Refused r ↦ Some (refusal_number r, 0) ]

-- a refused event changes nothing
abbrev pub refused : Refusal → Engine → Counts → Outcome
refused r en k = record { answer = Refused r; engine = en; counts = k }

-- 25: expression code fault while running
abbrev pub closed : Engine → Counts → Result → Outcome
closed en k faults = refused CodeFault en k
closed en k (gives a after) = record { answer = a; engine = after; counts = counted k a }

-- 21 to 24, else what the rules give
abbrev pub unless_refused : Option Refusal → Engine → Counts → Result → Outcome
unless_refused None en k gave = closed en k gave
unless_refused (Some r) en k gave = refused r en k

unfoldable pub step : Config → Engine → Counts → Event → Outcome
step c en k e = unless_refused (event_refusal c en k e) en k (process c en e)

-- ---- the configuration of a plan: its expressions are its code, run on the triggers' states
abbrev pub statement_of : plans.PlanStatement → Statement
statement_of s = record { post = s.post; actions = s.actions; holds = λ states. value_on states s.code }

-- "sum of 2^channel", "dlc lower, dlc upper"
abbrev pub filter_rule : Filter → MessageFilter
filter_rule x = record {
  effect = x.effect;
  on = λ channel. eqb (x.mask / 2 ^ channel % 2) 1;
  ext = x.ext;
  lower = x.lower;
  upper = x.upper;
  covers = λ dlc. leb x.shortest dlc && leb dlc x.longest;
}

abbrev pub config_of : Plan → Config
config_of p =
    record {
      channels = p.channels;
      log_all = p.log_all;
      triggers = p.triggers;
      filters = map filter_rule p.filters;
      statements = map statement_of p.statements;
    }

-- an event call lent words that the loader would not take gives 20; else the rules decide
pub data Answers (ws : List ℕ) (en : Engine) (k : Counts) (e : Event) : Outcome → Type 0 where
  by_plan : (p : PlanOf ws) → Answers ws en k e (step (config_of p.plan) en k e)
  no_plan : (PlanOf ws → ⊥) → Answers ws en k e (refused NoPlan en k)
