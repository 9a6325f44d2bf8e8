-- "The plan" of paper 01, record by record: what each says, its words and its ranges.
use Rattle.std.specs.Prelude.{ℕ, zero, suc, ◌+◌, ◌^◌, List, [], ◌∷◌, ◌++◌, map, Bool, true, false, ◌&&◌, cond, length, leb, ltb, eqb}
use Rattle.lists.specs.Lists.{any}
use Rattle.records.specs.declared.Cause.{Cause}
use Rattle.records.specs.declared.Cause.TheVariants.{Id, Length, Error, Startup}
use Rattle.records.specs.declared.Timeout.{Timeout}
use Rattle.records.specs.declared.Timeout.TheVariants.{Forever, Ms}
use Rattle.records.specs.declared.Trigger.{Trigger}
use Rattle.records.specs.declared.Effect.{Effect}
use Rattle.records.specs.declared.Effect.TheVariants.{Pass, Stop}
use Rattle.records.specs.declared.Filter.{Filter}
use Rattle.records.specs.declared.Action.{Action}
use Rattle.records.specs.declared.Action.TheVariants.{StartLog, StopLog, StopLogCompletely}

-- the first word of every plan
abbrev pub newest : ℕ
newest = 1

-- the largest length code
abbrev pub dlc_top : ℕ
dlc_top = 8

pub record PlanStatement : Type 0 where
  pub post : ℕ
  pub actions : List Action
  pub code : List ℕ

-- ---- the words
abbrev pub flag : Bool → ℕ
flag b = elim b [ false ↦ 0 | true ↦ 1 ]

-- -1 as 4,294,967,295
abbrev pub timeout_word : Timeout → ℕ
timeout_word x = elim x [ Forever ↦ 4294967295 | Ms t ↦ t ]

-- each trigger: kind (1 id, 2 length, 3 error, 4 startup), channel, timeout, ext, lower, upper; what a kind lacks is 0
abbrev pub cause_words : ℕ → Cause → List ℕ
cause_words timeout (Id channel ext lower upper) = 1 ∷ channel ∷ timeout ∷ flag ext ∷ lower ∷ upper ∷ []
cause_words timeout (Length channel lower upper) = 2 ∷ channel ∷ timeout ∷ 0 ∷ lower ∷ upper ∷ []
cause_words timeout (Error channel) = 3 ∷ channel ∷ timeout ∷ 0 ∷ 0 ∷ 0 ∷ []
cause_words timeout Startup = 4 ∷ 0 ∷ timeout ∷ 0 ∷ 0 ∷ 0 ∷ []

abbrev pub trigger_words : Trigger → List ℕ
trigger_words t = cause_words (timeout_word t.timeout) t.cause

abbrev pub effect_word : Effect → ℕ
effect_word x = elim x [ Pass ↦ 1 | Stop ↦ 2 ]

-- "sum of 2^channel", "a repeat adds nothing": of the channels below n that are among cs
unfoldable pub sum_from : ℕ → List ℕ → ℕ
sum_from zero cs = 0
sum_from (suc c) cs = cond (any (eqb c) cs) (2 ^ c) 0 + sum_from c cs

-- each filter: kind (1 pass, 2 stop), sum of 2^channel, ext, id lower, id upper, dlc lower, dlc upper
abbrev pub filter_words : Filter → List ℕ
filter_words x = effect_word x.effect ∷ x.mask ∷ flag x.ext ∷ x.lower ∷ x.upper ∷ x.shortest ∷ x.longest ∷ []

-- actions: 1 start, 2 stop, 3 stop completely
abbrev pub action_word : Action → ℕ
action_word x = elim x [ StartLog ↦ 1 | StopLog ↦ 2 | StopLogCompletely ↦ 3 ]

-- each statement: posttrigger, number of actions, number of code words, actions, code
abbrev pub statement_words : PlanStatement → List ℕ
statement_words s = s.post ∷ length s.actions ∷ length s.code ∷ (map action_word s.actions ++ s.code)

-- ---- the ranges
abbrev pub timeout_in : Timeout → Bool
timeout_in x = elim x [ Forever ↦ true | Ms t ↦ leb t 1000000000 ]

abbrev pub id_top : Bool → ℕ
id_top ext = elim ext [ false ↦ 2047 | true ↦ 536870911 ]

-- channels below n, lower bounds not above upper
abbrev pub cause_in : ℕ → Cause → Bool
cause_in n (Id channel ext lower upper) = ltb channel n && leb lower upper && leb upper (id_top ext)
cause_in n (Length channel lower upper) = ltb channel n && leb lower upper && leb upper dlc_top
cause_in n (Error channel) = ltb channel n
cause_in n Startup = true

abbrev pub trigger_in : ℕ → Trigger → Bool
trigger_in n t = timeout_in t.timeout && cause_in n t.cause

-- a mask from 1 to 2^n - 1, `masks` being 2^n
unfoldable pub filter_in : ℕ → Filter → Bool
filter_in masks x =
    leb 1 x.mask && ltb x.mask masks && leb x.lower x.upper && leb x.upper (id_top x.ext)
    && leb x.shortest x.longest && leb x.longest dlc_top
