-- "One event" of paper 01: its rules over a configuration, in its order and words. A plan gives one configuration, a file's own tables
-- another.
use Rattle.std.specs.Prelude.{ℕ, ◌+◌, ◌*◌, Bool, true, false, not, ◌&&◌, ◌||◌, cond, length, drop, leb, ltb, eqb, Option, None, Some}
use mathlib.Core.List.{List, [], ◌∷◌, ◌++◌, zip_with}
use Rattle.std.specs.Bool.{beq}
use Rattle.event_rules.specs.Types.{Cause, Id, Length, Error, Startup, Timeout, Forever, Ms, Trigger, Effect, Pass, Stop, Action, StartLog, StopLog, StopLogCompletely, Frame, Event, frame, tick, Logging, Off, On, Ending, EndingCompletely, Halted, Firing, Engine, Answer}
use Rattle.event_rules.specs.declared.Answer.TheVariants as answers
use Rattle.event_rules.specs.declared.Answer.TheVariants.{Recorded, Idle}

-- `holds` evaluates the statement's expression on the triggers' states; None is a fault of its code
pub record Statement : Type 0 where
  pub post : ℕ
  pub actions : List Action
  pub holds : List Bool → Option Bool

-- A message filter: the channels it is on and the length codes it covers are told by predicates.
pub record MessageFilter : Type 0 where
  pub effect : Effect
  pub on : ℕ → Bool
  pub ext : Bool
  pub lower : ℕ
  pub upper : ℕ
  pub covers : ℕ → Bool

pub record Config : Type 0 where
  pub channels : ℕ
  pub log_all : Bool
  pub triggers : List Trigger
  pub filters : List MessageFilter
  pub statements : List Statement

-- the time of an event: a frame or a tick (`Event`, in src/lib.rt)
abbrev pub time_of : Event → ℕ
time_of (frame f) = f.time
time_of (tick u) = u

-- a tick answers Ticked, whatever a frame would answer
abbrev pub answering : Event → Answer → Answer
answering (frame f) a = a
answering (tick u) a = answers.Ticked

-- 1. If halted: a frame answers Halted, a tick Ticked; nothing else but time and count changes.
abbrev pub is_halted : Logging → Bool
is_halted l = elim l [ Off ↦ false | On ↦ false | Ending e ↦ false | EndingCompletely e ↦ false | Halted ↦ true ]

-- 2. If ending at e and time u >= e: Off, or Halted after a complete stop (then as 1).
abbrev pub ended_by : ℕ → Logging → Logging
ended_by u Off = Off
ended_by u On = On
ended_by u (Ending e) = cond (leb e u) Off (Ending e)
ended_by u (EndingCompletely e) = cond (leb e u) Halted (EndingCompletely e)
ended_by u Halted = Halted

-- 3. A message filter matches non-error frames of its ext with id and dlc in range.
unfoldable pub matches : Frame → MessageFilter → Bool
matches f x = not f.error && beq x.ext f.ext && leb x.lower f.id && leb f.id x.upper && x.covers f.dlc

abbrev pub is_pass : Effect → Bool
is_pass Pass = true
is_pass Stop = false

-- the filters on a channel, in order: the pass filters or the stop filters
unfoldable pub filters_on : Bool → ℕ → List MessageFilter → List MessageFilter
filters_on pass channel [] = []
filters_on pass channel (x ∷ xs) =
    cond (beq (is_pass x.effect) pass && x.on channel) (x ∷ filters_on pass channel xs) (filters_on pass channel xs)

unfoldable pub first_match : Frame → List MessageFilter → Option Effect
first_match f [] = None
first_match f (x ∷ xs) = cond (matches f x) (Some x.effect) (first_match f xs)

-- No match: stopped if the channel has a pass filter, else passed.
abbrev pub decides : Option Effect → List MessageFilter → Bool
decides (Some e) passing = is_pass e
decides None [] = true
decides None (x ∷ passing) = false

-- Filter a frame: pass filters on its channel in order, then stop filters; the first match decides.
unfoldable pub passes : List MessageFilter → Event → Bool
passes xs (tick u) = true
passes xs (frame f) =
    decides (first_match f (filters_on true f.channel xs ++ filters_on false f.channel xs)) (filters_on true f.channel xs)

-- 5. Triggers fire: id and length triggers on non-error frames of their channel in range (id also by ext), error triggers on error frames,
-- startup on the first event to come here.
unfoldable pub fires : Bool → Event → Cause → Bool
fires first e Startup = first
fires first (tick u) (Id channel ext lower upper) = false
fires first (tick u) (Length channel lower upper) = false
fires first (tick u) (Error channel) = false
fires first (frame f) (Id channel ext lower upper) =
    not f.error && eqb channel f.channel && beq ext f.ext && leb lower f.id && leb f.id upper
fires first (frame f) (Length channel lower upper) = not f.error && eqb channel f.channel && leb lower f.dlc && leb f.dlc upper
fires first (frame f) (Error channel) = f.error && eqb channel f.channel

-- a later event at u, if its last firing t has u < t + 1000 x timeout, or the timeout is -1
abbrev pub lasts : ℕ → Firing → Timeout → Bool
lasts u l Forever = l.ever
lasts u l (Ms timeout) = l.ever && ltb u (l.at + 1000 * timeout)

-- A trigger is true during the event that fires it, and at such a later event; `ls` are the last firings.
unfoldable pub states : List Trigger → Bool → Event → List Firing → List Bool
states ts first e ls = zip_with (λ t l. fires first e t.cause || lasts (time_of e) l t.timeout) ts ls

unfoldable pub firings : List Trigger → Bool → Event → List Firing → List Firing
firings ts first e ls = zip_with (λ t l. cond (fires first e t.cause) (record { ever = true; at = time_of e }) l) ts ls
    ++ drop (length ts) ls

-- 6. All expressions are evaluated.
abbrev pub and_then : Option Bool → Option (List Bool) → Option (List Bool)
and_then None vs = None
and_then (Some v) None = None
and_then (Some v) (Some vs) = Some (v ∷ vs)

unfoldable pub evaluated : List Statement → List Bool → Option (List Bool)
evaluated [] now = Some []
evaluated (s ∷ ss) now = and_then (s.holds now) (evaluated ss now)

-- Start: Off or ending becomes On. Stop: On becomes ending at u + 1000 x posttrigger. Complete stop: Off becomes Halted; On becomes ending
-- completely at that time; ending keeps its e and becomes ending completely. Every other pair changes nothing.
abbrev pub act : ℕ → Action → Logging → Logging
act end a Off = elim a [ StartLog ↦ On | StopLog ↦ Off | StopLogCompletely ↦ Halted ]
act end a On = elim a [ StartLog ↦ On | StopLog ↦ Ending end | StopLogCompletely ↦ EndingCompletely end ]
act end a (Ending e) = elim a [ StartLog ↦ On | StopLog ↦ Ending e | StopLogCompletely ↦ EndingCompletely e ]
act end a (EndingCompletely e) = EndingCompletely e
act end a Halted = Halted

unfoldable pub act_all : ℕ → List Action → Logging → Logging
act_all end [] l = l
act_all end (a ∷ rest) l = act_all end rest (act end a l)

-- A statement whose expression is true now and was false at its last evaluation (it rose) does its actions; statements in file order.
unfoldable pub actions : List Statement → ℕ → List Bool → Logging → Logging
actions [] u rose l = l
actions (s ∷ ss) u [] l = l
actions (s ∷ ss) u (r ∷ rose) l = actions ss u rose (cond r (act_all (u + 1000 * s.post) s.actions l) l)

-- 7. A frame answers Recorded if On or ending, else Idle.
abbrev pub recorded_or_idle : Logging → Answer
recorded_or_idle l = elim l [ Off ↦ Idle | On ↦ Recorded | Ending e ↦ Recorded | EndingCompletely e ↦ Recorded | Halted ↦ Idle ]

-- ---- the steps in order: what an event gives that is not refused, or that its code is at fault
pub data Result : Type 0 where
  gives : Answer → Engine → Result
  faults : Result

-- 7, where an ending with e <= u is now Off or Halted
abbrev pub settled : Config → Engine → Event → List Bool → Logging → Result
settled c en e now l = gives (answering e (recorded_or_idle l)) (record {
  logging = l;
  fired = firings c.triggers (not en.started) e en.fired;
  truth = now ++ drop (length now) en.truth;
  started = true;
  last = time_of e;
})

-- 6
abbrev pub acted : Config → Engine → Logging → Event → Option (List Bool) → Result
acted c en l e None = faults
acted c en l e (Some now) =
    settled c en e now (ended_by (time_of e) (actions c.statements (time_of e) (zip_with (λ v was. v && not was) now en.truth) l))

-- 5
unfoldable pub triggered : Config → Engine → Logging → Event → Result
triggered c en l e = acted c en l e (evaluated c.statements (states c.triggers (not en.started) e en.fired))

-- an event that goes no further
abbrev pub answered : Engine → Logging → Event → Answer → Result
answered en l e a =
    gives (answering e a) (record { logging = l; fired = en.fired; truth = en.truth; started = en.started; last = time_of e })

-- 1, 3 and 4: under log_all a passed frame answers Recorded; a tick Ticked; triggers are not run
abbrev pub process_from : Config → Engine → Event → Logging → Result
process_from c en e l =
    cond (is_halted l) (answered en l e answers.Halted)
    (cond (not (passes c.filters e)) (answered en l e answers.Stopped)
    (cond c.log_all (answered en l e Recorded)
    (triggered c en l e)))

unfoldable pub process : Config → Engine → Event → Result
process c en e = process_from c en e (ended_by (time_of e) en.logging)
