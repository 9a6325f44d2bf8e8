-- Which case of the rules an event is, from what the functions gave.
use Prim.Native.Nat.{ℕ, zero, suc, ◌+◌, ◌-◌, ◌≤◌, ◌<◌}
use mathlib.Core.Path.{◌≡◌, refl, ap, sym, ◌∙◌, subst}
use mathlib.Core.List.{List, [], ◌++◌, map, zip_with}
use mathlib.Core.Bool.{Bool, true, false, not, ◌&&◌, ◌||◌, cond}
use Rattle.std.proofs.Common.{Option, None, Some}
use native.Mathlib.Omega.{arith}
use native.Mathlib.Nat.{sub-zero}
use lib.ListN.{length, get_or, drop, replicate, length-replicate, length-map, length-append, length-drop}
use lib.Dec.{leb, ltb}
use borrow.Author.Tests.{leb-false, le-leb, ltb-false}
use Rattle.records.specs.RecordsCode.{trigger_size, trigger_at, statement_size, statement_at}
use Rattle.loader.specs.Plan.{Plan}
use Rattle.loader.specs.declared.Layout.{Layout}
use Rattle.engine.specs.RowsCode.{rows_of}
use Rattle.engine.proofs.RowsLaws.{few_rows}
use Rattle.event_rules.specs.declared.Event.{Event}
use Rattle.event_rules.specs.declared.Event.TheVariants.{Frame as frame, Tick as tick}
use Rattle.event_rules.specs.declared.Logging.{Logging}
use Rattle.event_rules.specs.declared.Firing.{Firing}
use Rattle.event_rules.specs.declared.Engine.{Engine}
use Rattle.event_rules.specs.declared.Counts.{Counts}
use Rattle.event_rules.specs.declared.Refusal.{Refusal}
use Rattle.event_rules.specs.declared.Refusal.TheVariants.{NoChannel, BadTime, OutOfRange, CountsFull, CodeFault}
use Rattle.event_rules.specs.declared.Answer.{Answer}
use Rattle.event_rules.specs.declared.Answer.TheVariants as answers
use Rattle.event_rules.specs.Rules.{Config, time_of, answering, is_halted, ended_by, recorded_or_idle, passes, states, firings, evaluated, actions, acted, triggered, answered, process, Result, gives, faults}
use Rattle.event_rules.specs.Calls.{statement_of, config_of, late, out_of_range, full, refusal_from, event_refusal, counted, refused, closed, step}
use Rattle.engine.specs.TriggersCode.{fire_all, none_fired, kept}
use Rattle.engine.specs.declared.triggers.Fired.{Fired}
use Rattle.engine.proofs.TriggersTies.{hits, all_fired, all_kept}
use Rattle.engine.specs.StatementsCode.{evaluate_all, act_risen, in_time}
use Rattle.engine.proofs.StatementsTies.{Evaluates, all_evaluated, evaluated_length, all_acted, acts_only, evaluated_padded}
use Rattle.engine.specs.EventCode.{triggers_read, statements_read, engine_of, HasRoom, event_counted, Reached, reached_by, answered_at, settled_at, reached}
use Rattle.engine.specs.declared.event.Running.{Running}
use Rattle.engine.specs.declared.event.Stepped.{Stepped}

drop_falses : (n m : ℕ) → drop n (replicate m false) ≡ replicate (m - n) false
drop_falses zero m = rw sub-zero refl
drop_falses (suc n) zero = let e : 0 - suc n ≡ 0 = omega arith in rw e refl
drop_falses (suc n) (suc m) = let e : suc m - suc n ≡ m - n = omega arith in rw e (drop_falses n m)

-- ---- what is read off words
module _ (ws : List ℕ) where
  pub few_triggers : length (triggers_read ws) ≤ 32
  few_triggers = few_rows trigger_size trigger_at 32 (get_or ws 3 0) (drop 6 ws)

  pub fires_from : (first : Bool) (e : Event) (ls : List Firing) (n : ℕ) (rest : List ℕ) → n ≡ get_or ws 3 0 → rest ≡ drop 6 ws
      → fire_all (rows_of trigger_size trigger_at 32 n rest) first e ls 0 none_fired ≡ fire_all (triggers_read ws) first e ls 0 none_fired
  fires_from first e ls n rest b c = rw (b, c)

  module _ (lay : Layout) where
    pub few_statements : length (statements_read ws lay) ≤ 16
    few_statements = few_rows statement_size statement_at 16 (get_or ws 5 0) (drop lay.statements ws)

    module _ (n : ℕ) (rest : List ℕ) where
      pub evaluates_in : (st : List Bool) (r : List Bool) → n ≡ get_or ws 5 0 → rest ≡ drop lay.statements ws
          → evaluate_all (map statement_of (rows_of statement_size statement_at 16 n rest)) st 0 r
          ≡ evaluate_all (map statement_of (statements_read ws lay)) st 0 r
      evaluates_in st r b c = rw (b, c)

      pub acts_in : (u : ℕ) (was now : List Bool) (l : Logging) → n ≡ get_or ws 5 0 → rest ≡ drop lay.statements ws
          → in_time u (act_risen (map statement_of (rows_of statement_size statement_at 16 n rest)) u was now 0 l) l
          ≡ in_time u (act_risen (map statement_of (statements_read ws lay)) u was now 0 l) l
      acts_in u was now l b c = rw (b, c)

timely : (u : ℕ) (acted l : Logging) → u ≤ 10000000000000000 → in_time u acted l ≡ acted
timely u acted l h = rw (le-leb u 10000000000000000 h)

-- ---- steps 5 to 7
module _ (p : Plan) (s : Running) (ls : List Firing) (l : Logging) (e : Event) (few_triggers : length p.triggers ≤ 32)
    (few_statements : length p.statements ≤ 16)
    (many_truths : length s.truth ≡ 16) (many_fired : length ls ≡ 32)
    (fired : Fired) (fires : fired ≡ fire_all p.triggers (not s.started) e ls 0 none_fired) where
  abbrev en : Engine
  en = engine_of s ls

  abbrev now_true : List Bool
  now_true = states p.triggers (not s.started) e ls

  abbrev fires_then : List Bool
  fires_then = hits (not s.started) e p.triggers ++ replicate (32 - length p.triggers) false

  fired_is : fired ≡ record { fires = fires_then; states = now_true ++ replicate (32 - length p.triggers) false }
  fired_is =
      fires
      ∙ all_fired (not s.started) e p.triggers [] ls [] (replicate 32 false) [] (replicate 32 false) 0 refl refl refl
      (omega arith) (omega (arith, length-replicate 32 false)) (omega (arith, length-replicate 32 false))
      ∙ rw (drop_falses (length p.triggers) 32) refl

  module _ (ev : Option (List Bool)) (evaluates : ev ≡ evaluate_all (map statement_of p.statements) fired.states 0 s.truth) where
    ev_is : Evaluates (evaluated (map statement_of p.statements) now_true) [] s.truth ev
    ev_is =
        rw (← evaluated_padded p.statements now_true (32 - length p.triggers))
        (subst (λ (x : Option (List Bool)). Evaluates (evaluated (map statement_of p.statements)
        (now_true ++ replicate (32 - length p.triggers) false)) [] s.truth x)
        (sym (evaluates ∙ ap (λ (x : Fired). evaluate_all (map statement_of p.statements) x.states 0 s.truth) fired_is))
        (all_evaluated (map statement_of p.statements) (now_true ++ replicate (32 - length p.triggers) false) [] s.truth 0 refl
        (omega (arith, length-map p.statements statement_of))))

    of_fault : (o : Option (List Bool)) → Evaluates o [] s.truth ev → ev ≡ None
        → record { answer = answers.Refused CodeFault; engine = en } ≡ reached en (acted (config_of p) en l e o)
    of_fault None h n = refl
    of_fault (Some now) h n = cc

    pub trigger_faults : ev ≡ None
        → record { answer = answers.Refused CodeFault; engine = en } ≡ reached en (triggered (config_of p) en l e)
    unfolding triggered
    trigger_faults n = of_fault (evaluated (map statement_of p.statements) now_true) ev_is n

    module _ (truth : List Bool) (there : ev ≡ Some truth) (u : ℕ) (eu : u ≡ time_of e) (acts : Logging)
        (early : time_of e ≤ 10000000000000000)
        (e0 : acts ≡ in_time u (act_risen (map statement_of p.statements) u s.truth truth 0 l) l)
        (after : List Firing) (keeps : after ≡ kept fired.fires u ls) where
      acts_is : (now : List Bool) → truth ≡ now ++ drop (length now) s.truth → length now ≡ length p.statements
          → acts ≡ actions (map statement_of p.statements) (time_of e) (zip_with (λ v was. v && not was) now s.truth) l
      acts_is now h n =
          rw eu at e0
          ∙ timely (time_of e) _ l early
          ∙ ap (λ (x : List Bool). act_risen (map statement_of p.statements) (time_of e) s.truth x 0 l) h
          ∙ all_acted (map statement_of p.statements) (time_of e) s.truth (now ++ drop (length now) s.truth) 0 l
          (omega (arith, length-map p.statements statement_of))
          (simp (length-append, length-drop) (omega (arith, length-map p.statements statement_of)))
          ∙ acts_only (map statement_of p.statements) (time_of e) now (drop (length now) s.truth) s.truth l
          (n ∙ sym (length-map p.statements statement_of))

      kept_is : after ≡ firings p.triggers (not s.started) e ls
      kept_is =
          keeps
          ∙ ap (λ (x : Fired). kept x.fires u ls) fired_is
          ∙ ap (λ (x : ℕ). kept fires_then x ls) eu
          ∙ all_kept (not s.started) e p.triggers (32 - length p.triggers) ls (omega arith)

      of_end : (o : Option (List Bool)) → evaluated (map statement_of p.statements) now_true ≡ o → Evaluates o [] s.truth ev
          → reached_by (settled_at truth acts e) after ≡ reached en (acted (config_of p) en l e o)
      of_end None q h = cc
      of_end (Some now) q h =
          let is : truth ≡ now ++ drop (length now) s.truth = cc in
          rw (← acts_is now is (evaluated_length (map statement_of p.statements) _ now q ∙ length-map p.statements statement_of))
          (λ i. record {
            answer = answering e (recorded_or_idle (ended_by (time_of e) acts));
            engine = record { logging = ended_by (time_of e) acts; fired = kept_is i; truth = is i; started = true; last = time_of e };
          })

      pub trigger_ends : (r : Stepped) → r ≡ settled_at truth acts e
          → reached_by r after ≡ reached en (triggered (config_of p) en l e)
      unfolding triggered
      trigger_ends r q = ap (λ (x : Stepped). reached_by x after) q
          ∙ of_end (evaluated (map statement_of p.statements) now_true) refl ev_is

-- ---- steps 1 to 4
pub answers_by : (s : Running) (ls : List Firing) (l : Logging) (e : Event) (a : Answer) (r : Stepped) → r ≡ answered_at s l e a
    → reached_by r ls ≡ reached (engine_of s ls) (answered (engine_of s ls) l e a)
answers_by s ls l e a r q = ap (λ (x : Stepped). reached_by x ls) q

module _ (c : Config) (en : Engine) (e : Event) (u : ℕ) (eu : u ≡ time_of e) (l : Logging) (el : l ≡ ended_by u en.logging) where
  is_now : ended_by (time_of e) en.logging ≡ l
  is_now = sym (rw eu at el)

  pub process_halted : is_halted l ≡ true → reached en (answered en l e answers.Halted) ≡ reached en (process c en e)
  unfolding process
  process_halted h = rw (is_now, h)

  module _ (h : is_halted l ≡ false) where
    pub process_stopped : not (passes c.filters e) ≡ true → reached en (answered en l e answers.Stopped) ≡ reached en (process c en e)
    unfolding process
    process_stopped s = rw (is_now, h, s)

    module _ (s : not (passes c.filters e) ≡ false) where
      pub process_all : c.log_all ≡ true → reached en (answered en l e answers.Recorded) ≡ reached en (process c en e)
      unfolding process
      process_all a = rw (is_now, h, s, a)

      pub process_runs : c.log_all ≡ false → reached en (triggered c en l e) ≡ reached en (process c en e)
      unfolding process
      process_runs a = rw (is_now, h, s, a)

-- ---- refusals
or_right : (a b : Bool) → (a || b) ≡ false → b ≡ false
or_right true b p = cc
or_right false b p = p

in_time_lem : (last u : ℕ) → late last u ≡ false → u ≤ 10000000000000000
in_time_lem last u e = ltb-false 10000000000000000 u (or_right (ltb u last) (ltb 10000000000000000 u) e)

pub full_room : (k : Counts) → full k ≡ false → k.recorded + k.idle + k.stopped + k.halted < 4294967295
full_room k e = leb-false 4294967295 (k.recorded + k.idle + k.stopped + k.halted) e

-- what an accepted event tells
pub record Accepted (k : Counts) (e : Event) : Type 0 where
  pub time : time_of e ≤ 10000000000000000
  pub room : HasRoom k e

pub accepted : (n last : ℕ) (k : Counts) (e : Event) → refusal_from n last k e ≡ None → Accepted k e
accepted n last k (frame f) p = go (leb n f.channel) (late last f.time) (out_of_range f) (full k) refl refl p
  where
    go : (a b d x : Bool) → late last f.time ≡ b → full k ≡ x
        → cond a (Some NoChannel) (cond b (Some BadTime) (cond d (Some OutOfRange) (cond x (Some CountsFull) None))) ≡ None
        → Accepted k (frame f)
    go true b d x pb px q = cc
    go false true d x pb px q = cc
    go false false true x pb px q = cc
    go false false false true pb px q = cc
    go false false false false pb px q = record { time = in_time_lem last f.time pb; room = px }
accepted n last k (tick u) p = go (late last u) refl p
  where
    go : (b : Bool) → late last u ≡ b → ◌≡◌ {A = Option Refusal} (cond b (Some BadTime) None) None → Accepted k (tick u)
    go true pb q = cc
    go false pb q = record { time = in_time_lem last u pb; room = tt }

-- no tick is counted
module _ (c : Config) (en : Engine) (k : Counts) (u : ℕ) where
  tick_acted : (l : Logging) (o : Option (List Bool)) → counted k (reached en (acted c en l (tick u) o)).answer ≡ k
  tick_acted l None = refl
  tick_acted l (Some now) = refl

  tick_by : (l : Logging) (h p a : Bool)
      → counted k
      (reached en (cond h (answered en l (tick u) answers.Halted)
      (cond p (answered en l (tick u) answers.Stopped) (cond a (answered en l (tick u) answers.Recorded) (triggered c en l (tick u)))))
      ).answer ≡ k
  unfolding triggered
  tick_by l true p a = refl
  tick_by l false true a = refl
  tick_by l false false true = refl
  tick_by l false false false = tick_acted l (evaluated c.statements (states c.triggers (not en.started) (tick u) en.fired))

  tick_uncounted : (s : Reached) → s ≡ reached en (process c en (tick u)) → k ≡ counted k s.answer
  unfolding process
  tick_uncounted s q =
      sym
      (ap (λ (x : Reached). counted k x.answer) q
      ∙ tick_by (ended_by u en.logging) (is_halted (ended_by u en.logging)) (not (passes c.filters (tick u))) c.log_all)

module _ (c : Config) (en : Engine) (k : Counts) where
  counted_is : (e : Event) (s : Reached) → s ≡ reached en (process c en e) → event_counted k e s.answer ≡ counted k s.answer
  counted_is (frame f) s q = refl
  counted_is (tick u) s q = tick_uncounted c en k u s q

  module _ (e : Event) where
    pub step_refused : (o : Option Refusal) (r : Refusal) → o ≡ event_refusal c en k e → o ≡ Some r → refused r en k ≡ step c en k e
    unfolding step
    step_refused o r q z = rw (← q, z)

    closes : (r : Result) (s : Reached) (after : Counts) → s ≡ reached en r → after ≡ counted k s.answer
        → record { answer = s.answer; engine = s.engine; counts = after } ≡ closed en k r
    closes faults s after q m =
        rw m (ap (λ (x : Reached). record { answer = x.answer; engine = x.engine; counts = counted k x.answer }) q)
    closes (gives a en2) s after q m =
        rw m (ap (λ (x : Reached). record { answer = x.answer; engine = x.engine; counts = counted k x.answer }) q)

    pub step_goes : event_refusal c en k e ≡ None → (s : Reached) (after : Counts) → s ≡ reached en (process c en e)
        → after ≡ event_counted k e s.answer
        → record { answer = s.answer; engine = s.engine; counts = after } ≡ step c en k e
    unfolding step
    step_goes z s after q m = rw z (closes (process c en e) s after q (m ∙ counted_is e s q))
