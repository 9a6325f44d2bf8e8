-- Each kind of record: its words are taken and read back, and what is taken is what was read, written.
use Prim.Native.Nat.{ℕ, zero, suc, ◌+◌, ◌≤◌}
use mathlib.Core.Path.{◌≡◌, refl, ap, sym, ◌∙◌}
use mathlib.Core.List.{List, [], ◌∷◌, ◌++◌, map, append_assoc}
use mathlib.Core.Bool.{Bool, true, false, ◌&&◌, and-true, false≢true}
use native.Mathlib.Omega.{arith}
use lib.ListN.{length, get_or, drop, length-append, length-map, take-append-drop, length-drop}
use lib.Seq.{drop-drop, take_at, drop_at, take-append_seam, length-take-le}
use lib.Dec.{leb, eqb}
use borrow.Author.Tests.{leb-true, ne_eqb}
use Rattle.code.specs.HeightsCode.{sound_code}
use Rattle.records.specs.Records.{PlanStatement, flag, timeout_word, cause_words, trigger_words, effect_word, filter_words, action_word, statement_words, timeout_in, cause_in, trigger_in, filter_in}
use Rattle.loader.specs.Plan.{statement_in}
use Rattle.records.specs.RecordsCode.{timeout_at, cause_at, trigger_at, effect_at, filter_at, action_at, actions_at, code_at, statement_at, trigger_size, filter_size, statement_size}
use Rattle.std.specs.List.{list_all, starts_with}
use Rattle.std.proofs.lemmas.Slice.Eq.{starts_is}
use Rattle.std.proofs.lemmas.Bool.Decides.{Decides-eqb}
use Rattle.loader.specs.ScanCode.{trigger_ok, filter_ok, action_ok, statement_ok}
use Rattle.records.specs.declared.Cause.{Cause}
use Rattle.records.specs.declared.Cause.TheVariants.{Id, Length, Error, Startup}
use Rattle.records.specs.declared.Timeout.{Timeout}
use Rattle.records.specs.declared.Timeout.TheVariants.{Forever, Ms}
use Rattle.records.specs.declared.Trigger.{Trigger}
use Rattle.records.specs.declared.Effect.{Effect}
use Rattle.records.specs.declared.Effect.TheVariants.{Pass, Stop}
use Rattle.records.specs.declared.Filter.{Filter}
use Rattle.records.specs.declared.Action.{Action}
use Rattle.records.specs.declared.Action.TheVariants.{StartLog, StopLog, StopLogCompletely}
use Rattle.loader.proofs.Rows.{Kind}
use Rattle.lists.proofs.Parts.{and_left, and_right}

-- ---- records of one length, that are read, spelt again and compared
module _ {X : Type 0} (m : ℕ) (read : List ℕ → X) (words : X → List ℕ) (In : X → Bool)
    (long : (x : X) → length (words x) ≡ m) (reads : (x : X) → In x ≡ true → (rest : List ℕ) → read (words x ++ rest) ≡ x) where
  spelt_again : Kind (λ ws. m) (λ ws. starts_with eqb ws (words (read ws)) && In (read ws)) read words In
  spelt_again = record {
    sized = λ x h rest. sym (long x);
    taken = λ x h rest. ap (λ (y : X). starts_with eqb (words x ++ rest) (words y) && In y) (reads x h rest) ∙ rw ((starts_is Decides-eqb (words x ++ rest) (words x) _ refl).1 rest refl) h;
    back = reads;
    inside = λ ws f p. and_right (starts_with eqb ws (words (read ws))) (In (read ws)) p;
    spelt = λ ws f p. (starts_is Decides-eqb ws (words (read ws)) _ refl).0 (and_left (starts_with eqb ws (words (read ws))) (In (read ws)) p)
        ∙ ap (λ (n : ℕ). words (read ws) ++ drop n ws) (long (read ws));
  }

pub flag_back : (b : Bool) → eqb (flag b) 1 ≡ b
flag_back true = refl
flag_back false = refl

-- ---- triggers
timeout_back : (t : Timeout) → timeout_in t ≡ true → timeout_at (timeout_word t) ≡ t
timeout_back Forever h = refl
timeout_back (Ms t) h = rw (ne_eqb t 4294967295 (λ e. omega (arith, leb-true t 1000000000 h)))

pub cause_long : (w : ℕ) (c : Cause) → length (cause_words w c) ≡ 6
cause_long w (Id channel ext lower upper) = refl
cause_long w (Length channel lower upper) = refl
cause_long w (Error channel) = refl
cause_long w Startup = refl

cause_back : (w : ℕ) (c : Cause) (rest : List ℕ) → cause_at (cause_words w c ++ rest) ≡ c
cause_back w (Id channel ext lower upper) rest = ap (λ (b : Bool). Id channel b lower upper) (flag_back ext)
cause_back w (Length channel lower upper) rest = refl
cause_back w (Error channel) rest = refl
cause_back w Startup rest = refl

timeout_third : (w : ℕ) (c : Cause) (rest : List ℕ) → get_or (cause_words w c ++ rest) 2 0 ≡ w
timeout_third w (Id channel ext lower upper) rest = refl
timeout_third w (Length channel lower upper) rest = refl
timeout_third w (Error channel) rest = refl
timeout_third w Startup rest = refl

trigger_back : (n : ℕ) (t : Trigger) → trigger_in n t ≡ true → (rest : List ℕ) → trigger_at (trigger_words t ++ rest) ≡ t
unfolding trigger_at
trigger_back n t h rest = λ i. record { cause = cause_back (timeout_word t.timeout) t.cause rest i; timeout = times i }
  where
    times : timeout_at (get_or (trigger_words t ++ rest) 2 0) ≡ t.timeout
    times = ap timeout_at (timeout_third (timeout_word t.timeout) t.cause rest)
        ∙ timeout_back t.timeout (and_left (timeout_in t.timeout) (cause_in n t.cause) h)

pub trigger_kind : (n : ℕ) → Kind trigger_size (trigger_ok n) trigger_at trigger_words (trigger_in n)
unfolding trigger_ok
trigger_kind n = spelt_again 6 trigger_at trigger_words (trigger_in n) (λ t. cause_long (timeout_word t.timeout) t.cause) (trigger_back n)

-- ---- filters
effect_back : (e : Effect) → effect_at (effect_word e) ≡ e
effect_back Pass = refl
effect_back Stop = refl

filter_back : (masks : ℕ) (x : Filter) → filter_in masks x ≡ true → (rest : List ℕ) → filter_at (filter_words x ++ rest) ≡ x
unfolding filter_at
filter_back masks x h rest = λ i. record {
  effect = effect_back x.effect i;
  mask = x.mask;
  ext = flag_back x.ext i;
  lower = x.lower;
  upper = x.upper;
  shortest = x.shortest;
  longest = x.longest;
}

pub filter_kind : (masks : ℕ) → Kind filter_size (filter_ok masks) filter_at filter_words (filter_in masks)
unfolding filter_ok
filter_kind masks = spelt_again 7 filter_at filter_words (filter_in masks) (λ x. refl) (filter_back masks)

-- ---- statements
action_back : (a : Action) → action_at (action_word a) ≡ a
action_back StartLog = refl
action_back StopLog = refl
action_back StopLogCompletely = refl

actions_back : (xs : List Action) → map action_at (map action_word xs) ≡ xs
actions_back [] = refl
actions_back (a ∷ xs) = λ i. action_back a i ∷ actions_back xs i

word_ok : (a : Action) → action_ok (action_word a) ≡ true
word_ok StartLog = refl
word_ok StopLog = refl
word_ok StopLogCompletely = refl

words_ok : (xs : List Action) → list_all action_ok (map action_word xs) ≡ true
words_ok [] = refl
words_ok (a ∷ xs) = rw (word_ok a) (words_ok xs)

-- a word in range is the word of the action that it stands for
word_back : (w : ℕ) → action_ok w ≡ true → action_word (action_at w) ≡ w
word_back zero h = absurd (false≢true h)
word_back (suc zero) h = refl
word_back (suc (suc zero)) h = refl
word_back (suc (suc (suc zero))) h = refl
word_back (suc (suc (suc (suc w)))) h =
    absurd
    (omega (
      arith,
      leb-true (suc (suc (suc (suc w)))) 3
          (and_right (leb 1 (suc (suc (suc (suc w))))) (leb (suc (suc (suc (suc w)))) 3) h),
    ))

words_back : (ws : List ℕ) → list_all action_ok ws ≡ true → map action_word (map action_at ws) ≡ ws
words_back [] h = refl
words_back (w ∷ ws) h =
    let e : action_word (action_at w) ≡ w = word_back w (and_left (action_ok w) (list_all action_ok ws) h) in
    let r : map action_word (map action_at ws) ≡ ws = words_back ws (and_right (action_ok w) (list_all action_ok ws) h) in
    λ i. e i ∷ r i

module _ (s : PlanStatement) (rest : List ℕ) where
  acts_written : actions_at (statement_words s ++ rest) ≡ map action_word s.actions
  acts_written =
      rw (append_assoc (map action_word s.actions) s.code rest)
      (take_at (map action_word s.actions) (s.code ++ rest) (length s.actions) (length-map s.actions action_word))

  code_written : code_at (statement_words s ++ rest) ≡ s.code
  code_written =
      let n : 3 + length s.actions ≡ suc (suc (suc (length s.actions))) = omega arith in
      rw (
        n,
        append_assoc (map action_word s.actions) s.code rest,
        drop_at (map action_word s.actions) (s.code ++ rest)
            (length s.actions) (length-map s.actions action_word),
      )
      (take-append_seam s.code rest)

  statement_sized : statement_size (statement_words s ++ rest) ≡ length (statement_words s)
  statement_sized = omega (arith, length-append (map action_word s.actions) s.code, length-map s.actions action_word)

  statement_back : statement_at (statement_words s ++ rest) ≡ s
  statement_back = λ i. record { post = s.post; actions = read i; code = code_written i }
    where
      read : map action_at (actions_at (statement_words s ++ rest)) ≡ s.actions
      read = ap (map action_at) acts_written ∙ actions_back s.actions

  statement_taken : (triggers : ℕ) → statement_in triggers s ≡ true → statement_ok triggers (statement_words s ++ rest) ≡ true
  unfolding statement_in statement_ok
  statement_taken triggers h = rw (acts_written, code_written, words_ok s.actions, and-true) h

unmarked : (x f s : Bool) → (x && f && s) ≡ true → (x && s) ≡ true
unmarked true true s p = p
unmarked true false s p = absurd (false≢true p)
unmarked false f s p = p

three : (ws : List ℕ) → 3 ≤ length ws → ws ≡ get_or ws 0 0 ∷ get_or ws 1 0 ∷ get_or ws 2 0 ∷ drop 3 ws
three [] h = absurd (omega arith)
three (a ∷ []) h = absurd (omega arith)
three (a ∷ b ∷ []) h = absurd (omega arith)
three (a ∷ b ∷ d ∷ ws) h = refl

-- what a statement's first three words are held to
abbrev counted : List ℕ → Bool
counted ws = leb (get_or ws 0 0) 1000000000 && leb (get_or ws 1 0) 6 && leb 1 (get_or ws 2 0) && leb (get_or ws 2 0) 64

module _ (ws : List ℕ) (f : statement_size ws ≤ length ws) where
  acts_long : length (map action_at (actions_at ws)) ≡ get_or ws 1 0
  acts_long = length-map (actions_at ws) action_at ∙ length-take-le (get_or ws 1 0) (drop 3 ws) (omega (arith, length-drop 3 ws))

  code_long : length (code_at ws) ≡ get_or ws 2 0
  code_long = length-take-le (get_or ws 2 0) (drop (3 + get_or ws 1 0) ws) (omega (arith, length-drop (3 + get_or ws 1 0) ws))

  parted : drop 3 ws ≡ actions_at ws ++ (code_at ws ++ drop (statement_size ws) ws)
  parted =
      sym (take-append-drop (get_or ws 1 0) (drop 3 ws))
      ∙ ap (λ (l : List ℕ). actions_at ws ++ l)
      (drop-drop (get_or ws 1 0) 3 ws ∙ sym (take-append-drop (get_or ws 2 0) (drop (3 + get_or ws 1 0) ws))
      ∙ ap (λ (l : List ℕ). code_at ws ++ l) (drop-drop (get_or ws 2 0) (3 + get_or ws 1 0) ws))

  module _ (triggers : ℕ) (p : statement_ok triggers ws ≡ true) where
    statement_inside : statement_in triggers (statement_at ws) ≡ true
    unfolding statement_in statement_ok
    statement_inside = rw (acts_long, code_long) (unmarked (counted ws) (list_all action_ok (actions_at ws)) (sound_code triggers (code_at ws)) p)

    acts_ok : list_all action_ok (actions_at ws) ≡ true
    unfolding statement_ok
    acts_ok =
        and_right (counted ws) (list_all action_ok (actions_at ws))
        (and_left (counted ws && list_all action_ok (actions_at ws)) (sound_code triggers (code_at ws)) p)

    statement_spelt : ws ≡ statement_words (statement_at ws) ++ drop (statement_size ws) ws
    statement_spelt =
        rw (acts_long, code_long, words_back (actions_at ws) acts_ok, append_assoc (actions_at ws) (code_at ws) (drop (statement_size ws) ws))
        (three ws (omega arith) ∙ ap (λ (l : List ℕ). get_or ws 0 0 ∷ get_or ws 1 0 ∷ get_or ws 2 0 ∷ l) parted)

pub statement_kind : (triggers : ℕ) → Kind statement_size (statement_ok triggers) statement_at statement_words (statement_in triggers)
statement_kind triggers = record {
  sized = λ s h rest. statement_sized s rest;
  taken = λ s h rest. statement_taken s rest triggers h;
  back = λ s h rest. statement_back s rest;
  inside = λ ws f p. statement_inside ws f triggers p;
  spelt = λ ws f p. statement_spelt ws f triggers p;
}
