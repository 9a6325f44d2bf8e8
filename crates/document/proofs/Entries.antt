-- Entries one behind the other in a buffer of words: they are read back as they were written, and one more goes behind them.
use Prim.Native.Nat.{ℕ, zero, suc, ◌+◌, ◌-◌, ◌/◌, ◌%◌, ◌≤◌, ◌<◌}
use native.Mathlib.Omega.{arith}
use native.Mathlib.Nat.{le_refl}
use mathlib.Core.Path.{◌≡◌, refl, sym, ap, ◌∙◌}
use mathlib.Core.List.{List, [], ◌∷◌, ◌++◌, append_assoc, append-nil}
use mathlib.Core.Bool.{true, false}
use lib.ListN.{length, set, take, drop, length-append, length-drop}
use lib.Seq.{take_at, drop_at, drop-drop, length-take-le}
use borrow.Author.Tests.{le-leb, lt-leb}
use Rattle.lists.specs.Lists.{gathered, Every}
use Rattle.lists.specs.FillsCode.{Filled}
use Rattle.lists.proofs.Cases.{by_cases}
use Rattle.lists.proofs.Fills.{filled_count, filled_one, filled_then}
use Rattle.schema.specs.SchemaCode.{attribute_count, kind_name, is_ruled}
use Rattle.element.specs.declared.Gathered.{Gathered}
use Rattle.std.specs.Prelude.{Result, Ok, Err, is_ok}
use Rattle.file_rules.specs.declared.Refusal.{Refusal}
use Rattle.file_rules.specs.declared.Breach.TheVariants.{Lacking}
use Rattle.file_rules.specs.RefusalCode.{breach_at}
use Rattle.document.specs.declared.Walk.{Walk}
use Rattle.document.specs.EntriesCode.{Entry, entry_words, written, entry_most, row_size, entry_from, entries_from, entries_in}
use Rattle.document.specs.DocumentCode.{entered, entry_by, index_in, found, Formed, Sound, EnteredIs, Holds, index_at}

-- ---- read back
drop_two : (m a b : ℕ) (l : List ℕ) → drop (m + 2) (a ∷ b ∷ l) ≡ drop m l
drop_two m a b l = let e : m + 2 ≡ suc (suc m) = omega arith in ap (λ (n : ℕ). drop n (a ∷ b ∷ l)) e

entry_back : (e : Entry) (ws : List ℕ) → Formed e → entry_from (e.kind ∷ e.place ∷ e.number ∷ e.row ++ ws) ≡ e
unfolding entry_from
entry_back e ws f =
    let p : take (row_size e.kind) (e.row ++ ws) ≡ e.row = take_at e.row ws (row_size e.kind) f in
    λ i. record { kind = e.kind; place = e.place; number = e.number; row = p i }

entries_from_lem : (es : List Entry) → Every Formed es → (n : ℕ) → length (written es) ≤ n → entries_from n (written es) ≡ es
unfolding entries_from gathered Every
entries_from_lem [] f zero h = refl
entries_from_lem [] f (suc n) h = refl
entries_from_lem (e ∷ es) f zero h = absurd (omega arith)
entries_from_lem (e ∷ es) f (suc n) h =
    let l = length-append e.row (written es) in
    let d : drop (row_size e.kind + 2) (e.place ∷ e.number ∷ e.row ++ written es) ≡ written es =
    drop_two (row_size e.kind) e.place e.number (e.row ++ written es)
    ∙ drop_at e.row (written es) (row_size e.kind) f.0 in
    ap (λ (x : Entry). x ∷ entries_from n (drop (row_size e.kind + 2) (e.place ∷ e.number ∷ e.row ++ written es)))
    (entry_back e (written es) f.0)
    ∙ ap (λ (l : List Entry). e ∷ l) (ap (entries_from n) d ∙ entries_from_lem es f.1 n (omega (arith, h, l)))

pub entries_back : (es : List Entry) → Every Formed es → entries_in (written es) ≡ es
entries_back es f = entries_from_lem es f (length (written es)) (le_refl (length (written es)))

-- a walk goes on where its end says so, whatever the words
pub index_ok : (end : Result ℕ Refusal) (ms : List ℕ) → is_ok end ≡ is_ok (index_in end ms)
index_ok (Ok end) ms = refl
index_ok (Err q) ms = refl

pub sound_entries : (end : ℕ) (ms : List ℕ) (s : Sound (Ok end) ms) → entries_in (take end ms) ≡ s.0
sound_entries end ms s = ap entries_in s.1.words ∙ entries_back s.0 s.1.formed

pub sound_none : (end : Result ℕ Refusal) (ms : List ℕ) → end ≡ Ok 0 → Sound end ms
unfolding gathered Every
sound_none end ms e = rw e ([], record { words = refl; long = refl; formed = tt })

pub sound_refused : (end : Result ℕ Refusal) (ms : List ℕ) (q : Refusal) → end ≡ Err q → Sound end ms
sound_refused end ms q e = rw e tt

pub sound_same : (end end' : Result ℕ Refusal) (ms : List ℕ) → Sound end ms → end' ≡ end → Sound end' ms
sound_same end end' ms s e = rw e s

-- ---- the end of the walk
module _ (w : Walk) (root : ℕ) where
  module _ (end : ℕ) (o : w.end ≡ Ok end) where
    pub settle_lacks : w.lacking ≡ true → (q : Refusal) → q ≡ breach_at Lacking root → (ms : List ℕ)
        → Holds (Err q) ms (index_at root (found w ms))
    unfolding index_at found
    settle_lacks t q e ms = rw (o, t) e

    pub settle_holds : w.lacking ≡ false → (ms : List ℕ) → Sound w.end ms → Holds (Ok end) ms (index_at root (found w ms))
    unfolding index_at found
    settle_holds t ms s =
        let x = sound_same w.end (Ok end) ms s (sym o) in
        rw (o, t, sound_entries end ms x) x.1

  pub settle_refused : (q : Refusal) → w.end ≡ Err q → (r : Result ℕ Refusal) → r ≡ Err q → (ms : List ℕ)
      → Holds r ms (index_at root (found w ms))
  unfolding index_at found
  settle_refused q o r e ms = rw (o, e) refl

-- ---- one more
every_snoc : (es : List Entry) (e : Entry) → Every Formed es → Formed e → Every Formed (es ++ (e ∷ []))
unfolding Every
every_snoc [] e f g = (g, tt)
every_snoc (x ∷ es) e f g = (f.0, every_snoc es e f.1 g)

pub written_snoc : (es : List Entry) (e : Entry) → written (es ++ (e ∷ [])) ≡ written es ++ entry_words e
unfolding gathered
written_snoc [] e = append-nil (entry_words e)
written_snoc (x ∷ es) e =
    ap (λ (l : List ℕ). entry_words x ++ l) (written_snoc es e) ∙ sym (append_assoc (entry_words x) (written es) (entry_words e))

pub row_long : (k p n : ℕ) (g : Gathered) → length g.values ≡ attribute_count → Formed (entry_by k p n g)
unfolding row_size
row_long k p n g l = by_cases (is_ruled (kind_name k)) (λ t. rw t (omega (arith, l))) (λ t. rw t)

module _ (w : Walk) (ms : List ℕ) (s : Sound w.end ms) (e : Entry) where
  module _ (at : ℕ) (o : w.end ≡ Ok at) where
    here : Sound (Ok at) ms
    here = sound_same w.end (Ok at) ms s (sym o)

    pub enters : (ms' : List ℕ) (end : ℕ) → Formed e → at ≤ entry_most → Filled (take at ms ++ entry_words e) ms ms' end
        → EnteredIs (found w ms) e w.at (record { at = w.at; end = Ok end; lacking = w.lacking }) ms'
    unfolding found entered
    enters ms' end f h x =
        let es = here.0 in
        let a : take end ms' ≡ written (es ++ (e ∷ [])) =
        x.words ∙ (ap (λ (l : List ℕ). l ++ entry_words e) here.1.words ∙ sym (written_snoc es e)) in
        let z : Sound (Ok end) ms' = (
          es ++ (e ∷ []),
          record { words = a; long = sym (filled_count x) ∙ ap length (sym x.words ∙ a); formed = every_snoc es e here.1.formed f },
        ) in
        record {
          walks = rw (o, sound_entries end ms' z, sound_entries at ms here, ← here.1.long, le-leb at entry_most h);
          stays = refl;
          sound = z;
        }

    pub enters_none : entry_most < at → EnteredIs (found w ms) e w.at w ms
    unfolding found entered
    enters_none h =
        record { walks = rw (o, sound_entries at ms here, ← here.1.long, lt-leb at entry_most h); stays = refl; sound = s }

  pub enters_refused : ((at : ℕ) → w.end ≡ Ok at → ⊥) → EnteredIs (found w ms) e w.at w ms
  unfolding found entered
  enters_refused h = by_end w.end refl
    where
      by_end : (r : Result ℕ Refusal) → w.end ≡ r → EnteredIs (found w ms) e w.at w ms
      by_end (Ok at) o = absurd (h at o)
      by_end (Err q) o = record { walks = rw o; stays = refl; sound = s }

-- ---- words put behind those that stand there
filled_self : (ws : List ℕ) (at : ℕ) → at ≤ length ws → Filled (take at ws) ws ws at
filled_self ws at h = record { words = refl; rest = refl; long = refl; within = h }

-- more behind what was put
then_more : (ws ms ms' done more : List ℕ) (n m : ℕ) → Filled done ws ms n → Filled (take n ms ++ more) ms ms' m
    → Filled (done ++ more) ws ms' m
then_more ws ms ms' done more n m x y =
    let a = length-take-le n ms (omega (arith, x.within, x.long)) in
    filled_then more x y (omega (arith, a, filled_count y, length-append (take n ms) more))

-- one more behind what was put
put_more : (ws ms vs : List ℕ) (at n m v : ℕ) → Filled (take at ws ++ vs) ws ms n → n < length ws → n + 1 ≡ m
    → Filled (take at ws ++ (vs ++ (v ∷ []))) ws (set ms n v) m
put_more ws ms vs at n m v x h e =
    rw (append_assoc (take at ws) vs (v ∷ [])) at (filled_one (take at ws ++ vs) ws ms n m v x h e)

module _ (ws : List ℕ) (at k p n : ℕ) (h : at + 3 ≤ length ws) where
  pub put_head : Filled (take at ws ++ (k ∷ p ∷ n ∷ [])) ws (set (set (set ws at k) (at + 1) p) (at + 2) n) (at + 3)
  put_head =
      let a = filled_one (take at ws) ws ws at (at + 1) k (filled_self ws at (omega arith)) (omega arith) refl in
      let b = put_more ws _ (k ∷ []) at (at + 1) (at + 2) p a (omega arith) (omega arith) in
      put_more ws _ (k ∷ p ∷ []) at (at + 2) (at + 3) n b (omega arith) (omega arith)

  abbrev headed : List ℕ
  headed = set (set (set ws at k) (at + 1) p) (at + 2) n

  -- the words of an entry with a row
  pub put_row : (g : Gathered) → at + 5 ≤ length ws → is_ruled (kind_name k) ≡ true → (ms : List ℕ) (r : ℕ)
      → Filled (take (at + 5) (set (set headed (at + 3) (g.has % 4294967296)) (at + 4) (g.has / 4294967296)) ++ g.values)
      (set (set headed (at + 3) (g.has % 4294967296)) (at + 4) (g.has / 4294967296)) ms r
      → Filled (take at ws ++ entry_words (entry_by k p n g)) ws ms r
  put_row g l t ms r y =
      let low = g.has % 4294967296 in
      let high = g.has / 4294967296 in
      let a = put_more ws _ (k ∷ p ∷ n ∷ []) at (at + 3) (at + 4) low put_head (omega arith) (omega arith) in
      let b = put_more ws _ (k ∷ p ∷ n ∷ low ∷ []) at (at + 4) (at + 5) high a (omega arith) (omega arith) in
      rw t (rw (append_assoc (take at ws) (k ∷ p ∷ n ∷ low ∷ high ∷ []) g.values) at
      (then_more ws _ ms (take at ws ++ (k ∷ p ∷ n ∷ low ∷ high ∷ [])) g.values (at + 5) r b y))

-- values in place of as many words
module _ (vs ws us : List ℕ) (at : ℕ) (l : length vs ≡ attribute_count) (h : at + attribute_count ≤ length ws) (e : us ≡ vs) where
  abbrev after : List ℕ
  after = take at ws ++ (us ++ drop (at + attribute_count - at) (drop at ws))

  -- they reach to the end of the row
  parts : after ≡ (take at ws ++ vs) ++ drop (at + attribute_count) ws
  parts =
      let n : at + (at + attribute_count - at) ≡ at + attribute_count = omega arith in
      rw (e, drop-drop (at + attribute_count - at) at ws, n) (sym (append_assoc (take at ws) vs (drop (at + attribute_count) ws)))

  up_to : length (take at ws ++ vs) ≡ at + attribute_count
  up_to = omega (arith, l, length-take-le at ws (omega (arith, h)), length-append (take at ws) vs)

  pub values_long : length after ≡ length ws
  values_long = rw parts (omega (
    arith,
    up_to,
    h,
    length-append (take at ws ++ vs) (drop (at + attribute_count) ws),
    length-drop (at + attribute_count) ws,
  ))

  pub values_put : Filled (take at ws ++ vs) ws after (at + attribute_count)
  values_put = record {
    words = ap (take (at + attribute_count)) parts ∙ take_at (take at ws ++ vs) (drop (at + attribute_count) ws) (at + attribute_count) up_to;
    rest = ap (drop (at + attribute_count)) parts ∙ drop_at (take at ws ++ vs) (drop (at + attribute_count) ws) (at + attribute_count) up_to;
    long = values_long;
    within = h;
  }
