-- What a buffer holds once words are written to its front, one record behind the other.
use Prim.Native.Nat.{ℕ, ◌+◌, ◌-◌, ◌≤◌, ◌<◌}
use mathlib.Core.Path.{◌≡◌, refl, sym, ap, subst, ◌∙◌}
use mathlib.Core.List.{List, [], ◌∷◌, ◌++◌, append_assoc, append-nil}
use native.Mathlib.Omega.{arith}
use native.Mathlib.Nat.{zero-add}
use lib.ListN.{length, set, take, drop, length-drop, length-append, drop_of_length-le}
use lib.Seq.{drop-drop}
use Rattle.file_rules.specs.declared.Refusal.{Refusal}
use Rattle.std.specs.Prelude.{Option, Some, None, Result, Ok, Err}
use Rattle.converter.specs.PlanCode.{Wrote, WroteOr}
use Rattle.lists.specs.FillsCode.{Filled}
use Rattle.lists.proofs.Fills.{filled_none, filled_all, filled_count, filled_one, filled_more}
use Rattle.lists.proofs.Parts.{lent, lent_is, length_lent}

pub wrote_none : (d : List ℕ) → Wrote [] d 0 d
wrote_none d = record { count = refl; words = refl }

pub wrote_long : {ws d e : List ℕ} {r : ℕ} → Wrote ws d r e → r ≤ length d → length e ≡ length d
wrote_long {ws} {d} h k = ap length h.words ∙ omega (arith, h.count, length-append ws (drop (length ws) d), length-drop (length ws) d)

-- the second word set anew
pub wrote_second : {a b : ℕ} {ws d e : List ℕ} {r : ℕ} (x : ℕ) → Wrote (a ∷ b ∷ ws) d r e → Wrote (a ∷ x ∷ ws) d r (set e 1 x)
wrote_second x h = record { count = h.count; words = ap (λ (l : List ℕ). set l 1 x) h.words }

-- what a buffer is once a lent part of it is back
abbrev pub back : List ℕ → ℕ → List ℕ → List ℕ
back e n p = take n e ++ (p ++ drop (length e - n) (drop n e))

-- of all the words those before n are written to d, and vs come behind them
pub record Behind (all d vs : List ℕ) (n : ℕ) (e : List ℕ) : Type 0 where
  pub done : List ℕ
  pub same : all ≡ done ++ vs
  pub filled : Filled done d e n
  pub room : n + length vs ≤ length d

pub behind_none : {all d : List ℕ} → length all ≤ length d → Behind all d all 0 d
behind_none {all} {d} h = record { done = []; same = refl; filled = filled_none d; room = omega arith }

module _ {all d vs : List ℕ} {n : ℕ} {e : List ℕ} (b : Behind all d vs n e) where
  pub behind_all : vs ≡ [] → Wrote all d n e
  behind_all s =
      let c = filled_count b.filled in
      rw (b.same, s, append-nil b.done)
      (record { count = sym c; words = filled_all b.filled ∙ ap (λ (k : ℕ). b.done ++ drop k d) (sym c) })

  pub behind_within : n ≤ length e
  behind_within = omega (arith, b.room, b.filled.long)

  pub behind_room : length vs ≤ length (lent e n)
  behind_room = omega (arith, b.room, b.filled.long, length_lent e n)

  pub behind_most : {m : ℕ} → length d ≤ m → length (lent e n) ≤ m
  behind_most h = omega (arith, b.filled.long, length_lent e n)

  pub behind_there : {x : ℕ} {rest : List ℕ} → vs ≡ x ∷ rest → n < length e
  behind_there s = omega (arith, b.room, b.filled.long, ap length s)

  pub behind_one : {x : ℕ} {rest : List ℕ} → vs ≡ x ∷ rest → Behind all d rest (n + 1) (set e n x)
  behind_one {x} {rest} s = record {
    done = b.done ++ (x ∷ []);
    same = b.same ∙ ap (λ (l : List ℕ). b.done ++ l) s ∙ sym (append_assoc b.done (x ∷ []) rest);
    filled = filled_one b.done d e n (n + 1) x b.filled (omega (arith, b.room, ap length s)) refl;
    room = omega (arith, b.room, ap length s);
  }

  module _ (us rest : List ℕ) (s : vs ≡ us ++ rest) where
    -- the part that is lent has room for the next of them
    pub behind_next : length us ≤ length (lent e n)
    behind_next = omega (arith, behind_room, ap length s, length-append us rest)

    on : {p : List ℕ} {r : ℕ} → r ≡ length us → p ≡ take n e ++ (us ++ drop (n + r) e) → Behind all d rest (n + r) p
    on {p} {r} q g =
        let h : n + r + length rest ≤ length d = omega (arith, b.room, ap length s, length-append us rest, q) in
        record {
          done = b.done ++ us;
          same = b.same ∙ ap (λ (l : List ℕ). b.done ++ l) s ∙ sym (append_assoc b.done us rest);
          filled = filled_more b.done d e n b.filled us p r (sym q) (omega arith) g;
          room = h;
        }

    pub behind_more : {r : ℕ} {p : List ℕ} → Wrote us (lent e n) r p → Behind all d rest (n + r) (back e n p)
    behind_more {r} {p} w =
        let z : drop (length e - n) (drop n e) ≡ [] = drop_of_length-le (drop n e) {i = length e - n} (omega (arith, length-drop n e)) in
        let q : p ≡ us ++ drop (n + r) e = w.words ∙ rw (lent_is e n, ← w.count, drop-drop r n e) in
        on w.count (rw (z, append-nil p, q))

-- words at the very front
pub behind_first : {all d us e : List ℕ} {r : ℕ} (rest : List ℕ) → all ≡ us ++ rest → length all ≤ length d → Wrote us d r e
    → Behind all d rest r e
behind_first {all} {d} {us} {e} {r} rest s k w =
    rw (← zero-add r) (on (behind_none k) us rest s w.count (w.words ∙ rw (zero-add r, w.count)))

-- ---- words, if there is no fault
module _ {fault : Option Refusal} {ws d e : List ℕ} where
  pub or_words : {n : ℕ} → fault ≡ None → Wrote ws d n e → n ≤ length d → WroteOr fault ws d (Ok n) e
  or_words {n} s w h = record {
    wrote = λ m q.
        let z : n ≡ m = cc in
        (s, subst (λ (k : ℕ). Wrote ws d k e) z w, omega (arith, z, h));
    refused = λ q g. cc;
    long = wrote_long w h;
  }

  pub or_none : {q : Refusal} → fault ≡ Some q → length e ≡ length d → WroteOr fault ws d (Err q) e
  or_none {q} s l = record {
    wrote = λ n g. cc;
    refused = λ p g.
        let z : q ≡ p = cc in
        s ∙ ap Some z;
    long = l;
  }

-- behind other words
module _ {fault : Option Refusal} {all d vs us : List ℕ} {n : ℕ} {e p : List ℕ} {r : Result ℕ Refusal} (b : Behind all d vs n e)
    (w : WroteOr fault us (lent e n) r p) where
  pub or_room : (m : ℕ) → r ≡ Ok m → n + m ≤ length d
  or_room m q = omega (arith, b.room, b.filled.long, length_lent e n, (w.wrote m q).2)

  pub or_long : length (back e n p) ≡ length d
  or_long =
      let rest = drop (length e - n) (drop n e) in
      omega (
        arith,
        b.room,
        b.filled.long,
        length_lent e n,
        w.long,
        length-drop (length e - n) (drop n e),
        length-drop n e,
        ap length b.filled.words,
        filled_count b.filled,
        length-append (take n e) (p ++ rest),
        length-append p rest,
      )

-- the last of them
module _ {fault : Option Refusal} {all d vs : List ℕ} {n : ℕ} {e p : List ℕ} {r : Result ℕ Refusal} (b : Behind all d vs n e)
    (w : WroteOr fault vs (lent e n) r p) where
  pub last_words : (m : ℕ) → r ≡ Ok m → WroteOr fault all d (Ok (n + m)) (back e n p)
  last_words m q =
      or_words (w.wrote m q).0 (behind_all (behind_more b vs [] (sym (append-nil vs)) (w.wrote m q).1) refl) (or_room b w m q)

  pub last_none : (q : Refusal) → r ≡ Err q → WroteOr fault all d (Err q) (back e n p)
  last_none q z = or_none (w.refused q z) (or_long b w)
