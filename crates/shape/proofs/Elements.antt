-- What the readers of an element's content do.
use Prim.Native.Nat.{ℕ, ◌+◌, ◌-◌, ◌≤◌, ◌<◌}
use native.Mathlib.Omega.{arith}
use mathlib.Core.Path.{◌≡◌, refl, sym, ap, ◌∙◌}
use mathlib.Core.List.{List, [], ◌∷◌}
use mathlib.Core.Bool.{true, false}
use lib.ListN.{length, get_or, drop}
use lib.Seq.{slice, slice_empty}
use borrow.Author.Tests.{ne_eqb, lt-ltb, le-ltb}
use Rattle.std.specs.Prelude.{Ok, Err}
use Rattle.shape.specs.declared.Mark.TheVariants.{Again, Close, Child}
use Rattle.text.specs.Kinds.{is_start, is_name, is_text}
use Rattle.text.specs.SpansCode.{span_at}
use Rattle.lists.proofs.Cases.{by_cases}
use Rattle.text.proofs.Spans.{span_more, span_here, span_end, downward, low_of, high_of, stop_of}
use Rattle.shape.specs.MachineCode.{Step, inside, comment, bang, tag, close, name, valued, live, bad, at, goes}
use Rattle.shape.specs.ReadsCode.{Reads, Expects, Around, tagged, goes_tag, TagRest, in_text, in_lt, PastMark, Marks, ReadsElement, TagStep, MarkStep}
use Rattle.shape.proofs.Bytes.{kind_not, start_33, start_47, text_60}
use Rattle.shape.proofs.Slices.{slice_snoc}
use Rattle.shape.proofs.Run.{at_step, at_dead, at_same, run_of}
use Rattle.shape.proofs.Steps.{reads_behind, reads_byte}

module _ (s : List ℕ) (x : Around) (i : ℕ) (h : i < length s) where
  pub lt_comment : get_or s i 0 ≡ 33 → at (in_lt x) s i ≡ at (comment bang (inside x.1 x.0)) s (i + 1)
  lt_comment e = at_step (in_lt x) s i h (rw e)

  pub lt_close : get_or s i 0 ≡ 47 → at (in_lt x) s i ≡ at (close x.0 x.1) s (i + 1)
  lt_close e = at_step (in_lt x) s i h (rw (e, start_47))

  pub lt_dead : (get_or s i 0 ≡ 33 → ⊥) → (get_or s i 0 ≡ 47 → ⊥) → is_start (get_or s i 0) ≡ false → at (in_lt x) s i ≡ bad i
  lt_dead e f t = at_dead (in_lt x) s i h (simp (ne_eqb _ _ e, t, ne_eqb _ _ f))

  pub lt_child : length x.0 < 7 → is_start (get_or s i 0) ≡ true → at (in_lt x) s i ≡ at (tag name (x.1 ∷ x.0) (get_or s i 0 ∷ [])) s (i + 1)
  lt_child l t = at_step (in_lt x) s i h (simp (kind_not is_start (get_or s i 0) 33 start_33 t, lt-ltb _ _ l, t))

  pub lt_deep : 7 ≤ length x.0 → is_start (get_or s i 0) ≡ true → at (in_lt x) s i ≡ bad i
  lt_deep l t =
      at_dead (in_lt x) s i h
      (simp (kind_not is_start (get_or s i 0) 33 start_33 t, t, le-ltb _ _ l, kind_not is_start (get_or s i 0) 47 start_47 t))

pub mark_from : (s : List ℕ) (i j : ℕ) (r : MarkStep) → i ≤ j → PastMark s j r → PastMark s i r
mark_from s i j (Ok (Again k)) h p = omega arith
mark_from s i j (Ok (Close k)) h p = omega arith
mark_from s i j (Ok (Child k)) h p = (omega arith, p.1, p.2)
mark_from s i j (Err e) h p = tt

-- text and `<`
pub text_reads : {s : List ℕ} {i j : ℕ} {r : Step} → j ≡ span_at is_text (drop i s) i → Expects 60 s j r → Reads in_text in_lt s i r
text_reads {s} {i} {j} {r} e x =
    reads_behind s i j r (low_of is_text s i j e)
    (λ a. run_of is_text s i j e (in_text a) (λ b t. rw t))
    (reads_byte in_text in_lt is_text s j r (stop_of is_text s i j e) (λ a. rw text_60) (λ a c t e. simp (t, ne_eqb _ _ e)) (λ a. refl) x)

pub mark_then : {s : List ℕ} {i j : ℕ} {r : MarkStep} → Reads in_text in_lt s i (Ok j) → Marks in_lt s j r → Marks in_text s i r
mark_then {s} {i} {j} {r} x y = record { run = λ a. x.run a ∙ y.run a; past = mark_from s i j r (omega (arith, x.past.0)) y.past }

name_run : (s : List ℕ) (k : List (List ℕ)) (i j : ℕ) → i ≤ j
    → at (tag name k (slice i j s)) s j ≡ at (tag name k (slice i (span_at is_name (drop j s) j) s)) s (span_at is_name (drop j s) j)
name_run s k i =
    downward s
    (λ j. i ≤ j → at (tag name k (slice i j s)) s j
    ≡ at (tag name k (slice i (span_at is_name (drop j s) j) s)) s (span_at is_name (drop j s) j))
    (λ j h l. rw (span_end is_name s j h))
    (λ j h r l. by_cases (is_name (get_or s j 0))
    (λ t. rw (span_more is_name s j h t) (at_step (tag name k (slice i j s)) s j h
    (rw t (ap (λ (n : List ℕ). live (tag name k n)) (sym (slice_snoc s i j l h)))) ∙ r (omega arith)))
    (λ t. rw (span_here is_name s j h t)))

-- the name of a start tag
pub name_reads : (s : List ℕ) (k : List (List ℕ)) (i e : ℕ) → i < length s → e ≡ span_at is_name (drop (i + 1) s) (i + 1)
    → at (tag name k (get_or s i 0 ∷ [])) s (i + 1) ≡ at (tagged valued (k, slice i e s)) s e
name_reads s k i e h q =
    ap (λ (n : List ℕ). at (tag name k n) s (i + 1)) (rw (slice_empty i s) at (sym (slice_snoc s i i (omega arith) h)))
    ∙ (rw q (name_run s k i (i + 1) (omega arith)))
    ∙ at_same (tag name k (slice i e s)) (tagged valued (k, slice i e s)) s e (λ l. rw (stop_of is_name s (i + 1) e q l)) refl

-- the start tag of an element, whole
module _ (s : List ℕ) (i e : ℕ) (h : i < length s) (q : e ≡ span_at is_name (drop (i + 1) s) (i + 1)) where
  pub tagged_run : {r : TagStep} → TagRest s e r → (k : List (List ℕ))
      → at (tag name k (get_or s i 0 ∷ [])) s (i + 1) ≡ goes_tag (k, slice i e s) s r
  tagged_run y k = name_reads s k i e h q ∙ y.run (k, slice i e s)

  pub name_low : i < e
  name_low = let l : i + 1 ≤ e = low_of is_name s (i + 1) e q in omega arith

  pub name_high : e ≤ length s
  name_high = high_of is_name s (i + 1) e q (omega arith)

-- a child
pub child_run : {s : List ℕ} {k left : ℕ} {r : Step} (x : Around) → k < length s → is_start (get_or s k 0) ≡ true → (left ≡ 0 → ⊥)
    → length x.0 + left ≡ 7 → ReadsElement s k (left - 1) r → at (in_lt x) s k ≡ goes (in_text x) s r
child_run {s} {k} {left} {r} x h t ne e y = lt_child s x k h (omega arith) t ∙ y.run (x.1 ∷ x.0) (omega arith)
