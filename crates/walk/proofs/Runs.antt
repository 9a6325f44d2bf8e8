-- Leaves of the grammar: from a derivation to the offset that a reader comes to.
use Prim.Native.Nat.{ℕ, ◌+◌, ◌≤◌}
use native.Mathlib.Omega.{arith}
use mathlib.Core.Path.{◌≡◌, refl, sym, ap, ◌∙◌}
use mathlib.Core.List.{List, ◌∷◌, ◌++◌}
use mathlib.Core.Bool.{Bool, true, false, true≢false}
use borrow.Author.Tests.{eqb-false}
use lib.ListN.{length, take, drop, length-drop, length-append}
use lib.Seq.{slice, drop-drop, drop-append_seam, take-append_seam}
use Rattle.text.specs.Kinds.{among, is_blank, is_start, is_name}
use Rattle.text.specs.SpansCode.{span_at}
use Rattle.shape.proofs.Bytes.{blank_not_name, start_is_name, start_not_blank}
use Rattle.shape.specs.Shape.{Attribute, Run, Name, Attributes, Spelled, Remark}
use Rattle.walk.specs.WalkCode.{past, ahead, closes_remark, remark_end}
use Rattle.walk.proofs.Places.{here, ahead_in}
use Rattle.walk.proofs.WalkAnswers.{closing_first, closing_second, closing_third}
use Rattle.walk.proofs.Bounds.{end_here, end_more}
use Rattle.shape.proofs.Slices.{slice_take}

-- a byte of a kind is none that is not of the kind
pub apart : (p : ℕ → Bool) (b c : ℕ) → p b ≡ true → p c ≡ false → b ≡ c → ⊥
apart p b c t u e = true≢false (sym t ∙ ap p e ∙ u)

-- a text whose first byte is not of the kind
pub record Stops (p : ℕ → Bool) (s : List ℕ) : Type 0 where
  pub first : ℕ
  pub rest : List ℕ
  pub is : s ≡ first ∷ rest
  pub stop : p first ≡ false

pub stops : (p : ℕ → Bool) (c : ℕ) (s : List ℕ) → p c ≡ false → Stops p (c ∷ s)
stops p c s t = record { first = c; rest = s; is = refl; stop = t }

run_append : {p : ℕ → Bool} {w s r : List ℕ} → Run p w s r → s ≡ w ++ r
run_append Run.none = refl
run_append (Run.more {b} t x) = ap (λ (l : List ℕ). b ∷ l) (run_append x)

span_pass : (p : ℕ → Bool) (b : ℕ) (s : List ℕ) (i : ℕ) → p b ≡ true → span_at p (b ∷ s) i ≡ span_at p s (i + 1)
unfolding span_at
span_pass p b s i t = rw (t, span_at)

span_stay : (p : ℕ → Bool) (s : List ℕ) (i : ℕ) → Stops p s → span_at p s i ≡ i
unfolding span_at
span_stay p s i x = ap (λ (l : List ℕ). span_at p l i) x.is ∙ rw (x.stop, span_at)

run_span : {p : ℕ → Bool} {w s r : List ℕ} → Run p w s r → Stops p r → (i : ℕ) → span_at p s i ≡ i + length w
run_span {p} {r = r} Run.none y i = span_stay p r i y ∙ omega arith
run_span {p} (Run.more {b} {w} {s} t x) y i = span_pass p b s i t ∙ run_span x y (i + 1) ∙ omega arith

-- a run of bytes of a kind from i on: the span is the run
pub record Spans (p : ℕ → Bool) (f : List ℕ) (i : ℕ) (w r : List ℕ) : Type 0 where
  pub at : drop (past p f i) f ≡ r
  pub word : slice i (past p f i) f ≡ w
  pub size : past p f i ≡ i + length w

pub run_law : {p : ℕ → Bool} {w s r : List ℕ} (f : List ℕ) (i : ℕ) → drop i f ≡ s → Run p w s r → Stops p r → Spans p f i w r
run_law {p} {w} {s} {r} f i e x y =
    let a : drop i f ≡ w ++ r = e ∙ run_append x in
    let q : past p f i ≡ i + length w = ap (λ (l : List ℕ). span_at p l i) e ∙ run_span x y i in
    let h : i ≤ length f = omega (arith, ap length a, length-append w r, ap length y.is, length-drop i f) in
    record {
      at = ap (λ (k : ℕ). drop k f) q ∙ sym (drop-drop (length w) i f) ∙ ap (drop (length w)) a ∙ drop-append_seam w r;
      word = ap (λ (k : ℕ). slice i k f) q ∙ slice_take f i (length w) h ∙ ap (take (length w)) a ∙ take-append_seam w r;
      size = q;
    }

-- one byte on
pub on_one : (f : List ℕ) (i : ℕ) {c : ℕ} {r : List ℕ} → drop i f ≡ c ∷ r → drop (ahead f i 1) f ≡ r
on_one f i e = let h = here f i e in ap (λ (k : ℕ). drop k f) (ahead_in f i 1 (omega (arith, h.inner))) ∙ h.next

-- two bytes on
pub on_two : (f : List ℕ) (i : ℕ) {b c : ℕ} {r : List ℕ} → drop i f ≡ b ∷ c ∷ r → drop (i + 2) f ≡ r
on_two f i e =
    let h = here f i e in
    let q : i + 1 + 1 ≡ i + 2 = omega arith in
    sym (ap (λ (k : ℕ). drop k f) q) ∙ (here f (i + 1) h.next).next

-- names
pub name_run : {n s r : List ℕ} → Name n s r → Run is_name n s r
name_run (Name.name {b} t x) = Run.more (start_is_name b t) x

-- a text that starts as a name does
pub record Letter (s : List ℕ) : Type 0 where
  pub byte : ℕ
  pub rest : List ℕ
  pub is : s ≡ byte ∷ rest
  pub start : is_start byte ≡ true

pub letter : {n s r : List ℕ} → Name n s r → Letter s
letter (Name.name {b} {s = s} t x) = record { byte = b; rest = s; is = refl; start = t }

pub letter_stops : {s : List ℕ} → Letter s → Stops is_blank s
letter_stops x = record { first = x.byte; rest = x.rest; is = x.is; stop = start_not_blank x.byte x.start }

-- the same bytes with another text behind them
pub run_behind : {p : ℕ → Bool} {w s r : List ℕ} → Run p w s r → (t : List ℕ) → Run p w (w ++ t) t
run_behind Run.none t = Run.none
run_behind (Run.more h x) t = Run.more h (run_behind x t)

-- blanks, then a byte of another kind, stop a name
pub blanks_stop : {w s u : List ℕ} → Run is_blank w s u → Stops is_name u → Stops is_name s
blanks_stop Run.none y = y
blanks_stop (Run.more {b} {s = s} t x) y = stops is_name b s (blank_not_name b t)

spelled_stop : {a : Attribute} {s r : List ℕ} → Spelled a s r → Stops is_name s
spelled_stop (Spelled.attribute {b} {s₁ = s} t x y z v q) = stops is_name b s (blank_not_name b t)

pub attributes_stop : {l : List Attribute} {s u : List ℕ} → Attributes l s u → Stops is_name u → Stops is_name s
attributes_stop Attributes.none y = y
attributes_stop (Attributes.more a x) y = spelled_stop a

-- comments
module _ (f : List ℕ) where
  no_close : (i c : ℕ) (r : List ℕ) → drop i f ≡ c ∷ r → among "-" c ≡ false → closes_remark f i ≡ false
  no_close i c r e t = closing_first f i c (sym (here f i e).byte) (eqb-false c 45 t)

  half_close : (i c : ℕ) (r : List ℕ) → drop i f ≡ 45 ∷ c ∷ r → among "-" c ≡ false → closes_remark f i ≡ false
  half_close i c r e t =
      let h = here f i e in
      closing_second f i 45 (sym h.byte) c (sym (here f (i + 1) h.next).byte) refl (eqb-false c 45 t)

  full_close : (i : ℕ) (r : List ℕ) → drop i f ≡ 45 ∷ 45 ∷ 62 ∷ r → closes_remark f i ≡ true
  full_close i r e =
      let h = here f i e in
      closing_third f i 45 (sym h.byte) 45 (sym (here f (i + 1) h.next).byte) refl 62 (sym (here f (i + 2) (on_two f i e)).byte)
      refl

  one_less : (i : ℕ) {c : ℕ} {r : List ℕ} → drop i f ≡ c ∷ r → closes_remark f i ≡ false
      → drop (remark_end f (drop i f) i) f ≡ drop (remark_end f (drop (i + 1) f) (i + 1)) f
  one_less i e t = ap (λ (k : ℕ). drop k f) (end_more f i (here f i e).inner t)

  -- a comment's body, with `-->` behind it
  pub remark_law : {s u r : List ℕ} → Remark s u → u ≡ 45 ∷ 45 ∷ 62 ∷ r → (i : ℕ) → drop i f ≡ s → drop (remark_end f (drop i f) i) f ≡ r
  remark_law {r = r} Remark.none q i e =
      let h : drop i f ≡ 45 ∷ 45 ∷ 62 ∷ r = e ∙ q in
      let k : i + 2 + 1 ≡ i + 3 = omega arith in
      ap (λ (k : ℕ). drop k f) (end_here f i (here f i h).inner (full_close i r h) ∙ sym k) ∙ (here f (i + 2) (on_two f i h)).next
  remark_law (Remark.more {b} {s} t v x) q i e = one_less i e (no_close i b s e v) ∙ remark_law x q (i + 1) (here f i e).next
  remark_law (Remark.dash {b} {s} t v x) q i e =
      let h = (here f i e).next in
      one_less i e (half_close i b s e v) ∙ one_less (i + 1) h (no_close (i + 1) b s h v)
      ∙ remark_law x q (i + 1 + 1) (here f (i + 1) h).next
