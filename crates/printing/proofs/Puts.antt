-- Texts behind texts, also where they are cut off.
use Prim.Native.Nat.{ℕ, zero, suc, ◌+◌, ◌-◌, ◌≤◌, ◌<◌, ◌^◌, min}
use mathlib.Core.Path.{◌≡◌, refl, sym, ap, ◌∙◌}
use mathlib.Core.List.{List, [], ◌∷◌, ◌++◌, append_assoc, append-nil}
use native.Mathlib.Omega.{arith}
use native.Mathlib.Numerals.{add-one}
use lib.ListN.{length, get_or, take, drop, length-take, length-drop, length-append, drop_of_length-le}
use lib.Seq.{take_all, take-nil, take-suc}
use borrow.Author.Tests.{lt-ltb, le-ltb}
use Rattle.std.specs.Fmt as fmt
use Rattle.std.proofs.lemmas.Fmt.{AppendsLastDigit, decimal_from_appends, length-decimal-le}
use Rattle.text.specs.Texts.{bytes}
use Rattle.std.specs.Prelude.{Ok, Err}
use Rattle.file_rules.specs.RefusalCode.{refused_at}
use Rattle.converter.specs.Converter.{Converts, Converted}
use Rattle.printing.specs.declared.Form.{Form}
use Rattle.printing.specs.declared.Form.TheVariants as forms
use Rattle.printing.specs.Printing.{digits_of, decimal, text_line, refusal_text, plan_text, word_lines, words_text, form_text, printed_over, Prints, prints}
use Rattle.printing.specs.PrintingCode.{Put}
use Rattle.lists.proofs.Cases.{le_or_lt}
use Rattle.lists.proofs.Fills.{taken}

pub length_printed : (t d : List ℕ) → length (printed_over t d) ≡ length d
unfolding printed_over
length_printed t d = simp (length-append, length-take, length-drop) (omega arith)

-- ---- a text
cut_front : (t d : List ℕ) → take (min (length t) (length d)) t ≡ take (length d) t
cut_front t d = let e : min (length t) (length d) ≡ min (length d) (length t) = omega arith in ap (λ (n : ℕ). take n t) e ∙ taken (length d) t

cut_behind : (t d : List ℕ) → drop (min (length t) (length d)) d ≡ drop (length t) d
cut_behind t d =
    le_or_lt (length t) (length d) (λ h. let e : min (length t) (length d) ≡ length t = omega arith in ap (λ (n : ℕ). drop n d) e)
    (λ h.
    let e : min (length t) (length d) ≡ length d = omega arith in
    ap (λ (n : ℕ). drop n d) e ∙ drop_of_length-le d {i = length d} (omega arith)
    ∙ sym (drop_of_length-le d {i = length t} (omega (arith, h))))

pub put_front : (t d e : List ℕ) (r : ℕ) → r ≡ min (length t) (length d) → e ≡ take r t ++ drop r d → Put t d r e
unfolding printed_over
put_front t d e r h q = record { count = h; over = q ∙ rw (h, cut_front t d, cut_behind t d) }

-- ---- a text behind a text
over_behind : (u t d : List ℕ) (r : ℕ) → r ≡ min (length t) (length d)
    → take r (printed_over t d) ++ printed_over u (drop r (printed_over t d)) ≡ printed_over (t ++ u) d
unfolding printed_over
over_behind u [] d r h = let z : r ≡ 0 = omega arith in rw (z, take-nil (length d))
over_behind u (x ∷ t) [] r h = let z : r ≡ 0 = omega arith in rw z (drop_of_length-le [] {i = length u} (omega arith))
over_behind u (x ∷ t) (y ∷ d) zero h = absurd (omega arith)
over_behind u (x ∷ t) (y ∷ d) (suc r) h = ap (λ (l : List ℕ). x ∷ l) (over_behind u t d r (omega arith))

module _ {t d e : List ℕ} {r : ℕ} (a : Put t d r e) where
  pub put_long : length e ≡ length d
  put_long = ap length a.over ∙ length_printed t d

  -- what is put behind, into the rest of the buffer
  pub put_behind : {u f : List ℕ} {q : ℕ} → Put u (take (length e - r) (drop r e)) q f
      → Put (t ++ u) d (r + q) (take r e ++ (f ++ drop (length e - r) (drop r e)))
  put_behind {u} {f} {q} b =
      let rest : take (length e - r) (drop r e) ≡ drop r e = take_all (length e - r) (drop r e) (omega (arith, length-drop r e)) in
      let none : drop (length e - r) (drop r e) ≡ [] = drop_of_length-le (drop r e) {i = length e - r} (omega (arith, length-drop r e)) in
      let c = rw rest at b in
      record {
        count = omega (arith, a.count, c.count, put_long, length-append t u, length-drop r e);
        over = rw (none, append-nil f, c.over, a.over) (over_behind u t d r a.count);
      }

pub put_none : (d : List ℕ) → Put [] d 0 d
unfolding printed_over
put_none d = record { count = omega arith; over = sym (rw (take-nil (length d))) }

-- ---- digits
last_digit : AppendsLastDigit digits_of
unfolding digits_of
last_digit = record { one = λ k n h. rw (lt-ltb n 10 h); more = λ k n h. rw (le-ltb n 10 h) }

pub decimal_is : (n : ℕ) → n < 2 ^ 64 → fmt.decimal n ≡ decimal n
unfolding decimal
decimal_is n h = sym (decimal_from_appends digits_of last_digit 20 n h (length-decimal-le 20 n (omega arith) (omega arith) h))

-- ---- lines
lines_append : (a b : List ℕ) → word_lines (a ++ b) ≡ word_lines a ++ word_lines b
unfolding word_lines
lines_append [] b = refl
lines_append (w ∷ a) b = ap (λ (l : List ℕ). text_line "" w ++ l) (lines_append a b)
    ∙ sym (append_assoc (text_line "" w) (word_lines a) (word_lines b))

line_alone : (w : ℕ) → word_lines (w ∷ []) ≡ decimal w ++ bytes "\n"
unfolding word_lines text_line bytes
line_alone w = append-nil (decimal w ++ bytes "\n")

pub lines_more : (ws d e f : List ℕ) (i r q w : ℕ) → Put (word_lines (take i ws)) d r e → i < length ws → w ≡ get_or ws i 0
    → Put (decimal w ++ bytes "\n") (take (length e - r) (drop r e)) q f
    → Put (word_lines (take (i + 1) ws)) d (r + q) (take r e ++ (f ++ drop (length e - r) (drop r e)))
lines_more ws d e f i r q w a h x b =
    rw (add-one i, take-suc ws i 0 h, lines_append (take i ws) (get_or ws i 0 ∷ []), line_alone (get_or ws i 0), ← x) (put_behind a b)

pub lines_all : (ws d e : List ℕ) (n m i at : ℕ) → m ≡ min n (length ws) → length (take m ws) ≤ i
    → Put (word_lines (take i (take m ws))) d at e
    → Put (word_lines (take n ws)) d at e
lines_all ws d e n m i at q h a = rw (← taken n ws, ← q) (rw (take_all i (take m ws) h) at a)

-- ---- a plan's six lines, one behind the other
pub summed : (ws : List ℕ) (n : ℕ) {d e : List ℕ} {a b c f g r : ℕ}
    → a ≡ get_or ws 1 0
    → b ≡ get_or ws 2 0
    → c ≡ get_or ws 3 0
    → f ≡ get_or ws 4 0
    → g ≡ get_or ws 5 0
    → Put (((((text_line "channels=" a ++ text_line "log_all=" b) ++ text_line "triggers=" c) ++ text_line "filters=" f)
    ++ text_line "statements=" g) ++ text_line "words=" n) d r e
    → Put (plan_text (Ok n) ws) d r e
unfolding plan_text
summed ws n pa pb pc pf pg x = rw (← pa, ← pb, ← pc, ← pf, ← pg) (simp append_assoc at x)

-- ---- the answer of `convert`, told
told : {say : Converted → List ℕ → List ℕ} {s d e t f : List ℕ} {a b : Converted} {r : ℕ} → Converts s d a e → a ≡ b → Put (say b e) t r f
    → Prints say s d t r e f
told {say} {s} {d} {e} {t} {f} {a} {b} {r} h q p = rw (p.count, p.over) (prints b e (rw q at h))

module _ {form : Form} {s d e t f : List ℕ} {a : Converted} {r n : ℕ} (h : Converts s d a e) where
  pub told_plan : a ≡ Ok n → form ≡ forms.Plan → Put (plan_text (Ok n) e) t r f → Prints (form_text form) s d t r e f
  unfolding form_text
  told_plan q g p = rw g (told h q p)

  pub told_words : a ≡ Ok n → form ≡ forms.Words → Put (word_lines (take n e)) t r f → Prints (form_text form) s d t r e f
  unfolding form_text words_text
  told_words q g p = rw g (told h q p)

refused_alike : (form : Form) (n p : ℕ) (ws : List ℕ) → refusal_text n p ≡ form_text form (Err (refused_at n p)) ws
unfolding form_text plan_text words_text
refused_alike forms.Plan n p ws = refl
refused_alike forms.Words n p ws = refl

pub told_refusal : (form : Form) {s d e t f : List ℕ} {a : Converted} {r n p : ℕ} → Converts s d a e → a ≡ Err (refused_at n p)
    → Put (refusal_text n p) t r f → Prints (form_text form) s d t r e f
told_refusal form {e = e} {n = n} {p} h q w = told h q (rw (← refused_alike form n p e) w)
