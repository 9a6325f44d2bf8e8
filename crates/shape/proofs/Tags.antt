-- What the readers of a start tag do.
use Prim.Native.Nat.{ℕ, ◌+◌, ◌≤◌, ◌<◌}
use native.Mathlib.Omega.{arith}
use mathlib.Core.Path.{◌≡◌, refl, ap, ◌∙◌}
use mathlib.Core.List.{List, [], ◌∷◌}
use mathlib.Core.Bool.{true, false}
use lib.ListN.{length, get_or, drop, drop_of_length-le}
use borrow.Author.Tests.{eq-eqb, ne_eqb}
use Rattle.shape.specs.declared.Stop.{Stop}
use Rattle.shape.specs.declared.Tag.TheVariants.{Open, Empty}
use Rattle.std.specs.Prelude.{Ok, Err, IsErrAnd}
use Rattle.text.specs.Kinds.{is_blank, is_start, is_name, is_value}
use Rattle.text.specs.SpansCode.{span_at}
use Rattle.lists.proofs.Cases.{by_cases, le_or_lt}
use Rattle.text.proofs.Spans.{drop_one, span_more, span_here, span_end, low_of, stop_of}
use Rattle.shape.specs.MachineCode.{Step, idle, inside, slash, close_gap, gap, attr, attr_gap, equal, value, valued, bad, at, goes}
use Rattle.shape.specs.ReadsCode.{Reads, Expects, Around, tagged, ReadsAttributes, PastTag, TagEnd, TagRest, closing_tag, behind, SameName, TagStep}
use Rattle.shape.proofs.Bytes.{blank_34, blank_47, blank_61, blank_62, value_34}
use Rattle.shape.proofs.Run.{at_step, at_dead, at_same, run_of}
use Rattle.shape.proofs.Steps.{handed_on, reads_behind, reads_byte, reads_only}

-- the name of an attribute, blanks, `=`
pub equals_reads : {s : List ℕ} {i j k : ℕ} {r : Step} → j ≡ span_at is_name (drop i s) i → k ≡ span_at is_blank (drop j s) j
    → Expects 61 s k r
    → Reads (tagged attr) (tagged equal) s i r
equals_reads {s} {i} {j} {k} {r} ej ek x =
    reads_behind s i j r (low_of is_name s i j ej)
    (λ a. run_of is_name s i j ej (tagged attr a) (λ b t. rw t)
    ∙ at_same (tagged attr a) (tagged attr_gap a) s j (λ l. rw (stop_of is_name s i j ej l)) refl)
    (reads_behind s j k r (low_of is_blank s j k ek)
    (λ a. run_of is_blank s j k ek (tagged attr_gap a) (λ b t. rw t))
    (reads_byte (tagged attr_gap) (tagged equal) is_blank s k r (stop_of is_blank s j k ek) (λ a. rw blank_61)
    (λ a c t e. simp (t, ne_eqb _ _ e)) (λ a. refl) x))

-- blanks and the first `"`
pub quote_reads : {s : List ℕ} {i j : ℕ} {r : Step} → j ≡ span_at is_blank (drop i s) i → Expects 34 s j r
    → Reads (tagged equal) (tagged value) s i r
quote_reads {s} {i} {j} {r} e x =
    reads_behind s i j r (low_of is_blank s i j e)
    (λ a. run_of is_blank s i j e (tagged equal a) (λ b t. rw t))
    (reads_byte (tagged equal) (tagged value) is_blank s j r (stop_of is_blank s i j e) (λ a. rw blank_34) (λ a c t e. simp (t, ne_eqb _ _ e))
    (λ a. refl) x)

-- the value and the last `"`
pub value_reads : {s : List ℕ} {i j : ℕ} {r : Step} → j ≡ span_at is_value (drop i s) i → Expects 34 s j r
    → Reads (tagged value) (tagged valued) s i r
value_reads {s} {i} {j} {r} e x =
    reads_behind s i j r (low_of is_value s i j e)
    (λ a. run_of is_value s i j e (tagged value a) (λ b t. rw t))
    (reads_byte (tagged value) (tagged valued) is_value s j r (stop_of is_value s i j e) (λ a. rw value_34)
    (λ a c t e. simp (t, ne_eqb _ _ e)) (λ a. refl) x)

-- blanks behind a name or a value
pub blanks_gap : (s : List ℕ) (x : Around) (j k : ℕ) → k ≡ span_at is_blank (drop j s) j → (k ≡ j → ⊥)
    → at (tagged valued x) s j ≡ at (tagged gap x) s k
blanks_gap s x j k e ne =
    le_or_lt (length s) j (λ l. absurd (ne (e ∙ span_end is_blank s j l)))
    (λ l. by_cases (is_blank (get_or s j 0))
    (λ t. at_step (tagged valued x) s j l (rw t) ∙ run_of is_blank s (j + 1) k (e ∙ span_more is_blank s j l t) (tagged gap x) (λ b u. rw u))
    (λ t. absurd (ne (e ∙ span_here is_blank s j l t))))

-- blanks with no attribute behind them are as good as none
pub gap_valued : (s : List ℕ) (x : Around) (k : ℕ) → (k < length s → is_blank (get_or s k 0) ≡ false)
    → (k < length s → is_start (get_or s k 0) ≡ false) → at (tagged gap x) s k ≡ at (tagged valued x) s k
gap_valued s x k b t = at_same (tagged gap x) (tagged valued x) s k (λ l. simp (b l, t l)) refl

pub gap_attr : (s : List ℕ) (x : Around) (k : ℕ) → k < length s → is_blank (get_or s k 0) ≡ false → is_start (get_or s k 0) ≡ true
    → at (tagged gap x) s k ≡ at (tagged attr x) s (k + 1)
gap_attr s x k l b t = at_step (tagged gap x) s k l (simp (b, t))

-- blanks and an attribute
pub attrs_more : (s : List ℕ) (j k : ℕ) (r : Step) → k ≡ span_at is_blank (drop j s) j → (k ≡ j → ⊥) → k < length s
    → is_start (get_or s k 0) ≡ true → Reads (tagged attr) (tagged valued) s (k + 1) r → Reads (tagged valued) (tagged valued) s j r
attrs_more s j k r e ne l t y =
    let low : j ≤ k = low_of is_blank s j k e in
    reads_behind s j (k + 1) r (omega arith) (λ x. blanks_gap s x j k e ne ∙ gap_attr s x k l (stop_of is_blank s j k e l) t) y

-- blanks, if any, with no attribute behind them
pub attrs_stop : (s : List ℕ) (j k : ℕ) → k ≡ span_at is_blank (drop j s) j → (k < length s → (k ≡ j → ⊥) → is_start (get_or s k 0) ≡ false)
    → (x : Around) → at (tagged valued x) s j ≡ at (tagged valued x) s k
attrs_stop s j k e t x =
    le_or_lt k j (λ l. let q : j ≡ k = omega (arith, low_of is_blank s j k e) in ap (at (tagged valued x) s) q)
    (λ l. let n : k ≡ j → ⊥ = λ q. omega (arith, q) in
    blanks_gap s x j k e n ∙ gap_valued s x k (stop_of is_blank s j k e) (λ h. t h n))

pub tag_slash : (s : List ℕ) (x : Around) (i : ℕ) → i < length s → get_or s i 0 ≡ 47 → at (tagged valued x) s i ≡ at (slash x.0) s (i + 1)
tag_slash s x i h e = at_step (tagged valued x) s i h (rw (e, blank_47))

pub tag_open : (s : List ℕ) (x : Around) (i : ℕ) → i < length s → get_or s i 0 ≡ 62
    → at (tagged valued x) s i ≡ at (idle (inside x.1 x.0)) s (i + 1)
tag_open s x i h e = at_step (tagged valued x) s i h (rw (e, blank_62))

pub tag_dead : (s : List ℕ) (x : Around) (i : ℕ) → i < length s → is_blank (get_or s i 0) ≡ false → (get_or s i 0 ≡ 47 → ⊥)
    → (get_or s i 0 ≡ 62 → ⊥) → at (tagged valued x) s i ≡ bad i
tag_dead s x i h b e f = at_dead (tagged valued x) s i h (simp (b, ne_eqb _ _ e, ne_eqb _ _ f))

pub slash_close : (s : List ℕ) (i : ℕ) (r : Step) → Expects 62 s i r → Reads slash behind s i r
slash_close s i r = reads_only slash behind s i r (λ k. refl) (λ k a e. rw (ne_eqb _ _ e)) (λ k. refl)

pub tag_from : (s : List ℕ) (i j : ℕ) (r : TagStep) → i ≤ j → PastTag s j r → PastTag s i r
tag_from s i j (Ok (Open k)) h p = omega arith
tag_from s i j (Ok (Empty k)) h p = omega arith
tag_from s i j (Err e) h p = tt

-- the name n of an end tag, of which the letters from a on are to come: one more
pub name_step : {r : Step} (s n : List ℕ) (k : List (List ℕ)) (a j : ℕ) → a < length n → Expects (get_or n a 0) s j r
    → at (closing_tag (drop a n) k) s j ≡ goes (closing_tag (drop (a + 1) n) k) s r
name_step s n k a j h x =
    let b : ℕ = get_or n a 0 in
    let m : List ℕ = drop (a + 1) n in
    rw (drop_one n a h) (x.run (closing_tag (b ∷ m) k) (closing_tag m k) (rw (eq-eqb b b refl)) (λ l e. rw (ne_eqb _ _ e)) refl)

-- behind the name of an end tag
pub close_reads : {s : List ℕ} {i j : ℕ} {r : Step} → j ≡ span_at is_blank (drop i s) i → Expects 62 s j r
    → Reads (closing_tag []) behind s i r
close_reads {s} {i} {j} {r} e x =
    reads_behind s i j r (low_of is_blank s i j e)
    (λ k. at_same (closing_tag [] k) (close_gap k) s i (λ l. refl) refl ∙ run_of is_blank s i j e (close_gap k) (λ b t. rw t))
    (reads_byte close_gap behind is_blank s j r (stop_of is_blank s i j e) (λ a. rw blank_62) (λ a c t e. simp (t, ne_eqb _ _ e)) (λ a. refl)
    x)

pub name_over : (s n : List ℕ) (k : List (List ℕ)) (a j : ℕ) → length n ≤ a → at (closing_tag (drop a n) k) s j ≡ at (closing_tag [] k) s j
name_over s n k a j h = ap (λ (m : List ℕ). at (closing_tag m k) s j) (drop_of_length-le n h)

pub end_reads : {s n : List ℕ} {i j k : ℕ} {r : Step} → SameName n s i (Ok j) → k ≡ span_at is_blank (drop j s) j
    → Expects 62 s k r → Reads (closing_tag n) behind s i r
end_reads {s} {n} {i} {j} {k} {r} x b y = reads_behind s i j r x.from x.run (close_reads b y)

pub end_bad : {s n : List ℕ} {i : ℕ} {e : Stop} {r : Step} → SameName n s i (Err e) → IsErrAnd r (λ y. y ≡ e)
    → Reads (closing_tag n) behind s i r
end_bad {s} {n} {i} {e} {r} x g = rw (handed_on r g) (record { run = x.run; past = tt })

module _ {s : List ℕ} {i : ℕ} (h : i < length s) (e : get_or s i 0 ≡ 47) where
  pub tag_empty : {j : ℕ} → Expects 62 s (i + 1) (Ok j) → TagEnd s i (Ok (Empty j))
  tag_empty x =
      let y = slash_close s (i + 1) _ x in
      record { run = λ b a. tag_slash s a i h e ∙ y.run a.0; past = omega (arith, y.past.0, y.past.1) }

  pub tag_empty_bad : {f : Stop} → Expects 62 s (i + 1) (Err f) → TagEnd s i (Err f)
  tag_empty_bad x = record { run = λ b a. tag_slash s a i h e ∙ (slash_close s (i + 1) _ x).run a.0; past = tt }

pub rest_end : {s : List ℕ} {i j : ℕ} {r : TagStep} → ReadsAttributes s i (Ok j) → TagEnd s j r → TagRest s i r
rest_end {s} {i} {j} {r} x y = record { run = λ a. x.run a ∙ y.run x.stands.1 a; past = tag_from s i j r x.stands.0 y.past }
