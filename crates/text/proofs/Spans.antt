-- Laws of `span_at` over offsets of one text.
use Prim.Native.Nat.{ℕ, zero, suc, ◌+◌, ◌≤◌, ◌<◌}
use native.Mathlib.Omega.{arith}
use native.Mathlib.Numerals.{add-one}
use native.Mathlib.Nat.{le_of_eq, not-le_of_lt, add-zero}
use mathlib.Core.Path.{◌≡◌, sym, ap, ◌∙◌}
use mathlib.Core.List.{List, [], ◌∷◌}
use mathlib.Core.Bool.{Bool, true, false, true≢false}
use lib.ListN.{length, get_or, take, drop, drop_of_length-le}
use lib.Seq.{drop-cons}
use denote.Ref.{Bor}
use Rattle.std.specs.Prelude.{Option, Some, None}
use Rattle.std.specs.Option.{unwrap_or}
use Rattle.std.specs.List.{prefix_len}
use Rattle.std.specs.Slice.{IsGetRangeResult}
use Rattle.std.proofs.lemmas.List.Folds.{length-prefix_len}
use Rattle.std.proofs.lemmas.List.{take_rest}
use lib.Dec.{leb}
use borrow.Author.Tests.{leb-true, leb-false}
use Rattle.text.specs.SpansCode.{span_at}
use Rattle.lists.proofs.Cases.{by_cases, le_or_lt}

pub drop_one : (s : List ℕ) (i : ℕ) → i < length s → drop i s ≡ get_or s i 0 ∷ drop (i + 1) s
drop_one s i h = rw (add-one, drop-cons s i 0)

-- one byte on
pub span_more : (p : ℕ → Bool) (s : List ℕ) (i : ℕ) → i < length s → p (get_or s i 0) ≡ true
    → span_at p (drop i s) i ≡ span_at p (drop (i + 1) s) (i + 1)
unfolding span_at
span_more p s i h e = ap (λ (l : List ℕ). span_at p l i) (drop_one s i h) ∙ rw (e, span_at)

pub span_here : (p : ℕ → Bool) (s : List ℕ) (i : ℕ) → i < length s → p (get_or s i 0) ≡ false → span_at p (drop i s) i ≡ i
unfolding span_at
span_here p s i h e = ap (λ (l : List ℕ). span_at p l i) (drop_one s i h) ∙ rw (e, span_at)

pub span_end : (p : ℕ → Bool) (s : List ℕ) (i : ℕ) → length s ≤ i → span_at p (drop i s) i ≡ i
unfolding span_at
span_end p s i h = ap (λ (l : List ℕ). span_at p l i) (drop_of_length-le s h)

-- how many bytes of the kind s starts with
span_prefix : (p : ℕ → Bool) (s : List ℕ) (i : ℕ) → i + prefix_len p s ≡ span_at p s i
unfolding span_at
span_prefix p [] i = add-zero i
span_prefix p (b ∷ s) i =
    by_cases (p b) (λ t. rw (t, span_at) (omega (arith, span_prefix p s (i + 1)))) (λ t. rw (t, span_at) (add-zero i))

pub span_taken : (p : ℕ → Bool) (s : List ℕ) (i : ℕ) {n : ℕ} → n ≡ length (take (prefix_len p s) s) → i + n ≡ span_at p s i
span_taken p s i e = ap (λ n. i + n) (e ∙ length-prefix_len p s) ∙ span_prefix p s i

-- the bytes from i on, as `get` lends them
pub rest_is : (s : List ℕ) (i : ℕ) (o : Option (Bor (List ℕ))) (none : Bor (List ℕ)) → IsGetRangeResult s i (length s) o → none.now ≡ []
    → (unwrap_or o none).now ≡ drop i s
rest_is s i None none h e = by_cases (leb i (length s)) (λ t. absurd (true≢false (sym (h.1 (leb-true _ _ t, omega arith))))) (λ t. e ∙ sym (drop_of_length-le s (omega (arith, leb-false _ _ t))))
rest_is s i (Some x) none h e = h.0.2 ∙ take_rest s i

-- from the end of s down
downward_by : (s : List ℕ) (P : ℕ → Type 0) → ((i : ℕ) → length s ≤ i → P i) → ((i : ℕ) → i < length s → P (i + 1) → P i) → (n i : ℕ)
    → length s ≤ i + n → P i
downward_by s P e m zero i h = e i (omega arith)
downward_by s P e m (suc n) i h = le_or_lt (length s) i (λ l. e i l) (λ l. m i l (downward_by s P e m n (i + 1) (omega arith)))

pub downward : (s : List ℕ) (P : ℕ → Type 0) → ((i : ℕ) → length s ≤ i → P i) → ((i : ℕ) → i < length s → P (i + 1) → P i) → (i : ℕ) → P i
downward s P e m i = downward_by s P e m (length s) i (omega arith)

module _ (p : ℕ → Bool) (s : List ℕ) where
  pub span_low : (i : ℕ) → i ≤ span_at p (drop i s) i
  span_low = downward s (λ i. i ≤ span_at p (drop i s) i)
      (λ i h. le_of_eq (sym (span_end p s i h)))
      (λ i h r. by_cases (p (get_or s i 0)) (λ t. rw (span_more p s i h t) (omega arith)) (λ t. le_of_eq (sym (span_here p s i h t))))

  pub span_high : (i : ℕ) → i ≤ length s → span_at p (drop i s) i ≤ length s
  span_high = downward s (λ i. i ≤ length s → span_at p (drop i s) i ≤ length s)
      (λ i h l. rw (span_end p s i h) l)
      (λ i h r l. by_cases (p (get_or s i 0)) (λ t. rw (span_more p s i h t) (r (omega arith))) (λ t. rw (span_here p s i h t) l))

  -- the byte behind the span is not of the kind
  pub span_stop : (i : ℕ) → span_at p (drop i s) i < length s → p (get_or s (span_at p (drop i s) i) 0) ≡ false
  span_stop = downward s (λ i. span_at p (drop i s) i < length s → p (get_or s (span_at p (drop i s) i) 0) ≡ false)
      (λ i h. rw (span_end p s i h) (λ l. absurd (not-le_of_lt l h)))
      (λ i h r. by_cases (p (get_or s i 0)) (λ t. rw (span_more p s i h t) r) (λ t. rw (span_here p s i h t) (λ l. t)))

  -- what each byte of the kind leaves as it is, they leave together
  span_keeps : {A : Type 0} (g : ℕ → A) → ((i : ℕ) → i < length s → p (get_or s i 0) ≡ true → g i ≡ g (i + 1)) → (i : ℕ)
      → g i ≡ g (span_at p (drop i s) i)
  span_keeps g k = downward s (λ i. g i ≡ g (span_at p (drop i s) i))
      (λ i h. ap g (sym (span_end p s i h)))
      (λ i h r. by_cases (p (get_or s i 0)) (λ t. k i h t ∙ r ∙ ap g (sym (span_more p s i h t))) (λ t. ap g (sym (span_here p s i h t))))

-- the same, of an offset that a reader answered
module _ (p : ℕ → Bool) (s : List ℕ) (i j : ℕ) (e : j ≡ span_at p (drop i s) i) where
  pub low_of : i ≤ j
  low_of = rw e (span_low p s i)

  pub high_of : i ≤ length s → j ≤ length s
  high_of h = rw e (span_high p s i h)

  pub stop_of : j < length s → p (get_or s j 0) ≡ false
  stop_of = rw e (span_stop p s i)

  pub keeps_of : {A : Type 0} (g : ℕ → A) → ((k : ℕ) → k < length s → p (get_or s k 0) ≡ true → g k ≡ g (k + 1)) → g i ≡ g j
  keeps_of g k = rw e (span_keeps p s g k i)

  -- a wider kind ends where it ends behind them
  pub wider_of : (q : ℕ → Bool) → ((b : ℕ) → p b ≡ true → q b ≡ true) → span_at q (drop j s) j ≡ span_at q (drop i s) i
  wider_of q w = sym (keeps_of (λ k. span_at q (drop k s) k) (λ k h t. span_more q s k h (w (get_or s k 0) t)))
