-- Offsets of a file: what stands at one, and where a step leads.
use Prim.Native.Nat.{ℕ, ◌+◌, ◌≤◌, ◌<◌}
use native.Mathlib.Omega.{arith}
use mathlib.Core.Path.{◌≡◌, sym, ap, ◌∙◌}
use mathlib.Core.List.{List, ◌∷◌}
use borrow.Author.Tests.{le-leb, lt-leb}
use lib.ListN.{length, get_or, drop, length-drop, get_or-eq_default}
use Rattle.lists.proofs.Cases.{le_or_lt}
use Rattle.text.proofs.Spans.{drop_one}
use Rattle.walk.specs.WalkCode.{ahead}

-- a byte other than 0 stands in the file
pub inside : (f : List ℕ) (i : ℕ) → 0 < get_or f i 0 → i < length f
inside f i h = le_or_lt (length f) i (λ l. absurd (omega (arith, get_or-eq_default f 0 l))) (λ l. l)

pub record Here (f : List ℕ) (i c : ℕ) (r : List ℕ) : Type 0 where
  pub inner : i < length f
  pub byte : get_or f i 0 ≡ c
  pub next : drop (i + 1) f ≡ r

pub here : (f : List ℕ) (i : ℕ) {c : ℕ} {r : List ℕ} → drop i f ≡ c ∷ r → Here f i c r
here f i {c} {r} e =
    let l : i < length f = omega (arith, ap length e, length-drop i f) in
    let q : get_or f i 0 ∷ drop (i + 1) f ≡ c ∷ r = sym (drop_one f i l) ∙ e in
    record { inner = l; byte = cc; next = cc }

-- two offsets with the same text behind them
pub same_place : (f : List ℕ) (i j : ℕ) → i ≤ length f → j ≤ length f → drop i f ≡ drop j f → i ≡ j
same_place f i j h k e = omega (arith, length-drop i f, length-drop j f, ap length e)

module _ (f : List ℕ) (i n : ℕ) where
  pub ahead_in : i + n ≤ length f → ahead f i n ≡ i + n
  unfolding ahead
  ahead_in h = rw (le-leb _ _ h)

  pub ahead_end : length f ≤ i + n → ahead f i n ≡ length f
  unfolding ahead
  ahead_end h = le_or_lt (i + n) (length f) (λ l. rw (le-leb _ _ l) (omega arith)) (λ l. rw (lt-leb _ _ l))

  pub ahead_high : ahead f i n ≤ length f
  ahead_high = le_or_lt (i + n) (length f) (λ l. omega (arith, ahead_in l)) (λ l. omega (arith, ahead_end (omega arith)))

  pub ahead_low : i < length f → 0 < n → i < ahead f i n
  ahead_low h k = le_or_lt (i + n) (length f) (λ l. omega (arith, ahead_in l)) (λ l. omega (arith, ahead_end (omega arith)))
