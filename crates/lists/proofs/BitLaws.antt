-- Sets of numbers as the bits of one number, and tables over the numbers below a bound.
use Prim.Native.Nat.{ℕ, zero, suc, ◌+◌, ◌*◌, ◌/◌, ◌%◌, ◌^◌, ◌≤◌, ◌<◌, min, max}
use mathlib.Core.Path.{◌≡◌, refl, sym, ap, ap₂, ◌∙◌}
use mathlib.Core.List.{List, map}
use mathlib.Core.Bool.{Bool, true, false, not, cond, ◌&&◌, ◌||◌, true≢false}
use native.Mathlib.Omega.{arith}
use native.Mathlib.Numerals.{add-one, one-add}
use native.Mathlib.Nat.{zero-add, add-zero, add-suc, suc-add, one-mul, div-one, div-eq_of_lt, div-add-mod', mod-lt}
use native.Mathlib.Nat.{le_refl, le_of_suc-le-suc, not-suc-le-zero, lt_of_lt_of_le, lt_of_le_of_lt}
use lib.Arith.{lt-one, digits_mod}
use lib.Pow.{pow_pos, pow_mono, pow-lt, shl_exact, shr_lt, shr-shr}
use lib.Bits.{bit_and, bit_or, and_step, or_step, and_shr, or_shr, and_le_r, shifted_half, shifted_even}
use lib.Dec.{eqb, eqb-zero-suc, eqb-suc-zero, eqb-suc-suc}
use lib.ListN.{get_or}
use borrow.Author.Tests.{eq-eqb, ne_eqb, not-true}
use Rattle.lists.specs.Lists.{any}
use Rattle.lists.specs.BitsCode.{from, upto, has_bit, with_bit, Marks}
use Rattle.lists.proofs.Cases.{by_cases, le_or_lt}
use Rattle.lists.proofs.Parts.{and_left, and_right, or_second, agree}

-- ---- the numbers below n
pick : {A : Type 0} (f : ℕ → A) (d : A) (n i k : ℕ) → k < n → get_or (map f (from i n)) k d ≡ f (i + k)
unfolding from
pick f d zero i k h = absurd (not-suc-le-zero h)
pick f d (suc n) i zero h = ap f (sym (add-zero i))
pick f d (suc n) i (suc k) h = pick f d n (suc i) k (le_of_suc-le-suc h) ∙ ap f (suc-add i k ∙ sym (add-suc i k))

-- two functions are equal below n if their tables are
pub everywhere : {A : Type 0} (f g : ℕ → A) (n : ℕ) → map f (upto n) ≡ map g (upto n) → (k : ℕ) → k < n → f k ≡ g k
everywhere {A} f g n e k h =
    ap f (sym (zero-add k)) ∙ sym (pick f (f k) n 0 k h) ∙ ap (λ (l : List A). get_or l k (f k)) e ∙ pick g (f k) n 0 k h ∙ ap g (zero-add k)

module _ (p : ℕ → Bool) where
  found_from : (n i : ℕ) → any p (from i n) ≡ true → (k : ℕ) × (k < i + n) × (p k ≡ true)
  unfolding any from
  found_from zero i e = absurd (true≢false (sym e))
  found_from (suc n) i e =
      by_cases (p i) (λ t. (i, omega arith, t)) (λ t. let r = found_from n (suc i) (rw t at e) in (r.0, omega (arith, r.1), r.2))

  back_from : (n i k : ℕ) → i ≤ k → k < i + n → p k ≡ true → any p (from i n) ≡ true
  unfolding any from
  back_from zero i k l h e = absurd (omega arith)
  back_from (suc n) i k l h e =
      le_or_lt k i
      (λ q. let w : k ≡ i = omega arith in ap (λ (t : Bool). t || any p (from (suc i) n)) (ap p (sym w) ∙ e))
      (λ q. or_second (p i) (any p (from (suc i) n)) (back_from n (suc i) k (omega arith) (omega arith) e))

  -- one of them passes the test p
  pub any_upto_found : (n : ℕ) → any p (upto n) ≡ true → (k : ℕ) × (k < n) × (p k ≡ true)
  any_upto_found n e = let r = found_from n 0 e in (r.0, omega (arith, r.1), r.2)

  pub any_upto_back : (n k : ℕ) → k < n → p k ≡ true → any p (upto n) ≡ true
  any_upto_back n k h e = back_from n 0 k (omega arith) (omega arith) e

  none_upto : (n k : ℕ) → any p (upto n) ≡ false → k < n → p k ≡ false
  none_upto n k e h = by_cases (p k) (λ t. absurd (true≢false (sym (any_upto_back n k h t) ∙ e))) (λ t. t)

-- ---- digits
two_pos : 0 < 2
two_pos = omega arith

digit_low : (t : Bool) → cond t 1 0 < 2
digit_low true = omega arith
digit_low false = omega arith

digit_set : (t : Bool) → eqb (cond t 1 0) 1 ≡ t
digit_set true = refl
digit_set false = refl

digit_is : (x : ℕ) → x < 2 → x ≡ cond (eqb x 1) 1 0
digit_is zero h = refl
digit_is (suc zero) h = refl
digit_is (suc (suc x)) h = absurd (omega arith)

-- `has_bit m k` is `odd (m / 2 ^ k)`
abbrev odd : ℕ → Bool
odd m = eqb (m % 2) 1

odd_is : (m : ℕ) → m % 2 ≡ cond (odd m) 1 0
odd_is m = digit_is (m % 2) (mod-lt m two_pos)

digit_or : (s t : Bool) → max (cond s 1 0) (cond t 1 0) ≡ cond (s || t) 1 0
digit_or true true = refl
digit_or true false = refl
digit_or false true = refl
digit_or false false = refl

digit_and : (s t : Bool) → min (cond s 1 0) (cond t 1 0) ≡ cond (s && t) 1 0
digit_and true true = refl
digit_and true false = refl
digit_and false true = refl
digit_and false false = refl

-- ---- bits
bit_first : (m : ℕ) → has_bit m 0 ≡ odd m
bit_first m = ap odd (div-one m)

bit_next : (m k : ℕ) → has_bit m (suc k) ≡ has_bit (m / 2) k
bit_next m k = ap (has_bit m) (sym (one-add k)) ∙ ap odd (sym (shr-shr m 1 k))

-- a number below 2 ^ n has none from n on
pub bit_past : (n m k : ℕ) → m < 2 ^ n → n ≤ k → has_bit m k ≡ false
bit_past n m k h l = ap odd (div-eq_of_lt (lt_of_lt_of_le h (pow_mono l)))

pub bit_none : (k : ℕ) → has_bit 0 k ≡ false
bit_none k = bit_past k 0 k (pow_pos k) (le_refl k)

-- an operation that goes by shifts and digits goes by bits
module _ (op f : ℕ → ℕ → ℕ) (g : Bool → Bool → Bool)
    (shr : (a b k : ℕ) → op a b / 2 ^ k ≡ op (a / 2 ^ k) (b / 2 ^ k))
    (step : (a b : ℕ) → op a b ≡ op (a / 2) (b / 2) * 2 + f (a % 2) (b % 2))
    (digit : (s t : Bool) → f (cond s 1 0) (cond t 1 0) ≡ cond (g s t) 1 0) where
  odd_op : (a b : ℕ) → odd (op a b) ≡ g (odd a) (odd b)
  odd_op a b =
      let q = op (a / 2) (b / 2) * 2 in
      let t = g (odd a) (odd b) in
      let e : op a b ≡ q + cond t 1 0 = step a b ∙ ap (λ (x : ℕ). q + x) (ap₂ f (odd_is a) (odd_is b) ∙ digit (odd a) (odd b)) in
      ap odd e ∙ ap (λ (x : ℕ). eqb x 1) (digits_mod (op (a / 2) (b / 2)) (digit_low t)) ∙ digit_set t

  bit_op : (a b k : ℕ) → has_bit (op a b) k ≡ g (has_bit a k) (has_bit b k)
  bit_op a b k = ap odd (shr a b k) ∙ odd_op (a / 2 ^ k) (b / 2 ^ k)

pub bit_or_lem : (a b k : ℕ) → has_bit (bit_or a b) k ≡ (has_bit a k || has_bit b k)
bit_or_lem = bit_op bit_or max ◌||◌ or_shr or_step digit_or

pub bit_and_lem : (a b k : ℕ) → has_bit (bit_and a b) k ≡ (has_bit a k && has_bit b k)
bit_and_lem = bit_op bit_and min ◌&&◌ and_shr and_step digit_and

one_half : (j : ℕ) → 2 ^ suc j / 2 ≡ 2 ^ j
one_half j = ap (λ (x : ℕ). x / 2) (sym (one-mul (2 ^ suc j))) ∙ shifted_half 1 j ∙ one-mul (2 ^ j)

one_even : (j : ℕ) → 2 ^ suc j % 2 ≡ 0
one_even j = ap (λ (x : ℕ). x % 2) (sym (one-mul (2 ^ suc j))) ∙ shifted_even 1 j

pub bit_one : (j k : ℕ) → has_bit (2 ^ j) k ≡ eqb k j
bit_one zero zero = refl
bit_one zero (suc k) = bit_next 1 k ∙ bit_none k ∙ sym (eqb-suc-zero k)
bit_one (suc j) zero = bit_first (2 ^ suc j) ∙ ap (λ (x : ℕ). eqb x 1) (one_even j) ∙ sym (eqb-zero-suc j)
bit_one (suc j) (suc k) = bit_next (2 ^ suc j) k ∙ ap (λ (x : ℕ). has_bit x k) (one_half j) ∙ bit_one j k ∙ sym (eqb-suc-suc k j)

pub bit_with : (m j k : ℕ) → has_bit (with_bit m j) k ≡ (has_bit m k || eqb k j)
bit_with m j k = bit_or_lem m (2 ^ j) k ∙ ap (λ (t : Bool). has_bit m k || t) (bit_one j k)

-- what `1 << k` gives
pub shl_one : (n k : ℕ) → k < n → 1 * 2 ^ k % 2 ^ n ≡ 2 ^ k
shl_one n k h = shl_exact 1 k n (le_refl 2) (rw (one-add k) h) ∙ one-mul (2 ^ k)

-- ---- a number is settled by its bits
half_below : (n m : ℕ) → m < 2 ^ suc n → m / 2 < 2 ^ n
half_below n m h = shr_lt n 1 (rw (add-one n) h)

same_below : (n a b : ℕ) → a < 2 ^ n → b < 2 ^ n → ((k : ℕ) → k < n → has_bit a k ≡ has_bit b k) → a ≡ b
same_below zero a b h l e = lt-one h ∙ sym (lt-one l)
same_below (suc n) a b h l e =
    let next : (k : ℕ) → k < n → has_bit (a / 2) k ≡ has_bit (b / 2) k = λ k g. sym (bit_next a k) ∙ e (suc k) (omega arith) ∙ bit_next b k in
    let first : odd a ≡ odd b = sym (bit_first a) ∙ e 0 (omega arith) ∙ bit_first b in
    let digit : a % 2 ≡ b % 2 = odd_is a ∙ ap (λ (t : Bool). cond t 1 0) first ∙ sym (odd_is b) in
    let half : a / 2 ≡ b / 2 = same_below n (a / 2) (b / 2) (half_below n a h) (half_below n b l) next in
    sym (div-add-mod' a 2) ∙ ap₂ (λ (x y : ℕ). x * 2 + y) half digit ∙ div-add-mod' b 2

below_pow : (m n : ℕ) → m ≤ n → m < 2 ^ n
below_pow zero n h = pow_pos n
below_pow (suc m) n h = lt_of_lt_of_le (lt_of_le_of_lt (below_pow m m (le_refl m)) (pow-lt (le_refl (suc m)))) (pow_mono h)

pub same_bits : (a b : ℕ) → ((k : ℕ) → has_bit a k ≡ has_bit b k) → a ≡ b
same_bits a b e = same_below (a + b) a b (below_pow a (a + b) (omega arith)) (below_pow b (a + b) (omega arith)) (λ k h. e k)

-- ---- are all of b in a?
kept : (s t : Bool) → (t && not s) ≡ false → (s && t) ≡ t
kept true t e = refl
kept false true e = absurd (true≢false e)
kept false false e = refl

lost : (s t : Bool) → (t && not s) ≡ true → (s && t) ≡ t → ⊥
lost s t e q =
    let u : s ≡ false = not-true s (and_right t (not s) e) in
    true≢false (sym (and_left t (not s) e) ∙ sym q ∙ ap (λ (v : Bool). v && t) u)

pub all_in : (a b n : ℕ) → b < 2 ^ n → eqb (bit_and a b) b ≡ not (any (λ k. has_bit b k && not (has_bit a k)) (upto n))
all_in a b n h =
    by_cases (any p (upto n))
    (λ t.
    let r = any_upto_found p n t in
    let k = r.0 in
    let apart : bit_and a b ≡ b → ⊥ = λ q. lost (has_bit a k) (has_bit b k) r.2 (sym (bit_and_lem a b k) ∙ ap (λ (x : ℕ). has_bit x k) q) in
    ne_eqb (bit_and a b) b apart ∙ sym (ap not t))
    (λ t.
    let same : bit_and a b ≡ b =
    same_below n (bit_and a b) b (lt_of_le_of_lt (and_le_r a b) h) h
    (λ k l. bit_and_lem a b k ∙ kept (has_bit a k) (has_bit b k) (none_upto p n k t l)) in
    eq-eqb (bit_and a b) b same ∙ sym (ap not t))
  where
    p : ℕ → Bool
    p k = has_bit b k && not (has_bit a k)

any_same : (p q : ℕ → Bool) (n : ℕ) → ((k : ℕ) → k < n → p k ≡ q k) → any p (upto n) ≡ any q (upto n)
any_same p q n h =
    agree (any p (upto n)) (any q (upto n))
    (λ t. let r = any_upto_found p n t in any_upto_back q n r.0 r.1 (sym (h r.0 r.1) ∙ r.2))
    (λ t. let r = any_upto_found q n t in any_upto_back p n r.0 r.1 (h r.0 r.1 ∙ r.2))

flip : (a b : Bool) → a ≡ not b → not a ≡ b
flip a true e = ap not e
flip a false e = ap not e

-- not all of the numbers for which f holds, which are m, are in the set a
pub lacks_marked : (a m : ℕ) (f : ℕ → Bool) → Marks 64 f m → m < 2 ^ 64 → (b : Bool) → b ≡ eqb (bit_and a m) m
    → not b ≡ any (λ k. f k && not (has_bit a k)) (upto 64)
lacks_marked a m f e h b g =
    flip b (any (λ k. has_bit m k && not (has_bit a k)) (upto 64)) (g ∙ all_in a m 64 h)
    ∙ any_same (λ k. has_bit m k && not (has_bit a k)) (λ k. f k && not (has_bit a k)) 64
    (λ k l. ap (λ (t : Bool). t && not (has_bit a k)) (everywhere (has_bit m) f 64 e k l))
