-- Laws of the digits and of the numbers that they make.
use Prim.Native.Nat.{ℕ, ◌+◌, ◌*◌, ◌^◌, ◌≤◌, ◌<◌}
use native.Mathlib.Omega.{arith}
use native.Mathlib.Nat.{mul-le-mul_left, lt_of_lt_of_le, pow-le-pow_right}
use borrow.Author.Tests.{lt-ltb, le-ltb}
use mathlib.Core.Path.{◌≡◌, refl, ap, ◌∙◌}
use mathlib.Core.List.{List}
use lib.ListN.{length, get_or, drop, drop_of_length-le}
use lib.Pow.{pow-add}
use Rattle.text.proofs.Spans.{drop_one}
use Rattle.std.specs.Prelude.{Some, None, min}
use Rattle.std.specs.Char.{digit_value}
use Rattle.lists.specs.BitsCode.{from}
use Rattle.lists.proofs.BitLaws.{everywhere}
use Rattle.values.specs.Numbers.{digit}
use Rattle.values.specs.NumbersCode.{digits_from}

-- in a base up to 16 the library's digit is the paper's
capped : (b : ℕ) → b < 256 → digit b ≡ min 16 (digit_value b)
unfolding digit from
capped = everywhere digit (λ b. min 16 (digit_value b)) 256 refl

module _ (base b : ℕ) (fits : b < 256) (most : base ≤ 16) where
  pub digit_told : (d : ℕ) → (digit_value b < base) × (d ≡ digit_value b) → (d ≡ digit b) × (d < base)
  digit_told d (h, e) = let c = capped b fits in (omega arith, omega arith)

  pub digit_not : (digit_value b < base → ⊥) → base ≤ digit b
  digit_not h = let c = capped b fits in omega arith

-- one digit more
module _ (base v d : ℕ) (s : List ℕ) (i : ℕ) (h : i < length s) where
  pub digits_more : d ≡ digit (get_or s i 0) → d < base → digits_from base v (drop i s) ≡ digits_from base (v * base + d) (drop (i + 1) s)
  unfolding digits_from
  digits_more e k = ap (digits_from base v) (drop_one s i h) ∙ rw (e, lt-ltb _ _ (rw e at k), digits_from)

pub digits_bad : (base v : ℕ) (s : List ℕ) (i : ℕ) → i < length s → base ≤ digit (get_or s i 0) → digits_from base v (drop i s) ≡ None
unfolding digits_from
digits_bad base v s i h k = ap (digits_from base v) (drop_one s i h) ∙ rw (le-ltb _ _ k, digits_from)

pub digits_end : (base v : ℕ) (s : List ℕ) (i : ℕ) → length s ≤ i → digits_from base v (drop i s) ≡ Some v
unfolding digits_from
digits_end base v s i h = ap (digits_from base v) (drop_of_length-le s h)

-- what i digits make stays below 16 ^ i
pub one_more_lem : (base v d i : ℕ) → base ≤ 16 → v < 16 ^ i → d < base → v * base + d < 16 ^ (i + 1)
one_more_lem base v d i h k l = let m : v * base ≤ v * 16 = mul-le-mul_left v h in omega (arith, pow-add 16 i 1)

pub step_fits : (base v d i : ℕ) → base ≤ 16 → i < 10 → v < 16 ^ i → d < base → v * base + d < 2 ^ 40
step_fits base v d i h k l m =
    lt_of_lt_of_le (one_more_lem base v d i h l m) (pow-le-pow_right {n = 16} (omega arith) {j = 10} (omega arith))
