-- Flags that hold together, the fuel of a loop, and parts of a list that are lent.
use Prim.Native.Nat.{ℕ, suc, ◌+◌, ◌-◌, ◌≤◌, ◌<◌}
use mathlib.Core.Path.{◌≡◌, refl, sym}
use mathlib.Core.List.{List}
use mathlib.Core.Bool.{Bool, true, false, ◌&&◌, ◌||◌, false≢true, true≢false}
use native.Mathlib.Omega.{arith}
use native.Mathlib.Nat.{le_refl}
use lib.ListN.{length, drop, take, length-drop}
use lib.Seq.{take_all}

pub and_left : (a b : Bool) → (a && b) ≡ true → a ≡ true
and_left true b p = refl
and_left false b p = p

pub and_right : (a b : Bool) → (a && b) ≡ true → b ≡ true
and_right true b p = p
and_right false b p = absurd (false≢true p)

pub neither : (a b : Bool) → (a || b) ≡ false → (a ≡ false) × (b ≡ false)
neither true b e = absurd (true≢false e)
neither false b e = (refl, e)

pub or_second : (a b : Bool) → b ≡ true → (a || b) ≡ true
or_second true b e = refl
or_second false b e = e

-- two flags of which each gives the other
pub agree : (a b : Bool) → (a ≡ true → b ≡ true) → (b ≡ true → a ≡ true) → a ≡ b
agree true b f g = sym (f refl)
agree false true f g = g refl
agree false false f g = refl

-- the fuel of a loop that counts i up to k
pub fuel : (k i : ℕ) → i < k → k - i ≡ suc (k - (i + 1))
fuel k i h = omega arith

pub spent : (k i : ℕ) → k ≤ i → k - i ≡ 0
spent k i h = omega arith

-- what `&words[at..]` lends is the words from `at`
abbrev pub lent : List ℕ → ℕ → List ℕ
lent words at = take (length words - at) (drop at words)

pub lent_is : (words : List ℕ) (at : ℕ) → lent words at ≡ drop at words
lent_is words at = take_all (length words - at) (drop at words) (rw length-drop (le_refl (length words - at)))

pub length_lent : (words : List ℕ) (at : ℕ) → length (lent words at) ≡ length words - at
length_lent words at = rw (lent_is words at, length-drop)
