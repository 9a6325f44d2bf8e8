-- Bytes of a replay: std's numbers from bytes and bytes of numbers are those of the definitions, and 32 bytes are all that is looked at.
use Prim.Native.Nat.{ℕ, zero, suc, ◌/◌, ◌%◌, ◌^◌}
use mathlib.Core.Path.{◌≡◌, refl, ap, sym, ◌∙◌}
use mathlib.Core.List.{[], ◌∷◌}
use native.Mathlib.Omega.{arith}
use native.Mathlib.Nat.{div-one, div-div-eq-div-mul, pow-suc}
use lib.ListN.{length}
use Rattle.std.proofs.Common.{w32, w64}
use Rattle.std.specs.Int.{from_le_bytes, byte_at, bytes_low_first}
use Rattle.event_rules.specs.declared.Outcome.{Outcome}
use Rattle.replay.specs.Wire.{from_bytes, bytes_of, answer_bytes}

-- ---- numbers from bytes
pub four : (a b c d : ℕ) → from_le_bytes w32 (a ∷ b ∷ c ∷ d ∷ []) ≡ from_bytes (a ∷ b ∷ c ∷ d ∷ [])
unfolding from_bytes
four a b c d = omega arith

pub eight : (a b c d e f g h : ℕ) → from_le_bytes w64 (a ∷ b ∷ c ∷ d ∷ e ∷ f ∷ g ∷ h ∷ []) ≡ from_bytes (a ∷ b ∷ c ∷ d ∷ e ∷ f ∷ g ∷ h ∷ [])
unfolding from_bytes
eight a b c d e f g h = omega arith

-- ---- a number's bytes
at_is : (i n : ℕ) → byte_at i n ≡ n / 256 ^ i % 256
at_is zero n = ap (λ (x : ℕ). x % 256) (sym (div-one n))
at_is (suc i) n = refl

low_is : (i k n : ℕ) → bytes_low_first i k n ≡ bytes_of k (n / 256 ^ i)
unfolding bytes_of
low_is i zero n = refl
low_is i (suc k) n = λ j. at_is i n j ∷ (low_is (suc i) k n
    ∙ ap (bytes_of k) (ap (λ (x : ℕ). n / x) (pow-suc 256 i) ∙ sym (div-div-eq-div-mul n (256 ^ i) 256))) j

pub bytes_are : (k n : ℕ) → bytes_low_first 0 k n ≡ bytes_of k n
bytes_are k n = low_is 0 k n ∙ ap (bytes_of k) (div-one n)

-- ---- 32 bytes
pub length_answer : (o : Outcome) → length (answer_bytes o) ≡ 32
unfolding answer_bytes bytes_of
length_answer o = refl
