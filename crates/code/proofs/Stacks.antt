-- Laws of a stack that is held as bits of a number: a value more or fewer, one law for each way that a word goes, and the turn and the ends
-- of the loop over code.
use Prim.Native.Nat.{ℕ, zero, suc, ◌+◌, ◌-◌, ◌*◌, ◌/◌, ◌%◌, ◌≤◌, ◌<◌}
use native.Mathlib.Omega.{arith}
use mathlib.Core.Path.{◌≡◌, refl, sym, ap, ◌∙◌}
use mathlib.Core.Bool.{Bool, true, false, not, ◌&&◌, ◌||◌}
use Rattle.std.specs.Prelude.{None, Some}
use mathlib.Core.List.{List, [], ◌∷◌}
use lib.ListN.{length, drop, get_or, drop_of_length-le}
use borrow.Author.Tests.{lt-ltb, le-ltb, eq-eqb, ne_eqb}
use mir.Val.{bool_byte}
use Rattle.code.specs.Code.{limit, top_two, step_op, step_word, run_words, only_value, value_on}
use Rattle.code.specs.RunCode.{top_of, bits_of}
use Rattle.code.proofs.Words.{word_at, op_push, op_both, op_either, op_invert, op_none}

pub bits_empty : (h n : ℕ) → h < 1 → bits_of h n ≡ []
unfolding bits_of
bits_empty zero n a = refl
bits_empty (suc h) n a = absurd (omega arith)

pub bits_pop : (h n : ℕ) → 1 ≤ h → bits_of h n ≡ top_of n ∷ bits_of (h - 1) (n / 2)
unfolding bits_of
bits_pop zero n a = absurd (omega arith)
bits_pop (suc h) n a = let x : suc h - 1 ≡ h = omega arith in rw x

byte_small : (b : Bool) → bool_byte b ≤ 1
byte_small true = omega arith
byte_small false = omega arith

top_push : (n : ℕ) (b : Bool) → top_of (2 * n + bool_byte b) ≡ b
top_push n true = eq-eqb ((2 * n + 1) % 2) 1 (omega arith)
top_push n false = ne_eqb ((2 * n + 0) % 2) 1 (omega arith)

-- a value that is pushed is the top, and leaves what lies below it
pub bits_push : (h n : ℕ) (b : Bool) → bits_of (suc h) (2 * n + bool_byte b) ≡ b ∷ bits_of h n
unfolding bits_of
bits_push h n b =
    let y : (2 * n + bool_byte b) / 2 ≡ n = omega (arith, byte_small b) in
    rw (top_push n b, y)

bits_length : (h n : ℕ) → length (bits_of h n) ≡ h
unfolding bits_of
bits_length zero n = refl
bits_length (suc h) n = ap suc (bits_length h (n / 2))

-- which word the machine runs how: on a stack that is known as far as it looks
module _ (v : ℕ → Bool) (w : ℕ) where
  pub word_both : (st : List Bool) → w ≡ 32 → step_word limit v w st ≡ top_two ◌&&◌ st
  unfolding step_word step_op
  word_both st e = rw (op_both w e)

  pub word_either : (st : List Bool) → w ≡ 33 → step_word limit v w st ≡ top_two ◌||◌ st
  unfolding step_word step_op
  word_either st e = rw (op_either w e)

  pub word_not : (a : Bool) (st : List Bool) → w ≡ 34 → step_word limit v w (a ∷ st) ≡ Some (not a ∷ st)
  unfolding step_word step_op
  word_not a st e = rw (op_invert w e)

  pub word_empty : (st : List Bool) → w ≡ 34 → st ≡ [] → step_word limit v w st ≡ None
  unfolding step_word step_op
  word_empty st e z = rw (op_invert w e, z)

  pub word_push : (h n : ℕ) → w < 32 → h < limit → step_word limit v w (bits_of h n) ≡ Some (v w ∷ bits_of h n)
  unfolding step_word step_op
  word_push h n a g = rw (op_push w a, bits_length h n, lt-ltb h limit g)

  pub word_full : (h n : ℕ) → w < 32 → limit ≤ h → step_word limit v w (bits_of h n) ≡ None
  unfolding step_word step_op
  word_full h n a g = rw (op_push w a, bits_length h n, le-ltb h limit g)

  pub word_none : (st : List Bool) → 34 < w → step_word limit v w st ≡ None
  unfolding step_word
  word_none st a = rw (op_none w a)

-- After i words: the words that are left, run on the stack now, give what all words give on the empty stack.
abbrev pub Stands : List Bool → List ℕ → ℕ → List Bool → Type 0
Stands states c i st =
    run_words limit (λ k. get_or states k false) c [] ≡ run_words limit (λ k. get_or states k false) (drop i c) st

module _ (states : List Bool) (c : List ℕ) (i : ℕ) (st : List Bool) (x : Stands states c i st) where
  pub goes_on : {r : List Bool} → i < length c → step_word limit (λ k. get_or states k false) (get_or c i 0) st ≡ Some r
      → Stands states c (i + 1) r
  unfolding run_words
  goes_on g e = x ∙ rw (word_at c i g, e)

  pub stops : i < length c → step_word limit (λ k. get_or states k false) (get_or c i 0) st ≡ None → None ≡ value_on states c
  unfolding run_words value_on
  stops g e =
      let y : run_words limit (λ k. get_or states k false) (drop i c) st ≡ None = rw (word_at c i g, e) in
      sym (ap only_value (x ∙ y))

  pub ends : length c ≤ i → only_value (Some st) ≡ value_on states c
  unfolding run_words value_on
  ends g =
      let y : run_words limit (λ k. get_or states k false) (drop i c) st ≡ Some st = rw (drop_of_length-le c g) in
      sym (ap only_value (x ∙ y))

pub one_left : (h n : ℕ) → h ≡ 1 → only_value (Some (bits_of h n)) ≡ Some (top_of n)
unfolding bits_of
one_left h n e = rw e

pub not_one : (h n : ℕ) → (h ≡ 1 → ⊥) → only_value (Some (bits_of h n)) ≡ None
unfolding bits_of
not_one zero n e = refl
not_one (suc zero) n e = absurd (e refl)
not_one (suc (suc h)) n e = refl
