-- Laws of heights: one for each kind of word, and the turn and the ends of the loop over code.
use Prim.Native.Nat.{ℕ, ◌+◌, ◌-◌, ◌≤◌, ◌<◌}
use native.Mathlib.Omega.{arith}
use mathlib.Core.Path.{◌≡◌, refl}
use mathlib.Core.Bool.{Bool, true, false, cond, ◌&&◌}
use Rattle.std.specs.Prelude.{None, Some}
use mathlib.Core.List.{List}
use lib.ListN.{length, drop, get_or, drop_of_length-le}
use lib.Dec.{leb, ltb, eqb}
use borrow.Author.Tests.{eqb-true, eqb-false}
use Rattle.code.specs.Code.{limit}
use Rattle.code.specs.HeightsCode.{rise_op, rise, height}
use Rattle.code.proofs.Words.{word_at, op_push, op_both, op_either, op_invert, op_none}

module _ (t w h : ℕ) where
  pub rise_push : w < 32 → rise limit t w h ≡ cond (ltb w t && ltb h limit) (Some (h + 1)) None
  unfolding rise rise_op
  rise_push a = rw (op_push w a)

  pub rise_two : 32 ≤ w → w < 34 → rise limit t w h ≡ cond (leb 2 h) (Some (h - 1)) None
  unfolding rise rise_op
  rise_two a b = go (eqb w 32) refl
    where
      go : (x : Bool) → eqb w 32 ≡ x → rise limit t w h ≡ cond (leb 2 h) (Some (h - 1)) None
      go true e = rw (op_both w (eqb-true w 32 e))
      go false e = rw (op_either w (omega (arith, eqb-false w 32 e)))

  pub rise_one : w ≡ 34 → rise limit t w h ≡ cond (leb 1 h) (Some h) None
  unfolding rise rise_op
  rise_one a = rw (op_invert w a)

  pub rise_none : 34 < w → rise limit t w h ≡ None
  unfolding rise
  rise_none a = rw (op_none w a)

module _ (t : ℕ) (c : List ℕ) (i h : ℕ) where
  pub height_on : (k : ℕ) → i < length c → rise limit t (get_or c i 0) h ≡ Some k
      → height limit t (drop i c) h ≡ height limit t (drop (i + 1) c) k
  unfolding height
  height_on k g e = rw (word_at c i g, e)

  pub height_none : i < length c → rise limit t (get_or c i 0) h ≡ None → height limit t (drop i c) h ≡ None
  unfolding height
  height_none g e = rw (word_at c i g, e)

  pub height_end : length c ≤ i → height limit t (drop i c) h ≡ Some h
  unfolding height
  height_end g = rw (drop_of_length-le c g)
