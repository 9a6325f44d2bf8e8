-- One turn of each of the loader's loops, and a statement's record as the code takes it apart.
use Prim.Native.Nat.{ℕ, ◌+◌, ◌-◌, ◌≤◌, ◌<◌}
use mathlib.Core.Path.{◌≡◌, refl, sym}
use mathlib.Core.List.{List}
use mathlib.Core.Bool.{Bool, true, false, ◌&&◌, cond}
use native.Mathlib.Omega.{arith}
use lib.ListN.{length, get_or, take, drop}
use lib.Seq.{drop-drop}
use lib.Dec.{leb}
use borrow.Author.Tests.{leb-true}
use Rattle.code.specs.HeightsCode.{sound_code}
use Rattle.std.specs.Prelude.{None, Some}
use Rattle.std.specs.List.{list_all}
use Rattle.std.proofs.lemmas.Option.{none-some}
use Rattle.loader.specs.ScanCode.{action_ok, statement_ok, fits, whole_of, scan_of}
use Rattle.lists.proofs.Parts.{fuel, spent, lent, lent_is, length_lent}

-- ---- `statement_ok`: the parts that it lends are those that the spec takes
pub statement_law : (triggers : ℕ) (rec : List ℕ) (a w : ℕ) (fine runs : Bool) → a ≡ get_or rec 1 0 → w ≡ get_or rec 2 0
    → fine ≡ list_all action_ok (take (3 + a - 3) (drop 3 rec)) → runs ≡ sound_code triggers (take (3 + a + w - (3 + a)) (drop (3 + a) rec))
    → (leb (get_or rec 0 0) 1000000000 && leb (get_or rec 1 0) 6 && leb 1 (get_or rec 2 0) && leb (get_or rec 2 0) 64 && fine && runs)
    ≡ statement_ok triggers rec
unfolding statement_ok
statement_law triggers rec a w fine runs ea ew ef er =
    let na : 3 + a - 3 ≡ a = omega arith in
    let nw : 3 + a + w - (3 + a) ≡ w = omega arith in
    rw (ef, er, na, nw, ea, ew)

-- ---- `scan`
module _ (size : List ℕ → ℕ) (ok : List ℕ → Bool) where
  whole_fits : (ws : List ℕ) (n : ℕ) → Some n ≡ whole_of size ok ws → (fits size ok ws ≡ true) × (n ≡ size ws) × (n ≤ length ws)
  whole_fits ws n e = go (leb (size ws) (length ws)) (ok ws) refl e
    where
      go : (b c : Bool) → leb (size ws) (length ws) ≡ b → Some n ≡ cond (b && c) (Some (size ws)) None
          → ((b && c) ≡ true) × (n ≡ size ws) × (n ≤ length ws)
      go true true l q = let z : n ≡ size ws = cc in (refl, z, omega (arith, leb-true (size ws) (length ws) l))
      go true false l q = absurd (none-some n (sym q))
      go false c l q = absurd (none-some n (sym q))

  whole_none : (ws : List ℕ) → None ≡ whole_of size ok ws → fits size ok ws ≡ false
  whole_none ws e = go (fits size ok ws) refl e
    where
      go : (b : Bool) → fits size ok ws ≡ b → None ≡ cond b (Some (size ws)) None → b ≡ false
      go true q p = absurd (none-some (size ws) p)
      go false q p = refl

  module _ (words : List ℕ) (k i at : ℕ) (h : i < k) where
    pub scan_bad : None ≡ whole_of size ok (lent words at) → None ≡ scan_of size ok (k - i) at (drop at words)
    unfolding scan_of
    scan_bad e =
        let b : fits size ok (drop at words) ≡ false = whole_none (drop at words) (rw (lent_is words at) at e) in
        rw (fuel k i h, b)

    module _ (n : ℕ) (e : Some n ≡ whole_of size ok (lent words at)) where
      pub scan_within_words : at ≤ length words → at + n ≤ length words
      scan_within_words l = omega (arith, length_lent words at, (whole_fits (lent words at) n e).2)

      pub scan_on : scan_of size ok (k - (i + 1)) (at + n) (drop (at + n) words) ≡ scan_of size ok (k - i) at (drop at words)
      unfolding scan_of
      scan_on =
          let f = whole_fits (drop at words) n (rw (lent_is words at) at e) in
          rw (fuel k i h, f.0, f.1, drop-drop (size (drop at words)) at words)

  pub scan_end : (words : List ℕ) (k i at : ℕ) → k ≤ i → Some at ≡ scan_of size ok (k - i) at (drop at words)
  unfolding scan_of
  scan_end words k i at h = rw (spent k i h)
