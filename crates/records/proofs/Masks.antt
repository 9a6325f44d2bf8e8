-- A filter's channels as a sum of powers: its range, and which channels its bits are.
use Prim.Native.Nat.pow
use Prim.Native.Nat.{ℕ, zero, suc, ◌+◌, ◌-◌, ◌*◌, ◌/◌, ◌%◌, ◌^◌, ◌≤◌, ◌<◌}
use native.Mathlib.Omega.{arith}
use native.Mathlib.Nat.{mul-add-div_right, mul-add-mod_self_right, div-eq_of_lt}
use mathlib.Core.Path.{◌≡◌, refl, sym, ap, ◌∙◌}
use mathlib.Core.List.{List, [], ◌∷◌}
use mathlib.Core.Bool.{true, false, ◌&&◌}
use lib.Dec.{leb, ltb, eqb}
use lib.Pow.{pow_mono, pow-add}
use borrow.Author.Tests.{leb-false, le-leb, lt-ltb, le-ltb, eqb-true, eqb-false, eq-eqb, ne_eqb}
use Rattle.lists.specs.Lists.{any}
use Rattle.lists.proofs.Cases.{by_cases, le_or_lt}
use Rattle.lists.proofs.Parts.{neither}
use Rattle.records.specs.Records.{sum_from}

pow_some : (m : ℕ) → 1 ≤ 2 ^ m
pow_some zero = omega arith
pow_some (suc m) = let h = pow_some m in let p = pow.suc 2 m in omega (arith, h, p)

module _ (cs : List ℕ) where
  sum_below : (m : ℕ) → sum_from m cs < 2 ^ m
  unfolding sum_from
  sum_below zero = omega arith
  sum_below (suc m) =
      let h = sum_below m in
      let p = pow.suc 2 m in
      by_cases (any (eqb m) cs) (λ t. rw t (omega (arith, h, p))) (λ t. rw t (omega (arith, h, p)))

  -- there are none above
  sum_cut : (n j : ℕ) → ((c : ℕ) → n ≤ c → any (eqb c) cs ≡ false) → sum_from (j + n) cs ≡ sum_from n cs
  unfolding sum_from
  sum_cut n zero h = let e : 0 + n ≡ n = omega arith in ap (λ (m : ℕ). sum_from m cs) e
  sum_cut n (suc j) h =
      let e : suc j + n ≡ suc (j + n) = omega arith in
      ap (λ (m : ℕ). sum_from m cs) e ∙ rw (h (j + n) (omega arith)) (let r = sum_cut n j h in omega (arith, r))

  sum_some : (m c : ℕ) → c < m → any (eqb c) cs ≡ true → 1 ≤ sum_from m cs
  unfolding sum_from
  sum_some zero c l h = absurd (omega (arith, l))
  sum_some (suc m) c l h =
      by_cases (eqb c m)
      (λ t. let q = eqb-true c m t in
      let g : any (eqb m) cs ≡ true = rw q at h in
      let p = pow_some m in
      rw g (omega (arith, p)))
      (λ t. let r = sum_some m c (let z = eqb-false c m t in omega (arith, l, z)) h in omega (arith, r))

-- a channel of n or more is none of channels below n
pub not_beyond : (n c : ℕ) (cs : List ℕ) → any (leb n) cs ≡ false → n ≤ c → any (eqb c) cs ≡ false
unfolding any
not_beyond n c [] h l = refl
not_beyond n c (d ∷ cs) h l =
    let a = neither (leb n d) (any (leb n) cs) h in
    let g = leb-false n d a.0 in
    rw (ne_eqb c d (λ e. absurd (omega (arith, e, g, l)))) (not_beyond n c cs a.1 l)

-- channels below n, at least one: a mask from 1 to 2^n - 1
pub mask_some : (n c : ℕ) (cs : List ℕ) → n ≤ 5 → any (leb n) (c ∷ cs) ≡ false → leb 1 (sum_from 5 (c ∷ cs)) ≡ true
unfolding any
mask_some n c cs l h =
    let a = neither (leb n c) (any (leb n) cs) h in
    let g = leb-false n c a.0 in
    le-leb 1 (sum_from 5 (c ∷ cs)) (sum_some (c ∷ cs) 5 c (omega (arith, g, l)) (rw (eq-eqb c c refl) refl))

pub mask_below : (n : ℕ) (cs : List ℕ) → n ≤ 5 → any (leb n) cs ≡ false → ltb (sum_from 5 cs) (2 ^ n) ≡ true
mask_below n cs l h =
    let e : (5 - n) + n ≡ 5 = omega arith in
    let s : sum_from 5 cs ≡ sum_from n cs = ap (λ (m : ℕ). sum_from m cs) (sym e) ∙ sum_cut cs n (5 - n) (λ c g. not_beyond n c cs h g) in
    rw s (lt-ltb (sum_from n cs) (2 ^ n) (sum_below cs n))

-- ---- the bits
-- a remainder below 2^c leaves what stands above it alone
over : (c q r : ℕ) → r < 2 ^ c → (q * 2 ^ c + r) / 2 ^ c ≡ q
over c q r h =
    let p = pow_some c in
    let d = mul-add-div_right {m = 2 ^ c} p q r in
    let z = div-eq_of_lt {n = r} {m = 2 ^ c} h in
    omega (arith, d, z)

-- a power above does not touch the bit
above : (c j r : ℕ) → (2 ^ (suc j + c) + r) / 2 ^ c % 2 ≡ r / 2 ^ c % 2
above c j r =
    let e : 2 ^ (suc j + c) ≡ 2 ^ suc j * 2 ^ c = pow-add 2 (suc j) c in
    let d = mul-add-div_right {m = 2 ^ c} (pow_some c) (2 ^ suc j) r in
    let q : (2 ^ (suc j + c) + r) / 2 ^ c ≡ 2 ^ j * 2 + r / 2 ^ c =
    ap (λ (k : ℕ). (k + r) / 2 ^ c) e ∙ (d ∙ ap (λ (k : ℕ). k + r / 2 ^ c) (pow.suc 2 j)) in
    ap (λ (k : ℕ). k % 2) q ∙ mul-add-mod_self_right (2 ^ j) 2 (r / 2 ^ c)

bit_below : (m c : ℕ) (cs : List ℕ) → c < m → eqb (sum_from m cs / 2 ^ c % 2) 1 ≡ any (eqb c) cs
unfolding sum_from
bit_below zero c cs h = absurd (omega (arith, h))
bit_below (suc m) c cs h =
    by_cases (eqb c m)
    (λ t.
    let q = eqb-true c m t in
    let l = sum_below cs m in
    rw q
    (by_cases (any (eqb m) cs)
    (λ u.
    let o : 2 ^ m + sum_from m cs ≡ 1 * 2 ^ m + sum_from m cs = omega arith in
    rw (u, o, over m 1 (sum_from m cs) l))
    (λ u. let o : 0 + sum_from m cs ≡ sum_from m cs = omega arith in rw (u, o, div-eq_of_lt l))))
    (λ t.
    let n = eqb-false c m t in
    let i : c < m = omega (arith, h, n) in
    let j : suc (m - suc c) + c ≡ m = omega (arith, i) in
    by_cases (any (eqb m) cs)
    (λ u.
    let z : (2 ^ m + sum_from m cs) / 2 ^ c % 2 ≡ sum_from m cs / 2 ^ c % 2 =
    ap (λ (k : ℕ). (2 ^ k + sum_from m cs) / 2 ^ c % 2) (sym j) ∙ above c (m - suc c) (sum_from m cs) in
    rw (u, z) (bit_below m c cs i))
    (λ u. let o : 0 + sum_from m cs ≡ sum_from m cs = omega arith in rw (u, o) (bit_below m c cs i)))

-- bit c of the sum says whether c is one of the channels
pub sum_bit : (m c : ℕ) (cs : List ℕ) → eqb (sum_from m cs / 2 ^ c % 2) 1 ≡ (ltb c m && any (eqb c) cs)
sum_bit m c cs =
    le_or_lt m c
    (λ h.
    let l : sum_from m cs < 2 ^ c = let g = sum_below cs m in let p = pow_mono h in omega (arith, g, p) in
    rw (div-eq_of_lt l, le-ltb c m h))
    (λ h. bit_below m c cs h ∙ rw (lt-ltb c m h))
