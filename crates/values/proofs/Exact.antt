-- A text is read as a number exactly if it is one, and as that one.
use Prim.Native.Nat.{ℕ, suc, ◌+◌, ◌*◌, ◌^◌}
use native.Mathlib.Omega.{arith}
use native.Mathlib.Nat.{add_assoc, add-mul, mul_assoc, pow-zero, pow-succ'}
use mathlib.Core.Path.{◌≡◌, refl, sym, ap, ◌∙◌}
use mathlib.Core.Logic.{◌↔◌, inl, inr}
use mathlib.Core.List.{List, [], ◌∷◌, ◌++◌}
use mathlib.Core.Bool.{true, false, ◌&&◌, true≢false}
use lib.Dec.{leb, ltb}
use lib.ListN.{length, take, drop, take-append-drop}
use borrow.Author.Tests.{leb-true, le-leb}
use Rattle.text.specs.Texts.{bytes, same}
use Rattle.text.proofs.Equal.{same_equal}
use Rattle.lists.specs.Lists.{all}
use Rattle.lists.proofs.Cases.{by_cases}
use Rattle.lists.proofs.Parts.{and_left, and_right}
use Rattle.std.specs.Prelude.{Some, None}
use Rattle.values.specs.Numbers.{digit, positional, SpeltBy, IsNumber}
use Rattle.values.specs.NumbersCode.{digits_from, digits, number_spelt}

nothing_not : (v : ℕ) → None ≡ Some v → ⊥
nothing_not v e = let z : ◌≡◌ {A = ℕ} 0 1 = cc in omega arith

-- ---- digits of one base
shifted : (base v d n p : ℕ) → (v * base + d) * base ^ n + p ≡ v * base ^ suc n + (d * base ^ n + p)
shifted base v d n p = rw (add-mul, mul_assoc v base (base ^ n), ← pow-succ' base n, add_assoc)

-- digits after v come to v shifted, and what they spell
digits_come : (base v : ℕ) (s : List ℕ) → all (λ b. ltb (digit b) base) s ≡ true
    → digits_from base v s ≡ Some (v * base ^ length s + positional base s)
unfolding digits_from all positional
digits_come base v [] a = rw pow-zero (ap Some (omega arith))
digits_come base v (b ∷ s) a =
    let t = and_left (ltb (digit b) base) (all (λ c. ltb (digit c) base) s) a in
    let r = and_right (ltb (digit b) base) (all (λ c. ltb (digit c) base) s) a in
    rw (t, digits_from)
    (digits_come base (v * base + digit b) s r ∙ ap Some (shifted base v (digit b) (length s) (positional base s)))

digits_all : (base v : ℕ) (s : List ℕ) (w : ℕ) → digits_from base v s ≡ Some w → all (λ b. ltb (digit b) base) s ≡ true
unfolding digits_from all
digits_all base v [] w e = refl
digits_all base v (b ∷ s) w e =
    by_cases (ltb (digit b) base) (λ t. rw t (digits_all base (v * base + digit b) s w (rw (t, digits_from) at e)))
    (λ t. absurd (nothing_not w (rw (t, digits_from) at e)))

module _ (base n : ℕ) (s : List ℕ) (v : ℕ) where
  digits_spell : digits base n s ≡ Some v → SpeltBy base n s v
  unfolding digits
  digits_spell e =
      by_cases (leb 1 (length s) && leb (length s) n)
      (λ t.
      let f : digits_from base 0 s ≡ Some v = rw t at e in
      let a = digits_all base 0 s v f in
      let g = digits_come base 0 s a in
      let w : v ≡ 0 * base ^ length s + positional base s = cc in (
        leb-true 1 (length s) (and_left (leb 1 (length s)) (leb (length s) n) t),
        leb-true (length s) n (and_right (leb 1 (length s)) (leb (length s) n) t),
        a,
        omega arith,
      ))
      (λ t. absurd (nothing_not v (rw t at e)))

  spells_digits : SpeltBy base n s v → digits base n s ≡ Some v
  unfolding digits
  spells_digits x =
      rw (le-leb 1 (length s) x.0, le-leb (length s) n x.1) (digits_come base 0 s x.2 ∙ ap Some (omega (arith, x.3)))

-- ---- `0x`
prefixed : (s : List ℕ) → same (take 2 s) (bytes "0x") ≡ true → s ≡ bytes "0x" ++ drop 2 s
prefixed s t = sym (take-append-drop 2 s) ∙ ap (λ (h : List ℕ). h ++ drop 2 s) (same_equal (take 2 s) (bytes "0x") t)

-- `x` is no decimal digit
not_prefixed : (s : List ℕ) → all (λ b. ltb (digit b) 10) s ≡ true → same (take 2 s) (bytes "0x") ≡ false
unfolding all digit bytes
not_prefixed s a =
    by_cases (same (take 2 s) (bytes "0x"))
    (λ t. absurd (true≢false (sym a ∙ ap (all (λ b. ltb (digit b) 10)) (prefixed s t)))) (λ t. t)

module _ (s : List ℕ) (v : ℕ) where
  is_number : number_spelt s ≡ Some v → IsNumber s v
  unfolding number_spelt
  is_number e =
      by_cases (same (take 2 s) (bytes "0x")) (λ t. inr (drop 2 s, prefixed s t, digits_spell 16 8 (drop 2 s) v (rw t at e)))
      (λ t. inl (digits_spell 10 10 s v (rw t at e)))

  number_is : IsNumber s v → number_spelt s ≡ Some v
  unfolding number_spelt bytes same
  number_is (inl x) = rw (not_prefixed s x.2) (spells_digits 10 10 s v x)
  number_is (inr (h, e, x)) = rw e (spells_digits 16 8 h v x)

pub number_exactly : (s : List ℕ) (v : ℕ) → (number_spelt s ≡ Some v) ↔ IsNumber s v
number_exactly s v = (is_number s v, number_is s v)
