-- Kinds of bytes: what one test says of another.
use Prim.Native.Nat.{ℕ, ◌<◌}
use native.Mathlib.Omega.{arith}
use mathlib.Core.Path.{◌≡◌, refl, sym, ap, ◌∙◌}
use mathlib.Core.Bool.{true, false, not, ◌&&◌, ◌||◌, true≢false, or-true, or_assoc}
use lib.Dec.{leb, eqb}
use borrow.Author.Tests.{leb-false, le-leb, ne_eqb}
use Rattle.text.specs.Kinds.{is_blank, is_any, is_text}
use Rattle.text.specs.SpansCode.{is_plain}
use Rattle.lists.proofs.Cases.{by_cases}

-- a byte's test without branches
pub plain_flat : (b : ℕ) → b < 256 → (not (eqb b 45) && (leb 32 b || eqb b 9 || eqb b 13 || eqb b 10)) ≡ is_plain b
unfolding is_plain is_any is_blank
plain_flat b h =
    by_cases (leb 32 b)
    (λ t. rw (t, le-leb b 255 (omega arith)))
    (λ t.
    let l = leb-false 32 b t in
    rw (t, ne_eqb b 32 (λ e. omega arith), or_assoc (eqb b 9) (eqb b 13) (eqb b 10)))

pub plain_is : (b : ℕ) → is_plain b ≡ true → (eqb b 45 ≡ false) × (is_any b ≡ true)
unfolding is_plain
plain_is b t = by_cases (eqb b 45) (λ e. absurd (true≢false (sym (rw e at t)))) (λ e. (e, rw e at t))

no_blank : (b c : ℕ) → is_blank b ≡ true → is_blank c ≡ false → eqb b c ≡ false
no_blank b c t f = ne_eqb b c (λ e. true≢false (sym t ∙ ap is_blank e ∙ f))

pub blank_text : (b : ℕ) → is_blank b ≡ true → is_text b ≡ true
unfolding is_text is_any is_blank
blank_text b t = rw (t, or-true, no_blank b 60 t refl, no_blank b 38 t refl)
