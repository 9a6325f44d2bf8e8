-- Facts of single bytes: which kinds exclude each other, and of which kind the marks are.
use Prim.Native.Nat.{ℕ}
use mathlib.Core.Path.{◌≡◌, refl, sym, ap, ◌∙◌, subst}
use mathlib.Core.Bool.{Bool, true, false, true≢false}
use lib.Dec.{eqb}
use borrow.Author.Tests.{eqb-true, ne_eqb}
use Rattle.text.specs.Kinds.{is_blank, is_start, is_digit, is_name, is_value, is_text, is_decl}
use Rattle.lists.proofs.Cases.{by_cases}

-- a byte of a kind is none that is not of the kind
pub kind_not : (p : ℕ → Bool) (b c : ℕ) → p c ≡ false → p b ≡ true → eqb b c ≡ false
kind_not p b c f t = ne_eqb b c (λ e. true≢false (sym t ∙ ap p e ∙ f))

-- a blank is one of four bytes
blank_is : (P : ℕ → Type 0) → P 32 → P 9 → P 13 → P 10 → (b : ℕ) → is_blank b ≡ true → P b
unfolding is_blank
blank_is P p32 p9 p13 p10 b t =
    by_cases (eqb b 32) (λ e. subst P (sym (eqb-true b 32 e)) p32)
    (λ f. by_cases (eqb b 9) (λ e. subst P (sym (eqb-true b 9 e)) p9)
    (λ g. by_cases (eqb b 13) (λ e. subst P (sym (eqb-true b 13 e)) p13)
    (λ h. subst P (sym (eqb-true b 10 (simp (f, g, h) at t))) p10)))

pub blank_not_name : (b : ℕ) → is_blank b ≡ true → is_name b ≡ false
unfolding is_name is_start is_digit
blank_not_name = blank_is (λ b. is_name b ≡ false) refl refl refl refl

pub start_is_name : (b : ℕ) → is_start b ≡ true → is_name b ≡ true
unfolding is_name
start_is_name b t = rw t

pub start_not_blank : (b : ℕ) → is_start b ≡ true → is_blank b ≡ false
start_not_blank b t = by_cases (is_blank b) (λ e. absurd (true≢false (sym (start_is_name b t) ∙ blank_not_name b e))) (λ f. f)

-- the marks: 33 `!`, 34 `"`, 47 `/`, 60 `<`, 61 `=`, 62 `>`, 63 `?`
pub blank_34 : is_blank 34 ≡ false
unfolding is_blank
blank_34 = refl

pub blank_47 : is_blank 47 ≡ false
unfolding is_blank
blank_47 = refl

pub blank_60 : is_blank 60 ≡ false
unfolding is_blank
blank_60 = refl

pub blank_61 : is_blank 61 ≡ false
unfolding is_blank
blank_61 = refl

pub blank_62 : is_blank 62 ≡ false
unfolding is_blank
blank_62 = refl

pub start_33 : is_start 33 ≡ false
unfolding is_start
start_33 = refl

pub start_47 : is_start 47 ≡ false
unfolding is_start
start_47 = refl

pub start_63 : is_start 63 ≡ false
unfolding is_start
start_63 = refl

pub value_34 : is_value 34 ≡ false
unfolding is_value
value_34 = refl

pub text_60 : is_text 60 ≡ false
unfolding is_text
text_60 = refl

pub decl_63 : is_decl 63 ≡ false
unfolding is_decl
decl_63 = refl

pub name_47 : is_name 47 ≡ false
unfolding is_name is_start is_digit
name_47 = refl

pub name_61 : is_name 61 ≡ false
unfolding is_name is_start is_digit
name_61 = refl

pub name_62 : is_name 62 ≡ false
unfolding is_name is_start is_digit
name_62 = refl
