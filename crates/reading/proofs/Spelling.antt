-- What a text spells at an offset.
use Rattle.std.proofs.Common.{◌≡◌, ℕ, ◌+◌, ◌*◌, ◌<◌, ◌≤◌, List, [], ◌∷◌, length, get_or, drop, eqb, refl, sym, ap, ◌∙◌, arith, true, false, inl, inr, ◌++◌, take, take_all, length-take, append-nil}
use Rattle.std.proofs.lemmas.Bool.{cases_lt}
use Rattle.std.proofs.lemmas.List.{drop_more, get_or_past}
use borrow.Author.Tests.{eq-eqb, ne_eqb}
use lib.ListN.{drop_of_length-le}
use Rattle.reading.specs.Spelling.{digit, letter, spelt, escaped, digits, low_digit}

spelt_other : (b : ℕ) (s : List ℕ) → eqb b 92 ≡ false → spelt (b ∷ s) ≡ b ∷ spelt s
unfolding spelt
spelt_other b s n = rw (n, spelt)

spelt_escape : (b : ℕ) (s : List ℕ) → eqb b 92 ≡ true → spelt (b ∷ s) ≡ escaped s
unfolding spelt
spelt_escape b s n = rw (n, spelt)

escaped_other : (e : ℕ) (s : List ℕ) → eqb e 120 ≡ false → escaped (e ∷ s) ≡ letter e ∷ spelt s
unfolding spelt
escaped_other e s n = rw (n, escaped)

escaped_hex : (e : ℕ) (s : List ℕ) → eqb e 120 ≡ true → escaped (e ∷ s) ≡ digits s
unfolding spelt
escaped_hex e s n = rw (n, escaped)

digits_more : (h : ℕ) (s : List ℕ) → digits (h ∷ s) ≡ low_digit h s
unfolding spelt
digits_more h s = refl

low_more : (h l : ℕ) (s : List ℕ) → low_digit h (l ∷ s) ≡ (16 * digit h + digit l) ∷ spelt s
unfolding spelt
low_more h l s = refl

escaped_end : escaped [] ≡ 0 ∷ spelt []
unfolding spelt
escaped_end = refl

digits_end : digits [] ≡ 0 ∷ spelt []
unfolding spelt
digits_end = refl

low_end : (h : ℕ) → low_digit h [] ≡ (16 * digit h + 0) ∷ spelt []
unfolding spelt
low_end h = let z : 16 * digit h ≡ 16 * digit h + 0 = omega arith in ap (λ (n : ℕ). n ∷ []) z

-- a byte that stands for itself
pub plain_at : (f : List ℕ) (i : ℕ) → i < length f → (get_or f i 0 ≡ 92 → ⊥) → spelt (drop i f) ≡ get_or f i 0 ∷ spelt (drop (i + 1) f)
plain_at f i h n = ap spelt (drop_more f i 0 h) ∙ spelt_other _ _ (ne_eqb _ _ n)

escape_at : (f : List ℕ) (i : ℕ) → i < length f → get_or f i 0 ≡ 92 → spelt (drop i f) ≡ escaped (drop (i + 1) f)
escape_at f i h e = ap spelt (drop_more f i 0 h) ∙ spelt_escape _ _ (eq-eqb _ _ e)

escaped_at : (f : List ℕ) (j : ℕ) → (get_or f j 0 ≡ 120 → ⊥) → escaped (drop j f) ≡ letter (get_or f j 0) ∷ spelt (drop (j + 1) f)
escaped_at f j n = elim (cases_lt j (length f)) [ inl h ↦ ap escaped (drop_more f j 0 h) ∙ escaped_other _ _ (ne_eqb _ _ n) | inr h ↦ rw (get_or_past f j 0 h, drop_of_length-le f {i = j} h, drop_of_length-le f {i = j + 1} (omega (arith, h))) escaped_end ]

low_at : (h : ℕ) (f : List ℕ) (j : ℕ) → low_digit h (drop j f) ≡ (16 * digit h + digit (get_or f j 0)) ∷ spelt (drop (j + 1) f)
low_at d f j = elim (cases_lt j (length f)) [ inl h ↦ ap (low_digit d) (drop_more f j 0 h) ∙ low_more d _ _ | inr h ↦ rw (get_or_past f j 0 h, drop_of_length-le f {i = j} h, drop_of_length-le f {i = j + 1} (omega (arith, h))) (low_end d) ]

digits_at : (f : List ℕ) (j : ℕ) → digits (drop j f) ≡ (16 * digit (get_or f j 0) + digit (get_or f (j + 1) 0)) ∷ spelt (drop (j + 1 + 1) f)
digits_at f j = elim (cases_lt j (length f)) [ inl h ↦ ap digits (drop_more f j 0 h) ∙ digits_more _ _ ∙ low_at (get_or f j 0) f (j + 1) | inr h ↦ rw (get_or_past f j 0 h, get_or_past f (j + 1) 0 (omega (arith, h)), drop_of_length-le f {i = j} h, drop_of_length-le f {i = j + 1 + 1} (omega (arith, h))) digits_end ]

-- a byte behind a `\`
pub letter_at : (f : List ℕ) (i : ℕ) → i < length f → get_or f i 0 ≡ 92 → (get_or f (i + 1) 0 ≡ 120 → ⊥)
    → spelt (drop i f) ≡ letter (get_or f (i + 1) 0) ∷ spelt (drop (i + 1 + 1) f)
letter_at f i h e n = escape_at f i h e ∙ escaped_at f (i + 1) n

-- two digits behind `\x`
pub hex_at : (f : List ℕ) (i : ℕ) → i < length f → get_or f i 0 ≡ 92 → get_or f (i + 1) 0 ≡ 120
    → spelt (drop i f) ≡ (16 * digit (get_or f (i + 1 + 1) 0) + digit (get_or f (i + 1 + 1 + 1) 0)) ∷ spelt (drop (i + 1 + 1 + 1 + 1) f)
hex_at f i h e x =
    escape_at f i h e
    ∙ elim (cases_lt (i + 1) (length f)) [ inl l ↦ ap escaped (drop_more f (i + 1) 0 l) ∙ escaped_hex _ _ (eq-eqb _ _ x) | inr l ↦ absurd (omega (arith, get_or_past f (i + 1) 0 l, x)) ]
    ∙ digits_at f (i + 1 + 1)

-- a text that was read to its end
pub spelt_past : (f : List ℕ) (i : ℕ) → length f ≤ i → spelt (drop i f) ≡ []
unfolding spelt
spelt_past f i h = ap spelt (drop_of_length-le f {i = i} h)

pub letter_same : (e : ℕ) → (e ≡ 110 → ⊥) → (e ≡ 114 → ⊥) → (e ≡ 116 → ⊥) → letter e ≡ e
letter_same e a b c = simp (ne_eqb _ _ a, ne_eqb _ _ b, ne_eqb _ _ c)

-- what is written is all, where nothing is left
pub all_written : (xs s t : List ℕ) (n : ℕ) → n ≤ length xs → take n xs ++ t ≡ s → t ≡ [] → take n xs ≡ take (length xs) s
all_written xs s t n h e f =
    let g : take n xs ≡ s = sym (append-nil (take n xs)) ∙ ap (λ (l : List ℕ). take n xs ++ l) (sym f) ∙ e in
    sym (take_all (length xs) (take n xs) (simp length-take (omega arith))) ∙ ap (take (length xs)) g
