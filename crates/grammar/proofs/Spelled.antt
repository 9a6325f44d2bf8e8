-- The tokens that `lex` finds are those that a text is spelled with, and no others.
use Prim.Native.Nat.{ℕ}
use mathlib.Core.Path.{◌≡◌, refl, ap, ◌∙◌}
use mathlib.Core.Bool.{true, false, false≢true}
use mathlib.Core.Logic.{◌↔◌}
use Rattle.std.specs.Prelude.{None}
use mathlib.Core.Option.{Option, none, some}
use mathlib.Core.List.{List, [], ◌∷◌, ◌++◌, map, append_assoc, append-nil}
use lib.Dec.{eqb}
use borrow.Author.Tests.{eqb-true}
use Rattle.text.specs.Kinds.{is_blank, is_start, is_digit, is_name}
use Rattle.lists.specs.Lists.{Every}
use Rattle.lists.proofs.Cases.{by_cases}
use Rattle.grammar.specs.Lex.{Token, open', close', token_of, in_word, Spells, over, blank, opening, closing, letters}
use Rattle.grammar.specs.TokensCode.{put_token, word_ends, lex_from, lex, number_of, mapped, numbers, lexed, laid_tokens}

-- a blank is of no word
blank_no_name : (b : ℕ) → is_blank b ≡ true → is_name b ≡ false
unfolding is_blank is_name is_start is_digit
blank_no_name b e =
    by_cases (eqb b 32) (λ p. rw (eqb-true b 32 p)) λ n₀.
    by_cases (eqb b 9) (λ p. rw (eqb-true b 9 p)) λ n₁.
    by_cases (eqb b 13) (λ p. rw (eqb-true b 13 p)) λ n₂.
    by_cases (eqb b 10) (λ p. rw (eqb-true b 10 p)) λ n₃. absurd (false≢true (rw (n₀, n₁, n₂, n₃) at e))

-- the rest of a word, and a word's end
abbrev Letters : List ℕ → Type 0
Letters w = Every (λ b. is_name b ≡ true) w

lex_letters : (u w s : List ℕ) → Letters w → lex_from u (w ++ s) ≡ lex_from (u ++ w) s
unfolding lex_from Every
lex_letters u [] s e = rw (append-nil u)
lex_letters u (b ∷ w) s e = rw e.0 (lex_letters (u ++ (b ∷ [])) w s e.1 ∙ rw (append_assoc u (b ∷ []) w))

lex_ends : (b : ℕ) (w s : List ℕ) → in_word s ≡ false → lex_from (b ∷ w) s ≡ put_token (token_of (b ∷ w)) (lex s)
unfolding lex lex_from
lex_ends b w [] n = refl
lex_ends b w (x ∷ s) n = rw n

pub spells_lex : {s : List ℕ} {ts : List (Token (List ℕ))} → Spells s ts → lex s ≡ some ts
unfolding lex lex_from is_name is_start is_digit is_blank
spells_lex over = refl
spells_lex (blank b e p) = rw (blank_no_name b e, e) (spells_lex p)
spells_lex (opening p) = rw (spells_lex p)
spells_lex (closing p) = rw (spells_lex p)
spells_lex (letters b w {s = s} e n p) =
    lex_letters [] (b ∷ w) s e ∙ lex_ends b w s n ∙ ap (put_token (token_of (b ∷ w))) (spells_lex p)

-- the text is spelled with what was found, if anything was
abbrev Found : List ℕ → Option (List (Token (List ℕ))) → Type 0
Found s none = Unit {0}
Found s (some ts) = Spells s ts

found_put : (x : Token (List ℕ)) (s s' : List ℕ) (r : Option (List (Token (List ℕ))))
    → ((ts : List (Token (List ℕ))) → Spells s ts → Spells s' (x ∷ ts)) → Found s r → Found s' (put_token x r)
found_put x s s' none h f = tt
found_put x s s' (some ts) h f = h ts f

found_blank : (b : ℕ) (s : List ℕ) (r : Option (List (Token (List ℕ)))) → is_blank b ≡ true → Found s r → Found (b ∷ s) r
found_blank b s none e f = tt
found_blank b s (some ts) e f = blank b e f

found_ends : (w s : List ℕ) (r : Option (List (Token (List ℕ)))) → Letters w → in_word s ≡ false → Found s r → Found (w ++ s) (word_ends w r)
found_ends [] s r e n f = f
found_ends (b ∷ w) s r e n f = found_put (token_of (b ∷ w)) s ((b ∷ w) ++ s) r (λ ts p. letters b w e n p) f

one_more_lem : (w : List ℕ) (b : ℕ) → Letters w → is_name b ≡ true → Letters (w ++ (b ∷ []))
unfolding Every
one_more_lem [] b l e = (e, tt)
one_more_lem (x ∷ w) b l e = (l.0, one_more_lem w b l.1 e)

lex_found : (w s : List ℕ) → Letters w → Found (w ++ s) (lex_from w s)
unfolding lex_from Every
lex_found w [] l = found_ends w [] (some []) l refl over
lex_found w (b ∷ s) l =
    let f = lex_found [] s tt in
    by_cases (is_name b)
    (λ e. rw (e, ← append_assoc w (b ∷ []) s) (lex_found (w ++ (b ∷ [])) s (one_more_lem w b l e)))
    λ n. by_cases (is_blank b) (λ e. rw (n, e) (found_ends w (b ∷ s) (lex_from [] s) l n (found_blank b s (lex_from [] s) e f)))
    λ n₁. by_cases (eqb b 40)
    (λ e. rw (n, n₁, e) (found_ends w (b ∷ s) (put_token open' (lex_from [] s)) l n
    (found_put open' s (b ∷ s) (lex_from [] s) (λ ts p. rw (eqb-true b 40 e) (opening p)) f)))
    λ n₂. by_cases (eqb b 41)
    (λ e. rw (n, n₁, n₂, e) (found_ends w (b ∷ s) (put_token close' (lex_from [] s)) l n
    (found_put close' s (b ∷ s) (lex_from [] s) (λ ts p. rw (eqb-true b 41 e) (closing p)) f)))
    λ n₃. rw (n, n₁, n₂, n₃) (found_ends w (b ∷ s) none l n tt)

pub spelled : (s : List ℕ) (ts : List (Token (List ℕ))) → (lex s ≡ some ts) ↔ Spells s ts
unfolding lex Every
spelled s ts = (λ e. rw e at (lex_found [] s tt), spells_lex)

-- so this is what `tokenise` answers
module _ (names : List (List ℕ)) (s : List ℕ) where
  pub lexed_spelled : (ts : List (Token (List ℕ))) → Spells s ts → lexed names s ≡ laid_tokens (some (map (number_of names) ts))
  unfolding lexed numbers
  lexed_spelled ts p = rw (spells_lex p)

  pub lexed_faulty : ((ts : List (Token (List ℕ))) → Spells s ts → ⊥) → lexed names s ≡ None
  unfolding lexed numbers lex Every
  lexed_faulty h = go (lex s) (lex_found [] s tt)
    where
      go : (r : Option (List (Token (List ℕ)))) → Found s r → laid_tokens (mapped (map (number_of names)) r) ≡ None
      go none f = refl
      go (some ts) f = absurd (h ts f)
