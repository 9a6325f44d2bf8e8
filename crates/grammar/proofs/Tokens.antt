-- Laws of the tokens of a text from a place on.
use Prim.Native.Nat.{ℕ, suc, ◌+◌, ◌-◌, ◌≤◌, ◌<◌}
use native.Mathlib.Omega.{arith}
use mathlib.Core.Path.{◌≡◌, refl, sym, ap, ◌∙◌}
use mathlib.Core.Bool.{Bool, true, false}
use Rattle.std.specs.Prelude.{Some, None}
use mathlib.Core.Option.{Option, none, some}
use mathlib.Core.List.{List, [], ◌∷◌, ◌++◌, map, append_assoc, append-nil}
use lib.ListN.{length, take, drop, get_or, replicate, length-append, drop_of_length-le}
use lib.Seq.{append_snoc, drop-drop, set_at}
use borrow.Author.Tests.{eq-eqb, ne_eqb, le-leb, lt-leb, lt-ltb}
use Rattle.text.specs.Kinds.{is_blank, is_name}
use Rattle.text.specs.SpansCode.{span_at}
use Rattle.lists.proofs.Cases.{by_cases, le_or_lt}
use Rattle.text.proofs.Spans.{drop_one, span_more, high_of}
use Rattle.grammar.specs.Lex.{Token, open', close', token_of}
use Rattle.grammar.specs.TokensCode.{put_token, lex_from, lex, number_of, mapped, numbers, laid, pushed, laid_tokens, LexemeAt, next, skip, wrong}
use Rattle.grammar.specs.declared.Lexeme.{Lexeme}
use Rattle.grammar.specs.declared.Words.{Words}

-- runs of bytes of one kind, from any offset
module _ (p : ℕ → Bool) where
  run_in : (b : ℕ) (s : List ℕ) (i : ℕ) → p b ≡ true → span_at p (b ∷ s) i ≡ span_at p s (i + 1)
  unfolding span_at
  run_in b s i e = rw (e, span_at)

  run_out : (b : ℕ) (s : List ℕ) (i : ℕ) → p b ≡ false → span_at p (b ∷ s) i ≡ i
  unfolding span_at
  run_out b s i e = rw (e, span_at)

  run_over : (i : ℕ) → span_at p [] i ≡ i
  unfolding span_at
  run_over i = refl

  span_run : (s : List ℕ) (i : ℕ) → span_at p s i ≡ i + span_at p s 0
  span_run [] i = let q = run_over i in let r = run_over 0 in omega arith
  span_run (b ∷ s) i =
      by_cases (p b)
      (λ e. let q = run_in b s i e in let r = run_in b s 0 e in let m = span_run s (i + 1) in let n = span_run s 1 in omega arith)
      (λ e. let q = run_out b s i e in let r = run_out b s 0 e in omega arith)

-- how many bytes of a word stand at the front
abbrev run : List ℕ → ℕ
run s = span_at is_name s 0

-- a word is read whole
lex_rest : (b : ℕ) (w s : List ℕ) → lex_from (b ∷ w) s ≡ put_token (token_of (b ∷ (w ++ take (run s) s))) (lex (drop (run s) s))
unfolding lex lex_from
lex_rest b w [] = rw (run_over is_name 0, append-nil w)
lex_rest b w (x ∷ s) =
    by_cases (is_name x)
    (λ e. let n : span_at is_name (x ∷ s) 0 ≡ suc (run s) = omega (arith, run_in is_name x s 0 e, span_run is_name s 1) in
    rw (n, e) (lex_rest b (w ++ (x ∷ [])) s ∙ rw (append_assoc w (x ∷ []) (take (run s) s))))
    (λ e. rw (run_out is_name x s 0 e, e, append-nil w))

lex_word : (b : ℕ) (s : List ℕ) → is_name b ≡ true → lex (b ∷ s) ≡ put_token (token_of (b ∷ take (run s) s)) (lex (drop (run s) s))
unfolding lex lex_from
lex_word b s e = rw e (lex_rest b [] s)

mapped_put : (names : List (List ℕ)) (x : Token (List ℕ)) (r : Option (List (Token (List ℕ))))
    → mapped (map (number_of names)) (put_token x r) ≡ put_token (number_of names x) (mapped (map (number_of names)) r)
mapped_put names x none = refl
mapped_put names x (some l) = refl

abbrev pub token_to : ℕ → ℕ → Lexeme
token_to t i = record { token = Some t; end = i }

abbrev pub blank_to : ℕ → Lexeme
blank_to i = record { token = None; end = i }

-- what stands at a place, by the byte there
module _ (names : List (List ℕ)) (s : List ℕ) (at : ℕ) (h : at < length s) where
  pub at_word : (i t : ℕ) → is_name (get_or s at 0) ≡ true → i ≡ span_at is_name (drop at s) at
      → t ≡ number_of names (token_of (take (i - at) (drop at s))) → LexemeAt names s at (Some (token_to t i))
  unfolding numbers
  at_word i t e p q =
      let b = get_or s at 0 in
      let s₁ = drop (at + 1) s in
      let long : i ≡ at + 1 + run s₁ = p ∙ span_more is_name s at h e ∙ span_run is_name s₁ (at + 1) in
      let count : i - at ≡ suc (run s₁) = omega arith in
      let named : t ≡ number_of names (token_of (b ∷ take (run s₁) s₁)) = q ∙ rw (count, drop_one s at h) in
      let rest : drop (run s₁) s₁ ≡ drop i s = drop-drop (run s₁) (at + 1) s ∙ ap (λ (j : ℕ). drop j s) (sym long) in
      next t i (omega arith) (high_of is_name s at i p (omega arith))
      (rw (drop_one s at h) (ap (mapped (map (number_of names))) (lex_word b s₁ e)
      ∙ mapped_put names (token_of (b ∷ take (run s₁) s₁)) (lex (drop (run s₁) s₁)) ∙ rw (named, rest)))

  module _ (n : is_name (get_or s at 0) ≡ false) where
    pub at_blank : is_blank (get_or s at 0) ≡ true → LexemeAt names s at (Some (blank_to (at + 1)))
    unfolding numbers lex lex_from
    at_blank e = skip (rw (drop_one s at h, n, e))

    module _ (b : is_blank (get_or s at 0) ≡ false) where
      pub at_left : get_or s at 0 ≡ 40 → LexemeAt names s at (Some (token_to 35 (at + 1)))
      unfolding numbers lex lex_from number_of
      at_left e =
          next 35 (at + 1) (omega arith) (omega arith)
          (rw (drop_one s at h, n, b, eq-eqb (get_or s at 0) 40 e) (mapped_put names open' (lex (drop (at + 1) s))))

      pub at_right : get_or s at 0 ≡ 41 → LexemeAt names s at (Some (token_to 36 (at + 1)))
      unfolding numbers lex lex_from number_of
      at_right e =
          next 36 (at + 1) (omega arith) (omega arith)
          (rw (drop_one s at h, n, b, ne_eqb (get_or s at 0) 40 (omega arith), eq-eqb (get_or s at 0) 41 e)
          (mapped_put names close' (lex (drop (at + 1) s))))

      pub at_other : (get_or s at 0 ≡ 40 → ⊥) → (get_or s at 0 ≡ 41 → ⊥) → LexemeAt names s at None
      unfolding numbers lex lex_from
      at_other e f = wrong (rw (drop_one s at h, n, b, ne_eqb (get_or s at 0) 40 e, ne_eqb (get_or s at 0) 41 f))

pub onwards : {names : List (List ℕ)} {s : List ℕ} {at : ℕ} {x : Lexeme} → at < length s → LexemeAt names s at (Some x)
    → (at < x.end) × (x.end ≤ length s)
onwards h (next t i a b e) = (a, b)
onwards h (skip e) = (omega arith, omega arith)

-- one word pushed behind others, where there is room
pub pushed_one : (done : List ℕ) (x : ℕ) → length done < 64 → pushed (laid done) x ≡ laid (done ++ (x ∷ []))
pushed_one done x h =
    let n : length (done ++ (x ∷ [])) ≡ length done + 1 = omega (arith, length-append done (x ∷ [])) in
    let q : 64 - length done ≡ suc (64 - (length done + 1)) = omega arith in
    rw (
      lt-ltb (length done) 64 h,
      n,
      q,
      set_at done 0 (replicate (64 - (length done + 1)) 0) x (length done) refl,
      append_snoc done x (replicate (64 - (length done + 1)) 0),
    )

-- A turn of the loop: the text's numbers are those that were pushed, and then those from the place on.
pub record Turn (names : List (List ℕ)) (s : List ℕ) (at : ℕ) (o : Words) : Type 0 where
  pub within : at ≤ length s
  pub done : List ℕ
  pub are : o ≡ laid done
  pub few : length done ≤ 64
  pub rest : numbers names s ≡ mapped (λ r. done ++ r) (numbers names (drop at s))

pub first_turn : (names : List (List ℕ)) (s : List ℕ) → Turn names s 0 (laid [])
first_turn names s = record { within = omega arith; done = []; are = refl; few = omega arith; rest = go (numbers names s) }
  where
    go : (r : Option (List ℕ)) → r ≡ mapped (λ l. l) r
    go none = refl
    go (some l) = refl

module _ {names : List (List ℕ)} {s : List ℕ} {at : ℕ} {o : Words} (turn : Turn names s at o) where
  count_is : o.count ≡ length turn.done
  count_is = ap (λ (w : Words). w.count) turn.are

  pub token_turn : {t i : ℕ} {o' : Words} → (o.count ≡ 64 → ⊥) → o' ≡ pushed o t → LexemeAt names s at (Some (token_to t i))
      → Turn names s i o'
  token_turn g p (next t i a b e) =
      let h : length turn.done < 64 = le_or_lt 64 (length turn.done) (λ k. absurd (g (omega (arith, count_is, turn.few)))) (λ k. k) in
      record {
        within = b;
        done = turn.done ++ (t ∷ []);
        are = p ∙ ap (λ (w : Words). pushed w t) turn.are ∙ pushed_one turn.done t h;
        few = omega (arith, length-append turn.done (t ∷ []));
        rest = turn.rest ∙ rw e (go (numbers names (drop i s)));
      }
    where
      go : (y : Option (List ℕ)) → mapped (λ r. turn.done ++ r) (put_token t y) ≡ mapped (λ r. (turn.done ++ (t ∷ [])) ++ r) y
      go none = refl
      go (some l) = ap some (sym (append_assoc turn.done (t ∷ []) l))

  pub blank_turn : {i : ℕ} → at < length s → LexemeAt names s at (Some (blank_to i)) → Turn names s i o
  blank_turn h (skip e) = record { within = omega arith; done = turn.done; are = turn.are; few = turn.few; rest = turn.rest ∙ rw e }

  pub wrong_there : LexemeAt names s at None → laid_tokens (numbers names s) ≡ None
  wrong_there (wrong e) = rw (turn.rest, e)

  pub full : {t i : ℕ} → o.count ≡ 64 → LexemeAt names s at (Some (token_to t i)) → laid_tokens (numbers names s) ≡ None
  full g (next t i a b e) = rw (turn.rest, e) (go (numbers names (drop i s)))
    where
      go : (y : Option (List ℕ)) → laid_tokens (mapped (λ r. turn.done ++ r) (put_token t y)) ≡ None
      go none = refl
      go (some l) =
          let k : length (turn.done ++ t ∷ l) ≡ 65 + length l = omega (arith, length-append turn.done (t ∷ l), count_is) in
          rw (lt-leb (length (turn.done ++ t ∷ l)) 64 (omega arith))

  pub all_read : length s ≤ at → laid_tokens (numbers names s) ≡ Some o
  unfolding numbers lex lex_from
  all_read h = rw (turn.rest, drop_of_length-le s h) go
    where
      go : laid_tokens (some (turn.done ++ [])) ≡ Some o
      go = rw (append-nil turn.done, le-leb (length turn.done) 64 turn.few) (ap (λ (w : Words). Some w) (sym turn.are))
