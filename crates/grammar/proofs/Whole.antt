-- Laws of a whole expression: what becomes of the tokens, what becomes of the text.
use Prim.Native.Nat.{ℕ, ◌+◌, ◌-◌, ◌≤◌, ◌<◌}
use native.Mathlib.Omega.{arith}
use mathlib.Core.Path.{◌≡◌, refl, sym, ap, ◌∙◌}
use mathlib.Core.Bool.{true, false}
use Rattle.std.specs.Prelude.{Option as Maybe, Some, None, Ok, Err}
use mathlib.Core.Option.{Option, none, some}
use mathlib.Core.List.{List, [], ◌∷◌, ◌++◌, map, append_assoc, append-nil}
use lib.ListN.{length, length-append, length-map, replicate}
use lib.Seq.{take-append_seam}
use lib.Dec.{leb}
use Rattle.lists.proofs.Cases.{by_cases}
use Rattle.std.specs.List.{fold}
use Rattle.code.specs.Code.{word_of}
use Rattle.grammar.specs.TokensCode.{numbered_token, numbers, laid, words_in, pushed, lexed, laid_tokens}
use Rattle.grammar.specs.Tree.{or, Expression, code}
use Rattle.grammar.specs.GrammarCode.{Res, parse_chain, whole, all_named, judged_code, compiled_from, if_any, compiled, Agrees}
use Rattle.grammar.specs.declared.Words.{Words}
use Rattle.grammar.specs.declared.Unfit.TheVariants.{Broken, Unknown}
use Rattle.grammar.proofs.Tokens.{pushed_one}
use Rattle.grammar.proofs.Laws.{tokens_at, tokens_end, took, faulty}

-- words pushed behind others, where there is room
pub pushed_laid : (done l : List ℕ) → length done + length l ≤ 64 → fold pushed (laid done) l ≡ laid (done ++ l)
pushed_laid done [] h = rw (append-nil done)
pushed_laid done (x ∷ l) h =
    ap (λ (w : Words). fold pushed w l) (pushed_one done x (omega arith)) ∙ pushed_laid (done ++ (x ∷ [])) l (omega (arith, length-append done (x ∷ [])))
    ∙ ap laid (append_assoc done (x ∷ []) l)

-- what becomes of the tokens, by what the reader of the code answered
module _ {ts : List ℕ} {o₀ o : Words} {r : Maybe ℕ} (a : Agrees (code (λ i. i)) ts 0 o₀ o (parse_chain or 8 (map numbered_token ts)) r) where
  pub no_expression : r ≡ None → compiled_from ts ≡ Err Broken
  unfolding compiled_from
  no_expression e = ap (λ (p : Res ℕ (Expression ℕ)). judged_code (all_named ts) (whole p)) (faulty a e)

  module _ {i : ℕ} (e : r ≡ Some i) where
    pub left_over : i < length ts → compiled_from ts ≡ Err Broken
    unfolding compiled_from
    left_over h =
        let t = took a e in
        ap (λ (p : Res ℕ (Expression ℕ)). judged_code (all_named ts) (whole p)) t.same ∙ rw (tokens_at ts i h)

    all_read : length ts ≤ i → compiled_from ts ≡ judged_code (all_named ts) (some (took a e).tree)
    unfolding compiled_from
    all_read h =
        let t = took a e in
        ap (λ (p : Res ℕ (Expression ℕ)). judged_code (all_named ts) (whole p)) t.same ∙ rw (tokens_end ts i h)

    pub some_unnamed : length ts ≤ i → all_named ts ≡ false → compiled_from ts ≡ Err Unknown
    some_unnamed h n = all_read h ∙ rw n

    pub all_named_lem : o₀ ≡ laid [] → length ts ≤ 64 → length ts ≤ i → all_named ts ≡ true → compiled_from ts ≡ Ok o
    all_named_lem b g h n =
        let t = took a e in
        let c = code (λ i. i) t.tree in
        let k : length (map word_of c) ≤ 64 = omega (arith, length-map c word_of, t.written.spare, t.written.within) in
        let p : o ≡ laid (map word_of c) =
        t.written.pushes ∙ ap (λ (w : Words). fold pushed w (map word_of c)) b ∙ pushed_laid [] (map word_of c) (omega arith) in
        all_read h ∙ rw n (ap (λ (w : Words). Ok w) (sym p))

-- what becomes of a text, by what `tokenise` answered
module _ (names : List (List ℕ)) (text : List ℕ) {r : Maybe Words} (p : r ≡ lexed names text) where
  pub unfit_text : r ≡ None → compiled names text ≡ Err Broken
  unfolding lexed compiled
  unfit_text e = go (numbers names text) (sym p ∙ e)
    where
      go : (x : Option (List ℕ)) → laid_tokens x ≡ None → if_any x ≡ Err Broken
      go none q = refl
      go (some ts) q = by_cases (leb (length ts) 64) (λ s. let f : Some (laid ts) ≡ None = rw s at q in cc) (λ s. rw s)

  pub fit_text : {w : Words} → r ≡ Some w → compiled names text ≡ compiled_from (words_in w)
  unfolding lexed compiled
  fit_text {w} e = go (numbers names text) (sym p ∙ e)
    where
      go : (x : Option (List ℕ)) → laid_tokens x ≡ Some w → if_any x ≡ compiled_from (words_in w)
      go none q = cc
      go (some ts) q =
          by_cases (leb (length ts) 64)
          (λ s. let f : Some (laid ts) ≡ Some w = rw s at q in
          let g : laid ts ≡ w = cc in
          rw (s, ← g, take-append_seam ts (replicate (64 - length ts) 0)))
          (λ s. let f : ◌≡◌ {A = Maybe Words} None (Some w) = rw s at q in cc)
