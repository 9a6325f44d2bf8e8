-- What becomes of an expression's text: the rules give one answer for any names, and `compile` answers it.
use Prim.Native.Nat.{ℕ, ◌-◌, ◌≤◌, ◌<◌}
use native.Mathlib.Omega.{arith}
use mathlib.Core.Path.{◌≡◌, refl, sym, ap, subst, fun_ext, ◌∙◌}
use mathlib.Core.Bool.{Bool, true, false, cond, false≢true}
use mathlib.Core.Logic.{◌↔◌}
use mathlib.Core.Option.{Option, none, some, none-ne-some}
use mathlib.Core.List.{List, [], ◌∷◌, map, append-nil}
use lib.ListN.{length, length-take, replicate, length-append, length-replicate, length-map}
use lib.Seq.{take-append_seam}
use lib.Dec.{leb}
use borrow.Author.Tests.{leb-true, le-leb, lt-ltb}
use Rattle.lists.specs.Lists.{any}
use Rattle.lists.proofs.Cases.{by_cases, some_same}
use Rattle.text.specs.Texts.{same}
use Rattle.code.specs.Code.{word_of}
use Rattle.grammar.specs.Lex.{Token, word, AND, OR, NOT, open', close', Spells}
use Rattle.grammar.specs.Tree.{or, Expression, print, depth, code}
use Rattle.grammar.specs.Outcome.{ReadsAs, Named, number_in, Becomes, breaks, unnamed, compiles}
use Rattle.grammar.specs.TokensCode.{lex, find, number_of, numbered_token, mapped, numbers}
use Rattle.grammar.specs.GrammarCode.{Res, got, fault, parse_chain, whole, all_named, verdict_refusal, code_in, judged_code, compiled_from, if_any, compiled}
use Rattle.std.specs.Prelude.{Result, Ok, Err}
use Rattle.grammar.specs.declared.Words.{Words}
use Rattle.grammar.specs.declared.Unfit.{Unfit}
use Rattle.grammar.specs.declared.Unfit.TheVariants.{Broken}
use Rattle.grammar.proofs.Sound.{Every, Front}
use Rattle.grammar.proofs.Complete.{complete, sound}
use Rattle.grammar.proofs.Machine.{few_words}
use Rattle.grammar.proofs.Maps.{map_token, map_tree, whole_natural, code_natural}
use Rattle.grammar.proofs.Names.{NameOf, number_low, number_found, find_unnamed, of_names}
use Rattle.grammar.proofs.Laws.{token_word}
use Rattle.grammar.proofs.Spelled.{spelled, spells_lex}

-- what is read whole is a tree that prints to the tokens
whole_sound : {N : Type 0} (d : ℕ) (l : List (Token N)) (e : Expression N) → whole (parse_chain or d l) ≡ some e
    → (l ≡ print e) × (depth e ≤ d)
whole_sound {N} d l e = go (parse_chain or d l) (sound d l)
  where
    go : (p : Res N (Expression N)) → Every (Front print depth d l) p → whole p ≡ some e → (l ≡ print e) × (depth e ≤ d)
    go (got f []) s w = let q : f ≡ e = some_same w in rw (← q) (s.0 ∙ append-nil (print f), s.1)
    go (got f (t ∷ l₁)) s w = absurd (none-ne-some e w)
    go fault s w = absurd (none-ne-some e w)

-- the tree that a text's tokens are, if they are one within the rules
abbrev tree_in : Option (List (Token (List ℕ))) → Option (Expression (List ℕ))
tree_in none = none
tree_in (some ts) = cond (leb (length ts) 64) (whole (parse_chain or 8 ts)) none

module _ {text : List ℕ} {e : Expression (List ℕ)} where
  reads_tree : tree_in (lex text) ≡ some e → ReadsAs text e
  reads_tree = go (lex text) refl
    where
      go : (x : Option (List (Token (List ℕ)))) → lex text ≡ x → tree_in x ≡ some e → ReadsAs text e
      go none l q = absurd (none-ne-some e q)
      go (some ts) l q =
          by_cases (leb (length ts) 64)
          (λ s. let w = whole_sound 8 ts e (rw s at q) in
          record {
            spelled = subst (Spells text) w.0 ((spelled text ts).0 l);
            some_tokens = omega (arith, few_words (λ w. 0) e);
            short = omega (arith, ap length w.0, leb-true (length ts) 64 s);
            shallow = w.1;
          })
          (λ s. absurd (none-ne-some e (rw s at q)))

  tree_read : ReadsAs text e → tree_in (lex text) ≡ some e
  tree_read r = rw (spells_lex r.spelled, le-leb (length (print e)) 64 r.short, complete 8 e r.shallow)

no_tree : {text : List ℕ} → tree_in (lex text) ≡ none → (e : Expression (List ℕ)) → ReadsAs text e → ⊥
no_tree q e r = none-ne-some e (sym q ∙ tree_read r)

-- a text is at most one tree
pub only_tree : {text : List ℕ} {e f : Expression (List ℕ)} → ReadsAs text e → ReadsAs text f → e ≡ f
only_tree r s = some_same (sym (tree_read r) ∙ tree_read s)

-- all words are names, or not
named_or : {A : Type 0} (names : List (List ℕ)) (l : List (Token (List ℕ))) → (Named names l → A) → ((Named names l → ⊥) → A) → A
named_or names [] f g = f tt
named_or names (word w ∷ l) f g =
    by_cases (any (same w) names) (λ t. named_or names l (λ n. f (t, n)) (λ n. g (λ m. n m.1)))
    (λ t. g (λ m. false≢true (sym t ∙ m.0)))
named_or names (AND ∷ l) f g = named_or names l f g
named_or names (OR ∷ l) f g = named_or names l f g
named_or names (NOT ∷ l) f g = named_or names l f g
named_or names (open' ∷ l) f g = named_or names l f g
named_or names (close' ∷ l) f g = named_or names l f g

-- the rules give an answer
pub becomes : (names : List (List ℕ)) (text : List ℕ) → (r : Option ℕ) × (ws : List ℕ) × Becomes names text r ws
becomes names text = go (tree_in (lex text)) refl
  where
    go : (p : Option (Expression (List ℕ))) → tree_in (lex text) ≡ p → (r : Option ℕ) × (ws : List ℕ) × Becomes names text r ws
    go none q = (some 11, [], breaks (no_tree q))
    go (some e) q =
        let r = reads_tree q in
        named_or names (print e) (λ n. (none, map word_of (code (number_in names) e), compiles e r n)) (λ n. (some 12, [], unnamed e r n))

-- and one only
module _ {names : List (List ℕ)} {text : List ℕ} where
  pub becomes_once : {r r' : Option ℕ} {ws ws' : List ℕ} → Becomes names text r ws → Becomes names text r' ws' → (r ≡ r') × (ws ≡ ws')
  becomes_once (breaks h) (breaks k) = (refl, refl)
  becomes_once (breaks h) (unnamed f s m) = absurd (h f s)
  becomes_once (breaks h) (compiles f s m) = absurd (h f s)
  becomes_once (unnamed e r n) (breaks k) = absurd (k e r)
  becomes_once (unnamed e r n) (unnamed f s m) = (refl, refl)
  becomes_once (unnamed e r n) (compiles f s m) = absurd (n (rw (only_tree r s) m))
  becomes_once (compiles e r n) (breaks k) = absurd (k e r)
  becomes_once (compiles e r n) (unnamed f s m) = absurd (m (rw (only_tree s r) n))
  becomes_once (compiles e r n) (compiles f s m) =
      (refl, ap (λ (x : Expression (List ℕ)). map word_of (code (number_in names) x)) (only_tree r s))

-- by numbers, where there are at most 32 names
module _ (names : List (List ℕ)) (few : length names ≤ 32) where
  numbered_token_lem : (t : Token (List ℕ)) → numbered_token (number_of names t) ≡ map_token (λ w. find names w 0) t
  unfolding number_of numbered_token
  numbered_token_lem (word w) =
      by_cases (any (same w) names)
      (λ e. let h : find names w 0 < 32 = omega (arith, number_found names w e, number_low names w e) in
      token_word _ (λ q. omega arith) (λ q. omega arith) (λ q. omega arith) (λ q. omega arith) (λ q. omega arith))
      (λ e. rw (find_unnamed names w 0 e))
  numbered_token_lem AND = refl
  numbered_token_lem OR = refl
  numbered_token_lem NOT = refl
  numbered_token_lem open' = refl
  numbered_token_lem close' = refl

  numbered : (l : List (Token (List ℕ))) → map numbered_token (map (number_of names) l) ≡ map (map_token (λ w. find names w 0)) l
  numbered [] = refl
  numbered (t ∷ l) = rw (numbered_token_lem t, numbered l)

  all_named_lem : (l : List (Token (List ℕ))) → Named names l → all_named (map (number_of names) l) ≡ true
  unfolding number_of
  all_named_lem [] n = refl
  all_named_lem (word w ∷ l) n =
      rw (lt-ltb (find names w 0) 37 (omega (arith, number_found names w n.0, number_low names w n.0))) (all_named_lem l n.1)
  all_named_lem (AND ∷ l) n = all_named_lem l n
  all_named_lem (OR ∷ l) n = all_named_lem l n
  all_named_lem (NOT ∷ l) n = all_named_lem l n
  all_named_lem (open' ∷ l) n = all_named_lem l n
  all_named_lem (close' ∷ l) n = all_named_lem l n

  named_all : (l : List (Token (List ℕ))) → all_named (map (number_of names) l) ≡ true → Named names l
  unfolding number_of
  named_all [] e = tt
  named_all (word w ∷ l) e =
      by_cases (any (same w) names)
      (λ t. (t, named_all l (rw (lt-ltb (find names w 0) 37 (omega (arith, number_found names w t, number_low names w t))) at e)))
      (λ t. absurd (false≢true (rw (find_unnamed names w 0 t) at e)))
  named_all (AND ∷ l) e = named_all l e
  named_all (OR ∷ l) e = named_all l e
  named_all (NOT ∷ l) e = named_all l e
  named_all (open' ∷ l) e = named_all l e
  named_all (close' ∷ l) e = named_all l e

  -- the numbers found are those of the names
  found_code : (e : Expression (List ℕ)) → Named names (print e)
      → code (λ i. i) (map_tree (λ w. find names w 0) e) ≡ code (number_in names) e
  found_code e n =
      code_natural (λ w. find names w 0) (λ i. i) e
      ∙ of_names names (λ x. code (λ w. find names w 0) x ≡ code (number_in names) x)
      (λ x. code_natural (λ (w : NameOf names). w.0) (λ w. find names w 0) x
      ∙ ap (λ (num : NameOf names → ℕ). code num x) (fun_ext (λ w. number_found names w.0 w.1))
      ∙ sym (code_natural (λ (w : NameOf names). w.0) (number_in names) x)) e n

  -- what `compile` answers where the text is this tree
  abbrev answered : Option (Expression (List ℕ)) → Result Words Unfit
  answered none = Err Broken
  answered (some e) = judged_code (all_named (map (number_of names) (print e))) (some (map_tree (λ w. find names w 0) e))

  compiled_is : (text : List ℕ) → compiled names text ≡ answered (tree_in (lex text))
  unfolding compiled compiled_from numbers
  compiled_is text = go (lex text)
    where
      tree : (ts : List (Token (List ℕ))) (p : Option (Expression (List ℕ))) → whole (parse_chain or 8 ts) ≡ p
          → judged_code (all_named (map (number_of names) ts)) (mapped (map_tree (λ w. find names w 0)) p) ≡ answered p
      tree ts none q = refl
      tree ts (some e) q = rw (whole_sound 8 ts e q).0

      go : (x : Option (List (Token (List ℕ)))) → if_any (mapped (map (number_of names)) x) ≡ answered (tree_in x)
      go none = refl
      go (some ts) =
          by_cases (leb (length ts) 64)
          (λ s. rw (length-map ts (number_of names), s, numbered ts, whole_natural (λ w. find names w 0) 8 ts)
          (tree ts (whole (parse_chain or 8 ts)) refl))
          (λ s. rw (length-map ts (number_of names), s))

-- `compile` answers what the rules give
pub compiled_becomes : (names : List (List ℕ)) (text : List ℕ) → length names ≤ 32
    → Becomes names text (verdict_refusal (compiled names text)) (code_in (compiled names text))
compiled_becomes names text few = rw (compiled_is names few text) (go (tree_in (lex text)) refl)
  where
    go : (p : Option (Expression (List ℕ))) → tree_in (lex text) ≡ p
        → Becomes names text (verdict_refusal (answered names few p)) (code_in (answered names few p))
    go none q = breaks (no_tree q)
    go (some e) q =
        let ws = map word_of (code (λ i. i) (map_tree (λ w. find names w 0) e)) in
        named_or names (print e)
        (λ n. rw (all_named_lem names few (print e) n, take-append_seam ws (replicate (64 - length ws) 0), found_code names few e n)
        (compiles e (reads_tree q) n))
        (λ n. by_cases (all_named (map (number_of names) (print e)))
        (λ t. absurd (n (named_all names few (print e) t))) (λ t. rw t (unnamed e (reads_tree q) n)))

-- 11 exactly if no tree within the rules is what the text says; 12 exactly if one is, but some word names no trigger
module _ {names : List (List ℕ)} {text : List ℕ} {r : Option ℕ} {ws : List ℕ} (b : Becomes names text r ws) where
  pub broken_exactly : (r ≡ some 11) ↔ ((e : Expression (List ℕ)) → ReadsAs text e → ⊥)
  broken_exactly = (go b, λ h. (becomes_once b (breaks h)).0)
    where
      go : {r : Option ℕ} {ws : List ℕ} → Becomes names text r ws → r ≡ some 11 → (e : Expression (List ℕ)) → ReadsAs text e → ⊥
      go (breaks h) q = h
      go (unnamed f s m) q = absurd (omega (arith, some_same q))
      go (compiles f s m) q = absurd (none-ne-some 11 q)

  pub unknown_exactly : (r ≡ some 12) ↔ ((e : Expression (List ℕ)) × ReadsAs text e × (Named names (print e) → ⊥))
  unknown_exactly = (go b, λ h. (becomes_once b (unnamed h.0 h.1 h.2)).0)
    where
      go : {r : Option ℕ} {ws : List ℕ} → Becomes names text r ws → r ≡ some 12
          → (e : Expression (List ℕ)) × ReadsAs text e × (Named names (print e) → ⊥)
      go (breaks h) q = absurd (omega (arith, some_same q))
      go (unnamed f s m) q = (f, s, m)
      go (compiles f s m) q = absurd (none-ne-some 12 q)

-- there are never more than 64 words, in an array of 64
pub fits : (names : List (List ℕ)) (text : List ℕ) {w : Words} → compiled names text ≡ Ok w → (w.count ≤ 64) × (length w.words ≡ 64)
unfolding compiled compiled_from
fits names text {w} p = subst Fit p (go (numbers names text))
  where
    Fit : Result Words Unfit → Type 0
    Fit (Ok w) = (w.count ≤ 64) × (length w.words ≡ 64)
    Fit (Err x) = Unit {0}

    tree : (ts : List ℕ) → length ts ≤ 64 → (b : Bool) (x : Option (Expression ℕ)) → whole (parse_chain or 8 (map numbered_token ts)) ≡ x
        → Fit (judged_code b x)
    tree ts s b none q = tt
    tree ts s false (some e) q = tt
    tree ts s true (some e) q =
        let c = code (λ i. i) e in
        let ws = map word_of c in
        let n : length (print e) ≡ length ts = sym (ap length (whole_sound 8 _ e q).0) ∙ length-map ts numbered_token in
        let k : length ws ≤ 64 = omega (arith, length-map c word_of, few_words (λ i. i) e) in
        (k, omega (arith, length-append ws (replicate (64 - length ws) 0), length-replicate {A = ℕ} (64 - length ws) 0))

    go : (x : Option (List ℕ)) → Fit (if_any x)
    go none = tt
    go (some ts) =
        by_cases (leb (length ts) 64)
        (λ s. rw s (tree ts (leb-true (length ts) 64 s) (all_named ts) (whole (parse_chain or 8 (map numbered_token ts))) refl))
        (λ s. rw s tt)

pub few_code : (names : List (List ℕ)) (text : List ℕ) → length (code_in (compiled names text)) ≤ 64
few_code names text = go (compiled names text) refl
  where
    go : (r : Result Words Unfit) → compiled names text ≡ r → length (code_in r) ≤ 64
    go (Ok w) e = omega (arith, fits names text e, length-take w.count w.words)
    go (Err x) e = omega arith
