-- Tokens and trees under other names: what the reader reads of tokens, it reads of the same tokens under other names, and so do a tree's
-- code and meaning follow the names.
use Prim.Native.Nat.{ℕ, zero, suc}
use mathlib.Core.Path.{◌≡◌, refl}
use mathlib.Core.Bool.{Bool}
use mathlib.Core.List.{List, [], ◌∷◌, map}
use lib.ListN.{length-map}
use Rattle.lists.proofs.Cases.{by_cases}
use Rattle.grammar.specs.Lex.{Token, word, AND, OR, NOT, open', close'}
use Rattle.grammar.specs.Tree.{Operator, or, and, Chain, only, join, Operand, chain, name, negate, bracket, Expression, mean, means, code, coded}
use Rattle.grammar.specs.TokensCode.{mapped}
use Rattle.grammar.specs.GrammarCode.{Res, got, fault, then', is_mark, closed_bracket, read_chain, read_more, read_operand, parse_chain, whole}

module _ {N M : Type 0} (f : N → M) where
  abbrev pub map_token : Token N → Token M
  map_token (word w) = word (f w)
  map_token AND = AND
  map_token OR = OR
  map_token NOT = NOT
  map_token open' = open'
  map_token close' = close'

  unfoldable mutual
    pub map_tree : {b : Operator} → Chain N b → Chain M b
    map_tree (only x) = only (map_operand x)
    map_tree (join c x) = join (map_tree c) (map_operand x)

    pub map_operand : {b : Operator} → Operand N b → Operand M b
    map_operand (chain c) = chain (map_tree c)
    map_operand (name w) = name (f w)
    map_operand (negate x) = negate (map_operand x)
    map_operand (bracket e) = bracket (map_tree e)

  abbrev map_res : {A B : Type 0} → (A → B) → Res N A → Res M B
  map_res g (got a l) = got (g a) (map map_token l)
  map_res g fault = fault

  then_natural : {A B A' B' : Type 0} (g : A → A') (h : B → B') (r : Res N A) (k : A → List (Token N) → Res N B)
      (k' : A' → List (Token M) → Res M B') → ((a : A) (l : List (Token N)) → k' (g a) (map map_token l) ≡ map_res h (k a l))
      → then' (map_res g r) k' ≡ map_res h (then' r k)
  then_natural g h (got a l) k k' e = e a l
  then_natural g h fault k k' e = refl

  mark_natural : (b : Operator) (t : Token N) → is_mark b (map_token t) ≡ is_mark b t
  mark_natural or (word w) = refl
  mark_natural or AND = refl
  mark_natural or OR = refl
  mark_natural or NOT = refl
  mark_natural or open' = refl
  mark_natural or close' = refl
  mark_natural and (word w) = refl
  mark_natural and AND = refl
  mark_natural and OR = refl
  mark_natural and NOT = refl
  mark_natural and open' = refl
  mark_natural and close' = refl

  closed_natural : (e : Expression N) (l : List (Token N))
      → closed_bracket (map_tree e) (map map_token l) ≡ map_res map_operand (closed_bracket e l)
  unfolding map_tree
  closed_natural e [] = refl
  closed_natural e (word w ∷ l) = refl
  closed_natural e (AND ∷ l) = refl
  closed_natural e (OR ∷ l) = refl
  closed_natural e (NOT ∷ l) = refl
  closed_natural e (open' ∷ l) = refl
  closed_natural e (close' ∷ l) = refl

  mutual
    unfolding read_chain map_tree

    natural_chain : (k : ℕ) (b : Operator) (d : ℕ) (l : List (Token N))
        → read_chain k b d (map map_token l) ≡ map_res map_tree (read_chain k b d l)
    natural_chain zero b d l = refl
    natural_chain (suc k) b d l =
        rw (natural_operand k b d l)
        (then_natural map_operand map_tree (read_operand k b d l) _ _ (λ x l₁. natural_more k b d (only x) l₁))

    natural_more : (k : ℕ) (b : Operator) (d : ℕ) (c : Chain N b) (l : List (Token N))
        → read_more k b d (map_tree c) (map map_token l) ≡ map_res map_tree (read_more k b d c l)
    natural_more zero b d c l = refl
    natural_more (suc k) b d c [] = refl
    natural_more (suc k) b d c (t ∷ l) =
        by_cases (is_mark b t)
        (λ e. rw (mark_natural b t, e, natural_operand k b d l)
        (then_natural map_operand map_tree (read_operand k b d l) _ _ (λ x l₁. natural_more k b d (join c x) l₁)))
        (λ e. rw (mark_natural b t, e))

    natural_operand : (k : ℕ) (b : Operator) (d : ℕ) (l : List (Token N))
        → read_operand k b d (map map_token l) ≡ map_res map_operand (read_operand k b d l)
    natural_operand zero b d l = refl
    natural_operand (suc k) or d l =
        rw (natural_chain k and d l) (then_natural map_tree map_operand (read_chain k and d l) _ _ (λ c l₁. refl))
    natural_operand (suc k) and d [] = refl
    natural_operand (suc k) and d (word w ∷ l) = refl
    natural_operand (suc k) and d (AND ∷ l) = refl
    natural_operand (suc k) and d (OR ∷ l) = refl
    natural_operand (suc k) and d (NOT ∷ l) =
        rw (natural_operand k and d l) (then_natural map_operand map_operand (read_operand k and d l) _ _ (λ x l₁. refl))
    natural_operand (suc k) and zero (open' ∷ l) = refl
    natural_operand (suc k) and (suc d) (open' ∷ l) =
        rw (natural_chain k or d l) (then_natural map_tree map_operand (read_chain k or d l) closed_bracket closed_bracket closed_natural)
    natural_operand (suc k) and d (close' ∷ l) = refl

  -- what is read whole
  pub whole_natural : (d : ℕ) (l : List (Token N)) → whole (parse_chain or d (map map_token l)) ≡ mapped map_tree (whole (parse_chain or d l))
  unfolding parse_chain
  whole_natural d l = rw (length-map l map_token, natural_chain _ or d l) (go (read_chain _ or d l))
    where
      go : (p : Res N (Expression N)) → whole (map_res map_tree p) ≡ mapped map_tree (whole p)
      go (got e []) = refl
      go (got e (t ∷ l₁)) = refl
      go fault = refl

  module _ (num : M → ℕ) where
    mutual
      unfolding code map_tree

      pub code_natural : {b : Operator} (e : Chain N b) → code num (map_tree e) ≡ code (λ w. num (f w)) e
      code_natural (only x) = coded_natural x
      code_natural (join c x) = rw (code_natural c, coded_natural x)

      coded_natural : {b : Operator} (x : Operand N b) → coded num (map_operand x) ≡ coded (λ w. num (f w)) x
      coded_natural (chain c) = code_natural c
      coded_natural (name w) = refl
      coded_natural (negate x) = rw (coded_natural x)
      coded_natural (bracket e) = code_natural e

  module _ (v : M → Bool) where
    mutual
      unfolding mean map_tree

      pub mean_natural : {b : Operator} (e : Chain N b) → mean (map_tree e) v ≡ mean e (λ w. v (f w))
      mean_natural (only x) = means_natural x
      mean_natural (join c x) = rw (mean_natural c, means_natural x)

      means_natural : {b : Operator} (x : Operand N b) → means (map_operand x) v ≡ means x (λ w. v (f w))
      means_natural (chain c) = mean_natural c
      means_natural (name w) = refl
      means_natural (negate x) = rw (means_natural x)
      means_natural (bracket e) = mean_natural e
