-- The readers without their fuel: given enough, what a reader reads does not hang on it. The laws `parse_..` are all that a caller needs.
use Prim.Native.Nat.{ℕ, zero, suc, ◌+◌, ◌*◌, ◌≤◌}
use native.Mathlib.Omega.{arith}
use mathlib.Core.Path.{◌≡◌, refl, ap, ◌∙◌}
use mathlib.Core.Bool.{cond}
use mathlib.Core.List.{List, [], ◌∷◌}
use lib.ListN.{length, length-append}
use Rattle.grammar.specs.Lex.{Token, word, AND, OR, NOT, open', close'}
use Rattle.grammar.specs.Tree.{Operator, or, and, Chain, only, join, Operand, chain, negate, Expression, printed, deep}
use Rattle.grammar.specs.GrammarCode.{Res, got, fault, then', is_mark, joined_on, closed_bracket, operand_at, read_chain, read_more, read_operand, top, parse_chain, parse_more, parse_operand}
use Rattle.grammar.proofs.Sound.{Every, Front, sound_operand}

top_low : (b : Operator) → top b ≤ 3
top_low or = omega arith
top_low and = omega arith

module _ {N : Type 0} where
  -- two continuations that agree on whatever was read
  then_same : {A B : Type 0} (P : A → List (Token N) → Type 0) (r r' : Res N A) (f g : A → List (Token N) → Res N B)
      → r ≡ r' → Every P r → ((a : A) (l : List (Token N)) → P a l → f a l ≡ g a l) → then' r f ≡ then' r' g
  then_same P (got a l) r' f g e p h = h a l p ∙ ap (λ r. then' r g) e
  then_same P fault r' f g e p h = ap (λ r. then' r g) e

  onward_same : {b : Operator} (c : Chain N b) (f g : List (Token N) → Res N (Chain N b)) (l : List (Token N))
      → ((l₁ : List (Token N)) → suc (length l₁) ≤ length l → f l₁ ≡ g l₁) → joined_on c f l ≡ joined_on c g l
  onward_same c f g [] h = refl
  onward_same {b} c f g (t ∷ l) h = ap (λ r. cond (is_mark b t) r (got c (t ∷ l))) (h l (omega arith))

  operand_same : (f f' : ℕ → List (Token N) → Res N (Operand N and)) (g g' : ℕ → List (Token N) → Res N (Expression N))
      (d : ℕ) (l : List (Token N))
      → ((d₁ : ℕ) (l₁ : List (Token N)) → suc (length l₁) ≤ length l → (f d₁ l₁ ≡ f' d₁ l₁) × (g d₁ l₁ ≡ g' d₁ l₁))
      → operand_at f g d l ≡ operand_at f' g' d l
  operand_same f f' g g' d [] h = refl
  operand_same f f' g g' d (word w ∷ l) h = refl
  operand_same f f' g g' d (AND ∷ l) h = refl
  operand_same f f' g g' d (OR ∷ l) h = refl
  operand_same f f' g g' d (NOT ∷ l) h = ap (λ r. then' r (λ x l₁. got (negate x) l₁)) (h d l (omega arith)).0
  operand_same f f' g g' zero (open' ∷ l) h = refl
  operand_same f f' g g' (suc d) (open' ∷ l) h = ap (λ r. then' r closed_bracket) (h d l (omega arith)).1
  operand_same f f' g g' d (close' ∷ l) h = refl

  -- an operand, and a chain behind it, which has no more tokens than there were
  behind : {b : Operator} (k m d : ℕ) (l : List (Token N)) (f g : Operand N b → List (Token N) → Res N (Chain N b))
      → read_operand k b d l ≡ read_operand m b d l
      → ((x : Operand N b) (l₁ : List (Token N)) → length l₁ ≤ length l → f x l₁ ≡ g x l₁)
      → then' (read_operand k b d l) f ≡ then' (read_operand m b d l) g
  behind {b} k m d l f g e h =
      then_same (Front printed deep d l) (read_operand k b d l) (read_operand m b d l) f g e (sound_operand k b d l)
      λ x l₁ p. h x l₁ (omega (arith, simp length-append at (ap length p.0)))

  mutual
    unfolding read_chain

    stable_chain : (k m : ℕ) (b : Operator) (d : ℕ) (l : List (Token N)) → 4 * length l + top b + 1 ≤ k → 4 * length l + top b + 1 ≤ m
        → read_chain k b d l ≡ read_chain m b d l
    stable_chain zero m b d l h g = absurd (omega arith)
    stable_chain (suc k) zero b d l h g = absurd (omega arith)
    stable_chain (suc k) (suc m) or d l h g =
        behind k m d l _ _ (stable_operand k m or d l (omega arith) (omega arith)) λ x l₁ p.
        stable_more k m or d (only x) l₁ (omega arith) (omega arith)
    stable_chain (suc k) (suc m) and d l h g =
        behind k m d l _ _ (stable_operand k m and d l (omega arith) (omega arith)) λ x l₁ p.
        stable_more k m and d (only x) l₁ (omega arith) (omega arith)

    stable_more : (k m : ℕ) (b : Operator) (d : ℕ) (c : Chain N b) (l : List (Token N)) → 4 * length l + 1 ≤ k → 4 * length l + 1 ≤ m
        → read_more k b d c l ≡ read_more m b d c l
    stable_more zero m b d c l h g = absurd (omega arith)
    stable_more (suc k) zero b d c l h g = absurd (omega arith)
    stable_more (suc k) (suc m) b d c l h g =
        let t = top_low b in
        onward_same c _ _ l λ l₁ q.
        behind k m d l₁ _ _ (stable_operand k m b d l₁ (omega arith) (omega arith)) λ x l₂ p.
        stable_more k m b d (join c x) l₂ (omega arith) (omega arith)

    stable_operand : (k m : ℕ) (b : Operator) (d : ℕ) (l : List (Token N)) → 4 * length l + top b ≤ k → 4 * length l + top b ≤ m
        → read_operand k b d l ≡ read_operand m b d l
    stable_operand zero m or d l h g = absurd (omega arith)
    stable_operand zero m and d l h g = absurd (omega arith)
    stable_operand (suc k) zero or d l h g = absurd (omega arith)
    stable_operand (suc k) zero and d l h g = absurd (omega arith)
    stable_operand (suc k) (suc m) or d l h g =
        ap (λ r. then' r (λ c l₁. got (chain c) l₁)) (stable_chain k m and d l (omega arith) (omega arith))
    stable_operand (suc k) (suc m) and d l h g =
        operand_same _ _ _ _ d l λ d₁ l₁ q.
        (stable_operand k m and d₁ l₁ (omega arith) (omega arith), stable_chain k m or d₁ l₁ (omega arith) (omega arith))

  pub parse_chain_lem : (b : Operator) (d : ℕ) (l : List (Token N))
      → parse_chain b d l ≡ then' (parse_operand b d l) (λ x l₁. parse_more b d (only x) l₁)
  unfolding parse_chain parse_more parse_operand read_chain
  parse_chain_lem b d l =
      let k = 4 * length l + top b + 1 in
      stable_chain k (suc k) b d l (omega arith) (omega arith)
      ∙ behind k (4 * length l + top b) d l _ _ (stable_operand k (4 * length l + top b) b d l (omega arith) (omega arith))
      λ x l₁ p. stable_more k (4 * length l₁ + 1) b d (only x) l₁ (omega arith) (omega arith)

  pub parse_more_lem : (b : Operator) (d : ℕ) (c : Chain N b) (l : List (Token N))
      → parse_more b d c l ≡ joined_on c (λ l₁. then' (parse_operand b d l₁) (λ x l₂. parse_more b d (join c x) l₂)) l
  unfolding parse_more parse_operand read_chain
  parse_more_lem b d c l =
      let t = top_low b in
      let k = 4 * length l + 1 in
      stable_more k (suc k) b d c l (omega arith) (omega arith)
      ∙ onward_same c _ _ l λ l₁ q.
      behind k (4 * length l₁ + top b) d l₁ _ _ (stable_operand k (4 * length l₁ + top b) b d l₁ (omega arith) (omega arith))
      λ x l₂ p. stable_more k (4 * length l₂ + 1) b d (join c x) l₂ (omega arith) (omega arith)

  pub parse_or : (d : ℕ) (l : List (Token N)) → parse_operand or d l ≡ then' (parse_chain and d l) (λ c l₁. got (chain c) l₁)
  unfolding parse_operand parse_chain read_chain
  parse_or d l = stable_operand (4 * length l + 3) (suc (4 * length l + 1 + 1)) or d l (omega arith) (omega arith)

  pub parse_and : (d : ℕ) (l : List (Token N)) → parse_operand and d l ≡ operand_at (parse_operand and) (parse_chain or) d l
  unfolding parse_operand parse_chain read_chain
  parse_and d l =
      let k = 4 * length l + 1 in
      stable_operand k (suc k) and d l (omega arith) (omega arith)
      ∙ operand_same _ _ _ _ d l
      λ d₁ l₁ q. (
        stable_operand k (4 * length l₁ + 1) and d₁ l₁ (omega arith) (omega arith),
        stable_chain k (4 * length l₁ + 3 + 1) or d₁ l₁
            (omega arith) (omega arith),
      )
