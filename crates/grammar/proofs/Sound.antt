-- What the readers read is what the tree prints, and its brackets stand no deeper than allowed.
use Prim.Native.Nat.{ℕ, zero, suc, ◌≤◌}
use native.Mathlib.Omega.{arith}
use mathlib.Core.Path.{◌≡◌, refl, sym, ap, ◌∙◌}
use mathlib.Core.Bool.{Bool, true, false, cond, false≢true}
use mathlib.Core.List.{List, [], ◌∷◌, ◌++◌, append_assoc}
use Rattle.grammar.specs.Lex.{Token, word, AND, OR, NOT, open', close'}
use Rattle.grammar.specs.Tree.{Operator, or, and, Chain, only, join, Expression, mark, print, printed, depth, deep}
use Rattle.grammar.specs.GrammarCode.{Res, got, fault, then', is_mark, joined_on, closed_bracket, read_chain, read_more, read_operand}

module _ {N : Type 0} where
  -- P holds of what was read, if anything was
  abbrev pub Every : {A : Type 0} → (A → List (Token N) → Type 0) → Res N A → Type 0
  Every P (got a l) = P a l
  Every P fault = Unit {0}

  every_then : {A B : Type 0} (P : A → List (Token N) → Type 0) (Q : B → List (Token N) → Type 0) (r : Res N A)
      (f : A → List (Token N) → Res N B)
      → Every P r → ((a : A) (l : List (Token N)) → P a l → Every Q (f a l)) → Every Q (then' r f)
  every_then P Q (got a l) f p h = h a l p
  every_then P Q fault f p h = tt

  pub mark_is : (b : Operator) (t : Token N) → is_mark b t ≡ true → t ≡ mark b
  mark_is or (word w) e = absurd (false≢true e)
  mark_is or AND e = absurd (false≢true e)
  mark_is or OR e = refl
  mark_is or NOT e = absurd (false≢true e)
  mark_is or open' e = absurd (false≢true e)
  mark_is or close' e = absurd (false≢true e)
  mark_is and (word w) e = absurd (false≢true e)
  mark_is and AND e = refl
  mark_is and OR e = absurd (false≢true e)
  mark_is and NOT e = absurd (false≢true e)
  mark_is and open' e = absurd (false≢true e)
  mark_is and close' e = absurd (false≢true e)

  -- `s` is what a tree prints and then the tokens left, and the tree is at most d deep
  abbrev pub Front : {A : Type 0} → (A → List (Token N)) → (A → ℕ) → ℕ → List (Token N) → A → List (Token N) → Type 0
  Front p q d s a l = (s ≡ p a ++ l) × (q a ≤ d)

  onward_front : {b : Operator} (d : ℕ) (c : Chain N b) (f : List (Token N) → Res N (Chain N b)) (l : List (Token N)) → depth c ≤ d
      → ((l₁ : List (Token N)) → Every (Front print depth d (print c ++ (mark b ∷ l₁))) (f l₁))
      → Every (Front print depth d (print c ++ l)) (joined_on c f l)
  onward_front d c f [] h g = (refl, h)
  onward_front {b} d c f (t ∷ l) h g = go (is_mark b t) refl
    where
      go : (x : Bool) → is_mark b t ≡ x → Every (Front print depth d (print c ++ (t ∷ l))) (cond x (f l) (got c (t ∷ l)))
      go true e = rw (mark_is b t e) (g l)
      go false e = (refl, h)

  closed_front : (d : ℕ) (l : List (Token N)) (e : Expression N) (l₁ : List (Token N)) → Front print depth d l e l₁
      → Every (Front printed deep (suc d) (open' ∷ l)) (closed_bracket e l₁)
  unfolding print depth
  closed_front d l e [] h = tt
  closed_front d l e (word w ∷ l₁) h = tt
  closed_front d l e (AND ∷ l₁) h = tt
  closed_front d l e (OR ∷ l₁) h = tt
  closed_front d l e (NOT ∷ l₁) h = tt
  closed_front d l e (open' ∷ l₁) h = tt
  closed_front d l e (close' ∷ l₁) h =
      (ap (λ (x : List (Token N)). open' ∷ x) (h.0 ∙ sym (append_assoc (print e) (close' ∷ []) l₁)), omega arith)

  mutual
    unfolding read_chain print depth

    pub sound_chain : (k : ℕ) (b : Operator) (d : ℕ) (l : List (Token N)) → Every (Front print depth d l) (read_chain k b d l)
    sound_chain zero b d l = tt
    sound_chain (suc k) b d l =
        every_then (Front printed deep d l) _ (read_operand k b d l) _ (sound_operand k b d l) λ x l₁ h.
        rw h.0 (sound_more k b d (only x) l₁ h.1)

    sound_more : (k : ℕ) (b : Operator) (d : ℕ) (c : Chain N b) (l : List (Token N)) → depth c ≤ d
        → Every (Front print depth d (print c ++ l)) (read_more k b d c l)
    sound_more zero b d c l h = tt
    sound_more (suc k) b d c l h =
        onward_front d c _ l h λ l₁.
        every_then (Front printed deep d l₁) _ (read_operand k b d l₁) _ (sound_operand k b d l₁) λ x l₂ g.
        rw (g.0, sym (append_assoc (print c) (mark b ∷ printed x) l₂)) (sound_more k b d (join c x) l₂ (omega arith))

    pub sound_operand : (k : ℕ) (b : Operator) (d : ℕ) (l : List (Token N)) → Every (Front printed deep d l) (read_operand k b d l)
    sound_operand zero b d l = tt
    sound_operand (suc k) or d l = every_then (Front print depth d l) _ (read_chain k and d l) _ (sound_chain k and d l) λ c l₁ h. h
    sound_operand (suc k) and d [] = tt
    sound_operand (suc k) and d (word w ∷ l) = (refl, omega arith)
    sound_operand (suc k) and d (AND ∷ l) = tt
    sound_operand (suc k) and d (OR ∷ l) = tt
    sound_operand (suc k) and d (NOT ∷ l) =
        every_then (Front printed deep d l) _ (read_operand k and d l) _ (sound_operand k and d l) λ x l₁ h.
        (ap (λ (s : List (Token N)). NOT ∷ s) h.0, h.1)
    sound_operand (suc k) and zero (open' ∷ l) = tt
    sound_operand (suc k) and (suc d) (open' ∷ l) =
        every_then (Front print depth d l) _ (read_chain k or d l) closed_bracket (sound_chain k or d l) (closed_front d l)
    sound_operand (suc k) and d (close' ∷ l) = tt
