-- Laws of what a reader of the code answers (`Agrees`), one for each way that it returns; the laws of chains hold at both levels.
use Prim.Native.Nat.{ℕ, zero, suc, ◌+◌, ◌-◌, ◌≤◌, ◌<◌}
use native.Mathlib.Omega.{arith}
use mathlib.Core.Path.{◌≡◌, refl, sym, ap, subst, ◌∙◌}
use mathlib.Core.Bool.{true, false}
use mathlib.Core.List.{List, [], ◌∷◌, ◌++◌, map, map-append, append_assoc, append-nil}
use lib.ListN.{length, drop, get_or, length-append, drop_of_length-le}
use lib.Dec.{eqb}
use borrow.Author.Tests.{eqb-true, ne_eqb}
use Rattle.lists.proofs.Cases.{by_cases, le_or_lt}
use Rattle.std.specs.List.{fold}
use Rattle.std.proofs.lemmas.List.Sums.{fold-append}
use Rattle.text.proofs.Spans.{drop_one}
use Rattle.code.specs.Code.{Op, push, invert, word_of}
use Rattle.grammar.specs.Lex.{Token, word, AND, OR, NOT, open', close'}
use Rattle.grammar.specs.Tree.{Operator, or, and, Chain, only, join, chain, name, negate, bracket, Expression, mark, code, coded, joiner}
use Rattle.grammar.specs.TokensCode.{numbered_token, pushed}
use Rattle.grammar.specs.GrammarCode.{Res, got, fault, then', is_mark, closed_bracket, bracket_at, operand_at, parse_chain, parse_more, parse_operand, WroteCode, Agrees, read, failed}
use Rattle.std.specs.Prelude.{Option, Some, None}
use Rattle.grammar.specs.declared.Words.{Words}
use Rattle.grammar.proofs.Sound.{mark_is}
use Rattle.grammar.proofs.Fuel.{parse_chain_lem, parse_more_lem, parse_or, parse_and}

-- the number that a token is of
abbrev pub back : Token ℕ → ℕ
back (word i) = i
back AND = 32
back OR = 33
back NOT = 34
back open' = 35
back close' = 36

pub back_token : (t : ℕ) → back (numbered_token t) ≡ t
unfolding numbered_token
back_token t =
    by_cases (eqb t 32) (λ e. rw e (sym (eqb-true t 32 e))) λ n₀.
    by_cases (eqb t 33) (λ e. rw (n₀, e) (sym (eqb-true t 33 e))) λ n₁.
    by_cases (eqb t 34) (λ e. rw (n₀, n₁, e) (sym (eqb-true t 34 e))) λ n₂.
    by_cases (eqb t 35) (λ e. rw (n₀, n₁, n₂, e) (sym (eqb-true t 35 e))) λ n₃.
    by_cases (eqb t 36) (λ e. rw (n₀, n₁, n₂, n₃, e) (sym (eqb-true t 36 e))) λ n₄. rw (n₀, n₁, n₂, n₃, n₄)

pub token_word : (t : ℕ) → (t ≡ 32 → ⊥) → (t ≡ 33 → ⊥) → (t ≡ 34 → ⊥) → (t ≡ 35 → ⊥) → (t ≡ 36 → ⊥) → numbered_token t ≡ word t
unfolding numbered_token
token_word t a b c d e = rw (ne_eqb t 32 a, ne_eqb t 33 b, ne_eqb t 34 c, ne_eqb t 35 d, ne_eqb t 36 e)

-- the tokens from a place on
module _ (ts : List ℕ) (at : ℕ) where
  pub tokens_at : at < length ts → map numbered_token (drop at ts) ≡ numbered_token (get_or ts at 0) ∷ map numbered_token (drop (at + 1) ts)
  tokens_at h = rw (drop_one ts at h)

  pub tokens_end : length ts ≤ at → map numbered_token (drop at ts) ≡ []
  tokens_end h = rw (drop_of_length-le ts h)

-- the token of that number stands at a place
abbrev pub Stands : List ℕ → ℕ → ℕ → Type 0
Stands ts i t = (i < length ts) × (get_or ts i 0 ≡ t)

-- the token of an operator of two operands has the number of its word
mark_number : (b : Operator) (t : ℕ) → t ≡ word_of (joiner b) → numbered_token t ≡ mark b
unfolding numbered_token word_of
mark_number or t e = ap numbered_token e
mark_number and t e = ap numbered_token e

no_mark : (b : Operator) (t : ℕ) → (t ≡ word_of (joiner b) → ⊥) → is_mark b (numbered_token t) ≡ false
unfolding word_of
no_mark or t h =
    by_cases (is_mark or (numbered_token t)) (λ e. absurd (h (sym (back_token t) ∙ ap back (mark_is or (numbered_token t) e)))) (λ e. e)
no_mark and t h =
    by_cases (is_mark and (numbered_token t)) (λ e. absurd (h (sym (back_token t) ∙ ap back (mark_is and (numbered_token t) e)))) (λ e. e)

mark_true : (b : Operator) → is_mark {N = ℕ} b (mark b) ≡ true
mark_true or = refl
mark_true and = refl

-- where a chain goes on, and where it ends
module _ (b : Operator) (d : ℕ) (c : Chain ℕ b) (ts : List ℕ) (i : ℕ) where
  goes_on : Stands ts i (word_of (joiner b))
      → parse_more b d c (map numbered_token (drop i ts))
      ≡ then' (parse_operand b d (map numbered_token (drop (i + 1) ts))) (λ x l. parse_more b d (join c x) l)
  goes_on h = rw (parse_more_lem, tokens_at ts i h.0, mark_number b (get_or ts i 0) h.1, mark_true b)

  ends_at : (Stands ts i (word_of (joiner b)) → ⊥)
      → parse_more b d c (map numbered_token (drop i ts)) ≡ got c (map numbered_token (drop i ts))
  ends_at h =
      le_or_lt (length ts) i (λ g. rw (parse_more_lem, tokens_end ts i g))
      (λ g. rw (parse_more_lem, tokens_at ts i g, no_mark b (get_or ts i 0) (λ e. h (g, e))))

-- what was written, step by step
written_none : {ts : List ℕ} {at : ℕ} {o : Words} → at ≤ length ts → WroteCode ts at o o [] at
written_none h = record { within = h; spare = omega arith; pushes = refl }

pushed_behind : (o : Words) (c c₁ : List Op)
    → fold pushed o (map word_of (c ++ c₁)) ≡ fold pushed (fold pushed o (map word_of c)) (map word_of c₁)
pushed_behind o c c₁ = rw (map-append word_of c c₁) (fold-append pushed o (map word_of c) (map word_of c₁))

module _ {ts : List ℕ} {at : ℕ} {o o₁ : Words} {c : List Op} {i : ℕ} where
  written_then : {c₁ : List Op} {j : ℕ} {o₂ : Words} → WroteCode ts at o o₁ c i → WroteCode ts i o₁ o₂ c₁ j
      → WroteCode ts at o o₂ (c ++ c₁) j
  written_then {c₁ = c₁} w v = record {
    within = v.within;
    spare = omega (arith, w.spare, v.spare, length-append c c₁);
    pushes = v.pushes ∙ ap (λ (u : Words). fold pushed u (map word_of c₁)) w.pushes ∙ sym (pushed_behind o c c₁);
  }

  -- an operator's word behind what was read behind its token, or a bracket's expression behind the bracket
  written_op : (w : Op) → WroteCode ts (at + 1) o o₁ c i → {o₂ : Words} → o₂ ≡ pushed o₁ (word_of w)
      → WroteCode ts at o o₂ (c ++ (w ∷ [])) i
  written_op x w e = record {
    within = w.within;
    spare = omega (arith, w.spare, length-append c (x ∷ []));
    pushes = e ∙ ap (λ (u : Words). pushed u (word_of x)) w.pushes ∙ sym (pushed_behind o c (x ∷ []));
  }

  written_open : WroteCode ts (at + 1) o o₁ c i → WroteCode ts at o o₁ c i
  written_open w = record { within = w.within; spare = omega (arith, w.spare); pushes = w.pushes }

  written_close : WroteCode ts at o o₁ c i → i < length ts → WroteCode ts at o o₁ c (i + 1)
  written_close w h = record { within = omega arith; spare = omega (arith, w.spare); pushes = w.pushes }

-- what an answer says
pub record Took {A : Type 0} (code_of : A → List Op) (ts : List ℕ) (at : ℕ) (o o' : Words) (p : Res ℕ A) (i : ℕ) : Type 0 where
  pub tree : A
  pub same : p ≡ got tree (map numbered_token (drop i ts))
  pub written : WroteCode ts at o o' (code_of tree) i

module _ {A : Type 0} {code_of : A → List Op} {ts : List ℕ} {at : ℕ} {o o' : Words} {p : Res ℕ A} where
  took_at : {i : ℕ} → Agrees code_of ts at o o' p (Some i) → Took code_of ts at o o' p i
  took_at (read a i e w) = record { tree = a; same = e; written = w }

  pub took : {r : Option ℕ} {i : ℕ} → Agrees code_of ts at o o' p r → r ≡ Some i → Took code_of ts at o o' p i
  took h e = took_at (subst (Agrees code_of ts at o o' p) e h)

  -- a reader does not go back
  pub onward : {r : Option ℕ} {i : ℕ} → Agrees code_of ts at o o' p r → r ≡ Some i → (at ≤ i) × (i ≤ length ts)
  onward h e = let w = (took h e).written in (omega (arith, w.spare), w.within)

  fault_at_lem : Agrees code_of ts at o o' p None → p ≡ fault
  fault_at_lem (failed e) = e

  pub faulty : {r : Option ℕ} → Agrees code_of ts at o o' p r → r ≡ None → p ≡ fault
  faulty h e = fault_at_lem (subst (Agrees code_of ts at o o' p) e h)

then_got : {A B : Type 0} {p : Res ℕ A} {a : A} {l : List (Token ℕ)} (f : A → List (Token ℕ) → Res ℕ B) → p ≡ got a l → then' p f ≡ f a l
then_got f e = ap (λ r. then' r f) e

then_fault : {A B : Type 0} {p : Res ℕ A} (f : A → List (Token ℕ) → Res ℕ B) → p ≡ fault → then' p f ≡ fault
then_fault f e = ap (λ r. then' r f) e

-- an operand of OR is a chain of AND
pub as_operand : (d : ℕ) (l : List (Token ℕ)) {ts : List ℕ} {at : ℕ} {o o' : Words} {r : Option ℕ}
    → Agrees (code (λ i. i)) ts at o o' (parse_chain and d l) r
    → Agrees (coded (λ i. i)) ts at o o' (parse_operand or d l) r
unfolding code
as_operand d l (read a x e w) = read (chain a) x (parse_or d l ∙ rw e) w
as_operand d l (failed e) = failed (parse_or d l ∙ rw e)

-- A loop over the operands of a chain, from where it began: whatever chain x₀ was read before, reading on from there is reading on from
-- here with x, whose code has the words that were added.
pub record More (b : Operator) (d : ℕ) (ts : List ℕ) (i₀ : ℕ) (o₀ : Words) (i : ℕ) (o : Words) : Type 0 where
  pub added : List Op
  pub written : WroteCode ts i₀ o₀ o added i
  pub reads : (x₀ : Chain ℕ b)
      → (x : Chain ℕ b) × (parse_more b d x₀ (map numbered_token (drop i₀ ts)) ≡ parse_more b d x (map numbered_token (drop i ts)))
      × (code (λ i. i) x ≡ code (λ i. i) x₀ ++ added)

pub more_none : {b : Operator} {d : ℕ} {ts : List ℕ} {i : ℕ} {o : Words} → i ≤ length ts → More b d ts i o i o
more_none h = record { added = []; written = written_none h; reads = λ x. (x, refl, sym (append-nil (code (λ i. i) x))) }

module _ {b : Operator} {d : ℕ} {ts : List ℕ} {i₀ i : ℕ} {o₀ o : Words} (more : More b d ts i₀ o₀ i o) where
  -- an operator and its right operand
  pub more_one : {o₁ o₂ : Words} {r : Option ℕ} {j : ℕ} → Stands ts i (word_of (joiner b))
      → Agrees (coded (λ i. i)) ts (i + 1) o o₁ (parse_operand b d (map numbered_token (drop (i + 1) ts))) r → r ≡ Some j
      → o₂ ≡ pushed o₁ (word_of (joiner b)) → More b d ts i₀ o₀ j o₂
  unfolding code
  more_one h a q g =
      let t = took a q in
      record {
        added = more.added ++ (coded (λ i. i) t.tree ++ (joiner b ∷ []));
        written = written_then more.written (written_op (joiner b) t.written g);
        reads = λ x₀.
            let x = more.reads x₀ in (
              join x.0 t.tree,
              x.1 ∙ goes_on b d x.0 ts i h
                  ∙ then_got (λ y l. parse_more b d (join x.0 y) l) t.same,
              rw x.2
                  (append_assoc (code (λ i. i) x₀) more.added (coded (λ i. i) t.tree ++ (joiner b ∷ []))),
            );
      }

  module _ {at : ℕ} {u : Words} {r₀ : Option ℕ}
      (first : Agrees (coded (λ i. i)) ts at u o₀ (parse_operand b d (map numbered_token (drop at ts))) r₀)
      (q : r₀ ≡ Some i₀) where
    -- the chain that has been read: the first operand and those that were added
    chain_so_far : (x : Chain ℕ b) × (parse_chain b d (map numbered_token (drop at ts)) ≡ parse_more b d x (map numbered_token (drop i ts)))
        × WroteCode ts at u o (code (λ i. i) x) i
    unfolding code
    chain_so_far =
        let t = took first q in
        let x = more.reads (only t.tree) in (
          x.0,
          parse_chain_lem b d (map numbered_token (drop at ts)) ∙ then_got (λ y l. parse_more b d (only y) l) t.same
              ∙ x.1,
          subst (λ (c : List Op). WroteCode ts at u o c i) (sym x.2) (written_then t.written more.written),
        )

    pub chain_ends : (Stands ts i (word_of (joiner b)) → ⊥)
        → Agrees (code (λ i. i)) ts at u o (parse_chain b d (map numbered_token (drop at ts))) (Some i)
    chain_ends h = let x = chain_so_far in read x.0 i (x.1 ∙ ends_at b d x.0 ts i h) x.2

    pub chain_breaks : {o₁ o₂ : Words} {r : Option ℕ} → Stands ts i (word_of (joiner b))
        → Agrees (coded (λ i. i)) ts (i + 1) o o₁ (parse_operand b d (map numbered_token (drop (i + 1) ts))) r → r ≡ None
        → Agrees (code (λ i. i)) ts at u o₂ (parse_chain b d (map numbered_token (drop at ts))) None
    chain_breaks h a z = let x = chain_so_far in failed (x.1 ∙ goes_on b d x.0 ts i h ∙ then_fault _ (faulty a z))

pub no_chain : (b : Operator) (d : ℕ) {ts : List ℕ} {at : ℕ} {o o₁ : Words} {r : Option ℕ}
    → Agrees (coded (λ i. i)) ts at o o₁ (parse_operand b d (map numbered_token (drop at ts))) r → r ≡ None
    → Agrees (code (λ i. i)) ts at o o₁ (parse_chain b d (map numbered_token (drop at ts))) None
no_chain b d {ts} {at} a e = failed (parse_chain_lem b d (map numbered_token (drop at ts)) ∙ then_fault _ (faulty a e))

-- an operand of AND, by its first token
operand_at_lem : (d : ℕ) (ts : List ℕ) (at : ℕ) {t : ℕ} → Stands ts at t → (x : Token ℕ) → numbered_token t ≡ x
    → parse_operand and d (map numbered_token (drop at ts))
    ≡ operand_at (parse_operand and) (parse_chain or) d (x ∷ map numbered_token (drop (at + 1) ts))
operand_at_lem d ts at h x e = rw (parse_and, tokens_at ts at h.0, h.1, e)

module _ (d : ℕ) {ts : List ℕ} {at : ℕ} {o : Words} where
  pub no_operand : {o' : Words} → length ts ≤ at
      → Agrees (coded (λ i. i)) ts at o o' (parse_operand and d (map numbered_token (drop at ts))) None
  no_operand h = failed (rw (parse_and, tokens_end ts at h))

  module _ {t : ℕ} (h : Stands ts at t) where
    pub and_first : {o' : Words} → t ≡ 32
        → Agrees (coded (λ i. i)) ts at o o' (parse_operand and d (map numbered_token (drop at ts))) None
    unfolding numbered_token
    and_first e = failed (operand_at_lem d ts at h AND (ap numbered_token e))

    pub or_first : {o' : Words} → t ≡ 33
        → Agrees (coded (λ i. i)) ts at o o' (parse_operand and d (map numbered_token (drop at ts))) None
    unfolding numbered_token
    or_first e = failed (operand_at_lem d ts at h OR (ap numbered_token e))

    pub close_first : {o' : Words} → t ≡ 36
        → Agrees (coded (λ i. i)) ts at o o' (parse_operand and d (map numbered_token (drop at ts))) None
    unfolding numbered_token
    close_first e = failed (operand_at_lem d ts at h close' (ap numbered_token e))

    pub a_word : {o' : Words} → o' ≡ pushed o t → (t ≡ 32 → ⊥) → (t ≡ 33 → ⊥) → (t ≡ 34 → ⊥) → (t ≡ 35 → ⊥) → (t ≡ 36 → ⊥)
        → Agrees (coded (λ i. i)) ts at o o' (parse_operand and d (map numbered_token (drop at ts))) (Some (at + 1))
    unfolding code word_of
    a_word g n₀ n₁ n₂ n₃ n₄ =
        let h₀ : at < length ts = h.0 in
        read (name t) (at + 1) (operand_at_lem d ts at h (word t) (token_word t n₀ n₁ n₂ n₃ n₄))
        (written_op (push t) (written_none {ts = ts} {at = at + 1} {o = o} (omega arith)) g)

    module _ {o₁ : Words} {r : Option ℕ} where
      pub not_operand : {o' : Words} {j : ℕ} → t ≡ 34
          → Agrees (coded (λ i. i)) ts (at + 1) o o₁ (parse_operand and d (map numbered_token (drop (at + 1) ts))) r → r ≡ Some j
          → o' ≡ pushed o₁ 34
          → Agrees (coded (λ i. i)) ts at o o' (parse_operand and d (map numbered_token (drop at ts))) (Some j)
      unfolding numbered_token code word_of
      not_operand {j = j} e a q g =
          let s = took a q in
          read (negate s.tree) j (operand_at_lem d ts at h NOT (ap numbered_token e) ∙ then_got (λ y l. got (negate y) l) s.same)
          (written_op invert s.written g)

      pub not_nothing : {o₂ : Words} → t ≡ 34
          → Agrees (coded (λ i. i)) ts (at + 1) o o₁ (parse_operand and d (map numbered_token (drop (at + 1) ts))) r → r ≡ None
          → Agrees (coded (λ i. i)) ts at o o₂ (parse_operand and d (map numbered_token (drop at ts))) None
      unfolding numbered_token
      not_nothing e a z = failed (operand_at_lem d ts at h NOT (ap numbered_token e) ∙ then_fault _ (faulty a z))

    -- from behind the opening bracket to that bracket
    pub in_brackets : {o₁ : Words} {r : Option ℕ} → t ≡ 35
        → Agrees (coded (λ i. i)) ts (at + 1) o o₁ (bracket_at (parse_chain or) d (map numbered_token (drop (at + 1) ts))) r
        → Agrees (coded (λ i. i)) ts at o o₁ (parse_operand and d (map numbered_token (drop at ts))) r
    unfolding numbered_token
    in_brackets e (read a x p w) = read a x (operand_at_lem d ts at h open' (ap numbered_token e) ∙ p) (written_open w)
    in_brackets e (failed p) = failed (operand_at_lem d ts at h open' (ap numbered_token e) ∙ p)

no_close : (e : Expression ℕ) (x : Token ℕ) (l : List (Token ℕ)) → (x ≡ close' → ⊥) → closed_bracket e (x ∷ l) ≡ fault
no_close e (word i) l h = refl
no_close e AND l h = refl
no_close e OR l h = refl
no_close e NOT l h = refl
no_close e open' l h = refl
no_close e close' l h = absurd (h refl)

bracket_eq : (d k : ℕ) (l : List (Token ℕ)) → (1 ≤ d) × (k ≡ d - 1)
    → bracket_at (parse_chain or) d l ≡ then' (parse_chain or k l) closed_bracket
bracket_eq zero k l z = absurd (omega (arith, z.0))
bracket_eq (suc j) k l z = let q : j ≡ k = omega (arith, z.1) in ap (λ i. then' (parse_chain or i l) closed_bracket) q

-- an expression in brackets, from behind the opening one
module _ (d : ℕ) {ts : List ℕ} {at : ℕ} {o o₁ : Words} where
  pub too_deep : d ≡ 0 → (l : List (Token ℕ)) → Agrees (coded (λ i. i)) ts at o o₁ (bracket_at (parse_chain or) d l) None
  too_deep e l = rw e (failed refl)

  module _ {r : Option ℕ} {k : ℕ} (z : (1 ≤ d) × (k ≡ d - 1))
      (a : Agrees (code (λ i. i)) ts at o o₁ (parse_chain or k (map numbered_token (drop at ts))) r) where
    pub nothing_inside : {o₂ : Words} → r ≡ None
        → Agrees (coded (λ i. i)) ts at o o₂ (bracket_at (parse_chain or) d (map numbered_token (drop at ts))) None
    nothing_inside e = failed (bracket_eq d k (map numbered_token (drop at ts)) z ∙ then_fault closed_bracket (faulty a e))

    module _ {j : ℕ} (e : r ≡ Some j) where
      pub closes : Stands ts j 36
          → Agrees (coded (λ i. i)) ts at o o₁ (bracket_at (parse_chain or) d (map numbered_token (drop at ts)))
          (Some (j + 1))
      unfolding numbered_token code
      closes h =
          let t = took a e in
          read (bracket t.tree) (j + 1)
          (bracket_eq d k (map numbered_token (drop at ts)) z ∙ then_got closed_bracket t.same
          ∙ ap (closed_bracket t.tree) (tokens_at ts j h.0)
          ∙ ap (λ y. closed_bracket t.tree (y ∷ map numbered_token (drop (j + 1) ts))) (ap numbered_token h.1))
          (written_close t.written h.0)

      pub not_closed : (Stands ts j 36 → ⊥)
          → Agrees (coded (λ i. i)) ts at o o₁ (bracket_at (parse_chain or) d (map numbered_token (drop at ts))) None
      not_closed h =
          let t = took a e in
          failed
          (bracket_eq d k (map numbered_token (drop at ts)) z ∙ then_got closed_bracket t.same
          ∙ le_or_lt (length ts) j (λ g. ap (closed_bracket t.tree) (tokens_end ts j g))
          (λ g. ap (closed_bracket t.tree) (tokens_at ts j g)
          ∙ (no_close t.tree (numbered_token (get_or ts j 0)) (map numbered_token (drop (j + 1) ts))
          (λ y. h (g, sym (back_token _) ∙ ap back y)))))
