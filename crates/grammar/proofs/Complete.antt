-- Whatever a tree prints is read back as that tree, where what follows does not go on with it. So at most one tree prints to a list of
-- tokens.
use Prim.Native.Nat.{ℕ, zero, suc, ◌≤◌, max}
use native.Mathlib.Omega.{arith}
use mathlib.Core.Path.{◌≡◌, refl, sym, ap, ◌∙◌}
use mathlib.Core.Bool.{false}
use mathlib.Core.List.{List, [], ◌∷◌, ◌++◌, append_assoc, append-nil}
use Rattle.grammar.specs.Lex.{Token, close'}
use Rattle.grammar.specs.Tree.{Operator, or, and, Chain, only, join, Operand, chain, name, negate, bracket, Expression, mark, print, printed, depth, deep}
use Rattle.grammar.specs.GrammarCode.{got, then', is_mark, parse_chain, parse_more, parse_operand}
use Rattle.grammar.proofs.Sound.{Every, Front, sound_chain}
use Rattle.grammar.proofs.Fuel.{parse_chain_lem, parse_more_lem, parse_or, parse_and}

module _ {N : Type 0} where
  -- no operator of level b stands at the front
  abbrev Clear : Operator → List (Token N) → Type 0
  Clear b [] = Unit {0}
  Clear b (t ∷ l) = is_mark b t ≡ false

  -- nothing at the front goes on with an operand of level b
  abbrev Ends : Operator → List (Token N) → Type 0
  Ends or l = Clear and l
  Ends and l = Unit {0}

  stop : (b : Operator) (d : ℕ) (c : Chain N b) (l : List (Token N)) → Clear b l → parse_more b d c l ≡ got c l
  stop b d c [] h = parse_more_lem b d c []
  stop b d c (t ∷ l) h = rw (parse_more_lem, h)

  mark_on : (b : Operator) (d : ℕ) (c : Chain N b) (l : List (Token N))
      → parse_more b d c (mark b ∷ l) ≡ then' (parse_operand b d l) (λ x l₁. parse_more b d (join c x) l₁)
  mark_on or d c l = parse_more_lem or d c (mark or ∷ l)
  mark_on and d c l = parse_more_lem and d c (mark and ∷ l)

  mark_ends : (b : Operator) (l : List (Token N)) → Ends b (mark b ∷ l)
  mark_ends or l = refl
  mark_ends and l = tt

  mutual
    unfolding print depth

    complete_chain : {b : Operator} (d : ℕ) (c : Chain N b) (l : List (Token N)) → depth c ≤ d → Ends b l
        → parse_chain b d (print c ++ l) ≡ parse_more b d c l
    complete_chain {b} d (only x) l h n = rw (parse_chain_lem, complete_operand d x l h n)
    complete_chain {b} d (join c x) l h n =
        rw append_assoc
        (complete_chain d c (mark b ∷ (printed x ++ l)) (omega arith) (mark_ends b (printed x ++ l)) ∙ mark_on b d c (printed x ++ l)
        ∙ rw (complete_operand d x l (omega arith) n))

    complete_operand : {b : Operator} (d : ℕ) (x : Operand N b) (l : List (Token N)) → deep x ≤ d → Ends b l
        → parse_operand b d (printed x ++ l) ≡ got x l
    complete_operand d (chain c) l h n = rw (parse_or, complete_chain d c l h tt, stop and d c l n)
    complete_operand d (name w) l h n = parse_and d _
    complete_operand d (negate x) l h n = rw (parse_and, complete_operand d x l h tt)
    complete_operand zero (bracket e) l h n = absurd (omega arith)
    complete_operand (suc d) (bracket e) l h n =
        rw (parse_and, append_assoc, complete_chain d e (close' ∷ l) (omega arith) refl, stop or d e (close' ∷ l) refl)

  -- an expression is read whole
  pub complete : (d : ℕ) (e : Expression N) → depth e ≤ d → parse_chain or d (print e) ≡ got e []
  complete d e h = ap (parse_chain or d) (sym (append-nil (print e))) ∙ complete_chain d e [] h tt ∙ stop or d e [] tt

  -- at most one tree prints to a list of tokens
  pub unambiguous : (e f : Expression N) → print e ≡ print f → e ≡ f
  unambiguous e f p =
      let d = max (depth e) (depth f) in
      let q : parse_chain or d (print e) ≡ got e [] = complete d e (omega arith) in
      let r : parse_chain or d (print f) ≡ got f [] = complete d f (omega arith) in
      cc

  -- what is read is what a tree prints
  pub sound : (d : ℕ) (l : List (Token N)) → Every (Front print depth d l) (parse_chain or d l)
  unfolding parse_chain
  sound d l = sound_chain _ or d l
