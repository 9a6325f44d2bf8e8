-- The code of an expression runs from any stack to its meaning on top of it, within a bound on the stack.
use Prim.Native.Nat.{ℕ, zero, suc, ◌+◌, ◌*◌, ◌≤◌}
use native.Mathlib.Omega.{arith}
use mathlib.Core.Path.{◌≡◌, refl, sym, ap, ◌∙◌}
use mathlib.Core.Bool.{Bool, true}
use Rattle.std.specs.Prelude.{None, Some}
use mathlib.Core.List.{List, [], ◌∷◌, ◌++◌, append_assoc, append-nil}
use lib.ListN.{length, length-append}
use borrow.Author.Tests.{lt-ltb}
use Rattle.grammar.specs.Tree.{Operator, or, and, Chain, only, join, Operand, chain, name, negate, bracket, Expression, print, printed, depth, deep, mean, means, joins, code, coded, joiner}
use Rattle.code.specs.Code.{Op, invert, step_op}
use Rattle.code.specs.HeightsCode.{run_ops}

-- values that a chain may lay on the stack besides two for each depth
abbrev pub spare : Operator → ℕ
spare or = 3
spare and = 2

run_joiner : (room : ℕ) (v : ℕ → Bool) (b : Operator) (c : List Op) (x y : Bool) (st : List Bool)
    → run_ops room v (joiner b ∷ c) (y ∷ (x ∷ st)) ≡ run_ops room v c (joins b x y ∷ st)
unfolding run_ops step_op
run_joiner room v or c x y st = refl
run_joiner room v and c x y st = refl

-- where a name's number is `num`, and v has the states by their numbers
module _ {N : Type 0} (num : N → ℕ) (room : ℕ) (v : ℕ → Bool) where
  mutual
    unfolding code mean depth run_ops step_op

    pub run_chain : {b : Operator} (e : Chain N b) (c : List Op) (st : List Bool) → length st + 2 * depth e + spare b ≤ room
        → run_ops room v (code num e ++ c) st ≡ run_ops room v c (mean e (λ w. v (num w)) ∷ st)
    run_chain (only x) c st h = run_operand x c st (omega arith)
    run_chain {b} (join e x) c st h =
        let m = mean e (λ w. v (num w)) in
        simp append_assoc
        (run_chain e (coded num x ++ (joiner b ∷ c)) st (omega arith) ∙ run_operand x (joiner b ∷ c) (m ∷ st) (omega arith)
        ∙ run_joiner room v b c m (means x (λ w. v (num w))) st)

    run_operand : {b : Operator} (x : Operand N b) (c : List Op) (st : List Bool) → length st + 2 * deep x + spare b ≤ room + 1
        → run_ops room v (coded num x ++ c) st ≡ run_ops room v c (means x (λ w. v (num w)) ∷ st)
    run_operand (chain e) c st h = run_chain e c st (omega arith)
    run_operand (name w) c st h = rw (lt-ltb (length st) room (omega arith))
    run_operand (negate x) c st h = rw append_assoc (run_operand x (invert ∷ c) st h)
    run_operand (bracket e) c st h = run_chain e c st (omega arith)

  -- on any stack: the meaning comes to lie on top, and nothing below changes
  pub run_on : (e : Expression N) (st : List Bool) → length st + 2 * depth e + 3 ≤ room
      → run_ops room v (code num e) st ≡ Some (mean e (λ w. v (num w)) ∷ st)
  unfolding run_ops
  run_on e st h = ap (λ (c : List Op). run_ops room v c st) (sym (append-nil (code num e))) ∙ run_chain e [] st h

-- 19 values are enough where brackets stand at most 8 deep, and 24 all the more
pub nineteen : {N : Type 0} (num : N → ℕ) (e : Expression N) (v : ℕ → Bool) → depth e ≤ 8 → (room : ℕ) → 19 ≤ room
    → run_ops room v (code num e) [] ≡ Some (mean e (λ w. v (num w)) ∷ [])
nineteen num e v h room g = run_on num room v e [] (omega arith)

-- `a OR b AND (a OR b AND ( .. c))`, k brackets deep
pub steep : ℕ → Expression ℕ
steep zero = join (only (chain (only (name 0)))) (chain (join (only (name 1)) (name 2)))
steep (suc k) = join (only (chain (only (name 0)))) (chain (join (only (name 1)) (bracket (steep k))))

-- the bound is reached: 8 deep, in 53 tokens, takes 19 values and not 18
pub tight : (length (print (steep 8)) ≡ 53) × (depth (steep 8) ≡ 8) × (run_ops 18 (λ i. true) (code (λ i. i) (steep 8)) [] ≡ None)
    × (run_ops 19 (λ i. true) (code (λ i. i) (steep 8)) [] ≡ Some (true ∷ []))
unfolding steep print depth code run_ops step_op
tight = (refl, refl, refl, refl)

-- at most as many words as tokens, and at least one of each
module _ {N : Type 0} (num : N → ℕ) where
  mutual
    unfolding code print

    pub few_words : {b : Operator} (e : Chain N b) → (1 ≤ length (code num e)) × (length (code num e) ≤ length (print e))
    few_words (only x) = few_words_of x
    few_words (join e x) = simp length-append (omega (arith, few_words e), omega (arith, few_words e, few_words_of x))

    few_words_of : {b : Operator} (x : Operand N b) → (1 ≤ length (coded num x)) × (length (coded num x) ≤ length (printed x))
    few_words_of (chain e) = few_words e
    few_words_of (name w) = (omega arith, omega arith)
    few_words_of (negate x) = simp length-append (omega arith, omega (arith, few_words_of x))
    few_words_of (bracket e) = simp length-append (omega (arith, few_words e), omega (arith, few_words e))
