-- Paper 01, "Expressions": trees as they are written, brackets kept; what they print to, how deep they are, what they mean, and their code.
use Rattle.std.specs.Prelude.{ℕ, suc, max, Bool, not, ◌&&◌, ◌||◌, List, [], ◌∷◌, ◌++◌}
use Rattle.code.specs.Code.{Op, push, both, either, invert}
use Rattle.grammar.specs.Lex.{Token, word, AND, OR, NOT, open', close'}

-- the operators of two operands
pub data Operator : Type 0 where
  or and : Operator

-- "NOT binds tightest, then AND, then OR; equal operators group from the left." N stands for names.
mutual
  -- one operand, or what stands to the left of the last operator and the operand to its right
  pub data Chain (N : Type 0) : Operator → Type 0 where
    only : {b : Operator} → Operand N b → Chain N b
    join : {b : Operator} → Chain N b → Operand N b → Chain N b

  pub data Operand (N : Type 0) : Operator → Type 0 where
    chain : Chain N and → Operand N or
    name : N → Operand N and
    negate : Operand N and → Operand N and
    bracket : Chain N or → Operand N and

abbrev pub Expression : Type 0 → Type 0
Expression N = Chain N or

-- the grammar: an expression is what some tree prints to
abbrev pub mark : {N : Type 0} → Operator → Token N
mark b = elim b [ or ↦ OR | and ↦ AND ]

unfoldable mutual
  pub print : {N : Type 0} {b : Operator} → Chain N b → List (Token N)
  print (only x) = printed x
  print {b = b} (join c x) = print c ++ (mark b ∷ printed x)

  pub printed : {N : Type 0} {b : Operator} → Operand N b → List (Token N)
  printed (chain c) = print c
  printed (name w) = word w ∷ []
  printed (negate x) = NOT ∷ printed x
  printed (bracket e) = open' ∷ (print e ++ (close' ∷ []))

-- how deep brackets stand in one another
unfoldable mutual
  pub depth : {N : Type 0} {b : Operator} → Chain N b → ℕ
  depth (only x) = deep x
  depth (join c x) = max (depth c) (deep x)

  pub deep : {N : Type 0} {b : Operator} → Operand N b → ℕ
  deep (chain c) = depth c
  deep (name w) = 0
  deep (negate x) = deep x
  deep (bracket e) = suc (depth e)

-- what a tree says where v has the triggers' states
abbrev pub joins : Operator → Bool → Bool → Bool
joins b = elim b [ or ↦ ◌||◌ | and ↦ ◌&&◌ ]

unfoldable mutual
  pub mean : {N : Type 0} {b : Operator} → Chain N b → (N → Bool) → Bool
  mean (only x) v = means x v
  mean {b = b} (join c x) v = joins b (mean c v) (means x v)

  pub means : {N : Type 0} {b : Operator} → Operand N b → (N → Bool) → Bool
  means (chain c) v = mean c v
  means (name w) v = v w
  means (negate x) v = not (means x v)
  means (bracket e) v = mean e v

-- "Code is postfix, left operand first"; `num` has the names' numbers
abbrev pub joiner : Operator → Op
joiner b = elim b [ or ↦ either | and ↦ both ]

unfoldable mutual
  pub code : {N : Type 0} {b : Operator} → (N → ℕ) → Chain N b → List Op
  code num (only x) = coded num x
  code {b = b} num (join c x) = code num c ++ (coded num x ++ (joiner b ∷ []))

  pub coded : {N : Type 0} {b : Operator} → (N → ℕ) → Operand N b → List Op
  coded num (chain c) = code num c
  coded num (name w) = push (num w) ∷ []
  coded num (negate x) = coded num x ++ (invert ∷ [])
  coded num (bracket e) = code num e
