-- The reader that the code follows, and what the contracts of the inner functions say. Nothing here need be believed: the theorem
-- `compiled_becomes` (proofs/Ruled.antt) ties `compiled` to the rules.
use Rattle.std.specs.Prelude.{ℕ, zero, suc, ◌+◌, ◌*◌, ◌≤◌, ◌≡◌, Bool, true, false, cond, List, [], ◌∷◌, map, length, drop, leb, ltb}
use Rattle.std.specs.Prelude.{Option as Maybe, Some, None, Result, Ok, Err}
use Rattle.std.specs.List.{fold, list_all}
use Rattle.std.proofs.Math.Option.{Option, none, some}
use Rattle.code.specs.Code.{Op, word_of}
use Rattle.grammar.specs.Lex.{Token, word, AND, OR, NOT, open', close'}
use Rattle.grammar.specs.TokensCode.{numbered_token, laid, words_in, pushed, numbers}
use Rattle.grammar.specs.Tree.{Operator, or, and, Chain, only, join, Operand, chain, name, negate, bracket, Expression, code}
use Rattle.grammar.specs.declared.Unfit.{Unfit}
use Rattle.grammar.specs.declared.Unfit.TheVariants.{Broken, Unknown}
use Rattle.grammar.specs.declared.Words.{Words}

-- what a reader answers: what it read and the tokens behind it, or that nothing it reads stands there
pub data Res (N A : Type 0) : Type 0 where
  got : A → List (Token N) → Res N A
  fault : Res N A

abbrev pub then' : {N A B : Type 0} → Res N A → (A → List (Token N) → Res N B) → Res N B
then' (got a l) f = f a l
then' fault f = fault

abbrev pub is_mark : {N : Type 0} → Operator → Token N → Bool
is_mark or (word w) = false
is_mark or AND = false
is_mark or OR = true
is_mark or NOT = false
is_mark or open' = false
is_mark or close' = false
is_mark and (word w) = false
is_mark and AND = true
is_mark and OR = false
is_mark and NOT = false
is_mark and open' = false
is_mark and close' = false

-- the chain c as far as it goes on in l: f reads on behind an operator
abbrev pub joined_on : {N : Type 0} {b : Operator} → Chain N b → (List (Token N) → Res N (Chain N b)) → List (Token N) → Res N (Chain N b)
joined_on c f [] = got c []
joined_on {b = b} c f (t ∷ l) = cond (is_mark b t) (f l) (got c (t ∷ l))

-- a closing bracket stands at the front
abbrev pub closed_bracket : {N : Type 0} → Expression N → List (Token N) → Res N (Operand N and)
closed_bracket e [] = fault
closed_bracket e (word w ∷ l) = fault
closed_bracket e (AND ∷ l) = fault
closed_bracket e (OR ∷ l) = fault
closed_bracket e (NOT ∷ l) = fault
closed_bracket e (open' ∷ l) = fault
closed_bracket e (close' ∷ l) = got (bracket e) l

-- An expression in brackets, behind the opening one, and an operand of AND: f reads an operand, g an expression, where so many brackets may
-- still be opened in one another.
abbrev pub bracket_at : {N : Type 0} → (ℕ → List (Token N) → Res N (Expression N)) → ℕ → List (Token N) → Res N (Operand N and)
bracket_at g zero l = fault
bracket_at g (suc d) l = then' (g d l) closed_bracket

abbrev pub operand_at : {N : Type 0} → (ℕ → List (Token N) → Res N (Operand N and)) → (ℕ → List (Token N) → Res N (Expression N)) → ℕ
    → List (Token N) → Res N (Operand N and)
operand_at f g d [] = fault
operand_at f g d (word w ∷ l) = got (name w) l
operand_at f g d (AND ∷ l) = fault
operand_at f g d (OR ∷ l) = fault
operand_at f g d (NOT ∷ l) = then' (f d l) (λ x l₁. got (negate x) l₁)
operand_at f g d (open' ∷ l) = bracket_at g d l
operand_at f g d (close' ∷ l) = fault

-- Reading from the front of a list of tokens. `k` is fuel, since each reader calls others: with 4 for each token and 4 more it makes no
-- difference (proofs/Fuel.antt).
unfoldable mutual
  pub read_chain : {N : Type 0} → ℕ → (b : Operator) → ℕ → List (Token N) → Res N (Chain N b)
  read_chain zero b d l = fault
  read_chain (suc k) b d l = then' (read_operand k b d l) (λ x l₁. read_more k b d (only x) l₁)

  pub read_more : {N : Type 0} → ℕ → (b : Operator) → ℕ → Chain N b → List (Token N) → Res N (Chain N b)
  read_more zero b d c l = fault
  read_more (suc k) b d c l = joined_on c (λ l₁. then' (read_operand k b d l₁) (λ x l₂. read_more k b d (join c x) l₂)) l

  pub read_operand : {N : Type 0} → ℕ → (b : Operator) → ℕ → List (Token N) → Res N (Operand N b)
  read_operand zero b d l = fault
  read_operand (suc k) or d l = then' (read_chain k and d l) (λ c l₁. got (chain c) l₁)
  read_operand (suc k) and d l = operand_at (λ d₁ l₁. read_operand k and d₁ l₁) (λ d₁ l₁. read_chain k or d₁ l₁) d l

-- the fuel that is enough, besides four for each token
abbrev pub top : Operator → ℕ
top or = 3
top and = 1

unfoldable pub parse_chain : {N : Type 0} → (b : Operator) → ℕ → List (Token N) → Res N (Chain N b)
parse_chain b d l = read_chain (4 * length l + top b + 1) b d l

unfoldable pub parse_more : {N : Type 0} → (b : Operator) → ℕ → Chain N b → List (Token N) → Res N (Chain N b)
parse_more b d c l = read_more (4 * length l + 1) b d c l

unfoldable pub parse_operand : {N : Type 0} → (b : Operator) → ℕ → List (Token N) → Res N (Operand N b)
parse_operand b d l = read_operand (4 * length l + top b) b d l

-- an expression to the last token
abbrev pub whole : {N : Type 0} → Res N (Expression N) → Option (Expression N)
whole (got e []) = some e
whole (got e (t ∷ l)) = none
whole fault = none

-- no token's number is 37
abbrev pub all_named : List ℕ → Bool
all_named ts = list_all (λ n. ltb n 37) ts

-- the paper's number for each refusal
abbrev pub unfit_number : Unfit → ℕ
unfit_number x = elim x [ Broken ↦ 11 | Unknown ↦ 12 ]

-- the paper's number for each case of the answer
abbrev pub verdict_refusal : Result Words Unfit → Option ℕ
verdict_refusal (Ok w) = none
verdict_refusal (Err x) = some (unfit_number x)

-- the words that an answer gives
abbrev pub code_in : Result Words Unfit → List ℕ
code_in (Ok w) = words_in w
code_in (Err x) = []

abbrev pub judged_code : Bool → Option (Expression ℕ) → Result Words Unfit
judged_code b none = Err Broken
judged_code true (some e) = Ok (laid (map word_of (code (λ i. i) e)))
judged_code false (some e) = Err Unknown

-- what becomes of tokens by their numbers, of which there are at most 64
unfoldable pub compiled_from : List ℕ → Result Words Unfit
compiled_from ts = judged_code (all_named ts) (whole (parse_chain or 8 (map numbered_token ts)))

abbrev pub if_any : Option (List ℕ) → Result Words Unfit
if_any none = Err Broken
if_any (some ts) = cond (leb (length ts) 64) (compiled_from ts) (Err Broken)

-- what `compile` answers
unfoldable pub compiled : List (List ℕ) → List ℕ → Result Words Unfit
compiled names text = if_any (numbers names text)

-- From the token at `at` a reader came to i: it pushed the words of the code c, at most one for each token.
pub record WroteCode (ts : List ℕ) (at : ℕ) (o o' : Words) (c : List Op) (i : ℕ) : Type 0 where
  pub within : i ≤ length ts
  pub spare : length c + at ≤ i
  pub pushes : o' ≡ fold pushed o (map word_of c)

-- The code's answer agrees with p, what the reader of lists answers.
pub data Agrees {A : Type 0} (code_of : A → List Op) (ts : List ℕ) (at : ℕ) (o o' : Words) (p : Res ℕ A) : Maybe ℕ → Type 0 where
  read : (a : A) (i : ℕ) → p ≡ got a (map numbered_token (drop i ts)) → WroteCode ts at o o' (code_of a) i
      → Agrees code_of ts at o o' p (Some i)
  failed : p ≡ fault → Agrees code_of ts at o o' p None
