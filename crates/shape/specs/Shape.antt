-- Paper 01, "Shape of the file": the grammar, and the tree that a file spells.
-- A rule `X s r` says: the text s is an X with the text r behind it. What is read stands before them, as the name n in `Name n s r`.
use Rattle.std.specs.Prelude.{ℕ, zero, suc, ◌+◌, ◌-◌, ◌≤◌, ◌<◌, ◌≡◌, List, [], ◌∷◌, ◌++◌, Bool, true, false, length, take, Result, Ok, Err}
use Rattle.std.proofs.Math.Option.{Option, some}
use Rattle.shape.specs.declared.Unshaped.{Unshaped}
use Rattle.shape.specs.declared.Unshaped.TheVariants.{TooLong, Broken}
use Rattle.text.specs.Texts.{◌▹◌}
use Rattle.text.specs.Kinds.{among, is_blank, is_start, is_name, is_decl, is_value, is_any, is_text}

-- an attribute as it is spelled
pub record Attribute : Type 0 where
  pub name : List ℕ
  pub value : List ℕ

mutual
  -- an element: the offset of its `<`, its name, its attributes and what stands in it, in order
  pub data Node : Type 0 where
    node : ℕ → List ℕ → List Attribute → Items → Node

  pub data Items : Type 0 where
    none : Items
    text : ℕ → Items → Items
    remark : Items → Items
    child : Node → Items → Items

-- any number of bytes of a kind, and which
pub data Run (p : ℕ → Bool) : List ℕ → List ℕ → List ℕ → Type 0 where
  none : {s : List ℕ} → Run p [] s s
  more : {b : ℕ} {w s r : List ℕ} → p b ≡ true → Run p w s r → Run p (b ∷ w) (b ∷ s) r

-- "Names: a letter or `_`, then letters, digits, `_`."
pub data Name : List ℕ → List ℕ → List ℕ → Type 0 where
  name : {b : ℕ} {n s r : List ℕ} → is_start b ≡ true → Run is_name n s r → Name (b ∷ n) (b ∷ s) r

-- "Attributes: at least one blank before each, `=` with blanks allowed around it, a value in double quotes"
pub data Spelled : Attribute → List ℕ → List ℕ → Type 0 where
  attribute :
      {b : ℕ} {n v w₁ w₂ w₃ s₁ s₂ s₃ s₄ s₅ r : List ℕ}
      → is_blank b ≡ true
      → Run is_blank w₁ s₁ s₂
      → Name n s₂ s₃
      → Run is_blank w₂ s₃ ("=" ▹ s₄)
      → Run is_blank w₃ s₄ ("\"" ▹ s₅)
      → Run is_value v s₅ ("\"" ▹ r)
      → Spelled (record { name = n; value = v }) (b ∷ s₁) r

pub data Attributes : List Attribute → List ℕ → List ℕ → Type 0 where
  none : {s : List ℕ} → Attributes [] s s
  more :
      {a : Attribute} {l : List Attribute} {s t r : List ℕ}
      → Spelled a s t
      → Attributes l t r
      → Attributes (a ∷ l) s r

-- "bytes with no `--` and no last `-`"
pub data Remark : List ℕ → List ℕ → Type 0 where
  none : {s : List ℕ} → Remark s s
  more :
      {b : ℕ} {s r : List ℕ}
      → is_any b ≡ true
      → among "-" b ≡ false
      → Remark s r
      → Remark (b ∷ s) r
  dash :
      {b : ℕ} {s r : List ℕ}
      → is_any b ≡ true
      → among "-" b ≡ false
      → Remark s r
      → Remark ("-" ▹ b ∷ s) r

-- "Comments: `<!--`, bytes .., `-->`."
pub data Comment : List ℕ → List ℕ → Type 0 where
  comment : {s r : List ℕ} → Remark s ("-->" ▹ r) → Comment ("<!--" ▹ s) r

-- what stands in an element: text, comments, and children of the kind E
pub data Content (E : Node → List ℕ → List ℕ → Type 0) : Items → List ℕ → List ℕ → Type 0 where
  none : {s : List ℕ} → Content E Items.none s s
  text :
      {b : ℕ} {i : Items} {s r : List ℕ}
      → is_text b ≡ true
      → Content E i s r
      → Content E (Items.text b i) (b ∷ s) r
  remark :
      {i : Items} {s t r : List ℕ}
      → Comment s t
      → Content E i t r
      → Content E (Items.remark i) s r
  child :
      {x : Node} {i : Items} {s t r : List ℕ}
      → E x s t
      → Content E i t r
      → Content E (Items.child x i) s r

-- an element of a file of `size` bytes, with children of the kind E. "Blanks may stand before `>` or `/>`. End tags carry the open name."
pub data ElementOf (size : ℕ) (E : Node → List ℕ → List ℕ → Type 0) : Node → List ℕ → List ℕ → Type 0 where
  empty :
      {l : List Attribute} {n w s s₁ s₂ r : List ℕ}
      → Name n s s₁
      → Attributes l s₁ s₂
      → Run is_blank w s₂ ("/>" ▹ r)
      → ElementOf size E (node (size - length ("<" ▹ s)) n l Items.none) ("<" ▹ s) r
  full :
      {l : List Attribute} {i : Items} {n w v s s₁ s₂ s₃ s₄ r : List ℕ}
      → Name n s s₁
      → Attributes l s₁ s₂
      → Run is_blank w s₂ (">" ▹ s₃)
      → Content E i s₃ ("</" ▹ n ++ s₄)
      → Run is_blank v s₄ (">" ▹ r)
      → ElementOf size E (node (size - length ("<" ▹ s)) n l i) ("<" ▹ s) r

-- an element in which elements nest at most d deep, itself included
abbrev pub Element : ℕ → ℕ → Node → List ℕ → List ℕ → Type 0
Element size zero x s r = ⊥
Element size (suc d) x s r = ElementOf size (Element size d) x s r

-- "around it only blanks and comments"
pub data Misc : List ℕ → List ℕ → Type 0 where
  none : {s : List ℕ} → Misc s s
  blank : {b : ℕ} {s r : List ℕ} → is_blank b ≡ true → Misc s r → Misc (b ∷ s) r
  remark : {s t r : List ℕ} → Comment s t → Misc t r → Misc s r

-- "Optional `<?xml`, then bytes .., then `?>`, at the very start."
pub data Prolog : List ℕ → List ℕ → Type 0 where
  none : {s : List ℕ} → Prolog s s
  declared : {w s r : List ℕ} → Run is_decl w s ("?>" ▹ r) → Prolog ("<?xml" ▹ s) r

-- "Then one root element": the text s spells the element x. "Elements nest at most 8 deep, root included."
pub data WellShaped (s : List ℕ) : Node → Type 0 where
  file :
      {x : Node} {s₁ s₂ s₃ : List ℕ}
      → Prolog s s₁
      → Misc s₁ s₂
      → Element (length s) 8 x s₂ s₃
      → Misc s₃ []
      → WellShaped s x

-- some well-shaped text starts with w
abbrev pub Viable : List ℕ → Type 0
Viable w = (t : List ℕ) × ((x : Node) × WellShaped (w ++ t) x)

-- p is the "length of the longest prefix that some well-shaped text (of any size) starts with"
pub record Longest (s : List ℕ) (p : ℕ) : Type 0 where
  pub within : p ≤ length s
  pub viable : Viable (take p s)
  pub longest : p < length s → Viable (take (p + 1) s) → ⊥

-- the answer: well shaped, or why not
abbrev pub Shape : Type 0
Shape = Result (Unit {0}) Unshaped

-- what the answer says of a file: 1 "file too long" ("At most 32,768 bytes."), 2 "shape", or neither
abbrev pub Shaped : List ℕ → Shape → Type 0
Shaped s (Err TooLong) = 32768 < length s
Shaped s (Err (Broken p)) = (length s ≤ 32768) × (((x : Node) → WellShaped s x → ⊥) × Longest s p)
Shaped s (Ok u) = (length s ≤ 32768) × ((x : Node) × WellShaped s x)

abbrev pub shape_refusal : Shape → Option (ℕ × ℕ)
shape_refusal (Err TooLong) = some (1, 32768)
shape_refusal (Err (Broken p)) = some (2, p)
shape_refusal (Ok u) = Option.none
