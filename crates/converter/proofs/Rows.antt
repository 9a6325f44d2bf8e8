-- The words of entries that are left: those of the first, and those behind it.
use Prim.Native.Nat.{ℕ, ◌+◌, ◌≤◌}
use mathlib.Core.Path.{◌≡◌, ap, ◌∙◌}
use mathlib.Core.List.{List, [], ◌∷◌, ◌++◌}
use mathlib.Core.Bool.{Bool, true, cond}
use lib.ListN.{length}
use Rattle.lists.specs.Lists.{gathered}
use Rattle.document.specs.EntriesCode.{Entry}
use Rattle.tables.specs.RowsCode.{front, is_under, is_inner, action_from}
use Rattle.tables.proofs.RowsTurns.{front_next}
use Rattle.lists.proofs.Parts.{lent}
use Rattle.converter.specs.PlanCode.{Wrote, rows_of, action_row}
use Rattle.converter.proofs.Writes.{back, Behind, behind_all, behind_next, behind_more}

-- of es the first is x, and the others, those behind it, are rest
abbrev pub First : List Entry → Entry → List Entry → List Entry → Type 0
First es x rest bs = (es ≡ x ∷ rest) × (rest ≡ bs)

module _ (row : Entry → List Entry → List ℕ) {es : List Entry} {all d e : List ℕ} {n : ℕ} (b : Behind all d (rows_of row es) n e) where
  module _ {x : Entry} {rest bs : List Entry} (g : First es x rest bs) where
    own : rows_of row es ≡ row x bs ++ rows_of row rest
    unfolding rows_of
    own = ap (rows_of row) g.0 ∙ ap (λ (l : List Entry). row x l ++ rows_of row rest) g.1

    pub rows_next : length (row x bs) ≤ length (lent e n)
    rows_next = behind_next b (row x bs) (rows_of row rest) own

    pub rows_more : {r : ℕ} {p : List ℕ} → Wrote (row x bs) (lent e n) r p → Behind all d (rows_of row rest) (n + r) (back e n p)
    rows_more w = behind_more b (row x bs) (rows_of row rest) own w

  pub rows_all : es ≡ [] → Wrote all d n e
  unfolding rows_of
  rows_all h = behind_all b (ap (rows_of row) h)

-- the actions of a statement
abbrev pub actions_in : List Entry → List ℕ
actions_in es = gathered action_row (front is_inner es)

pub actions_next : {es rest : List Entry} {e : Entry} {kind : ℕ} (b : Bool) → es ≡ e ∷ rest → kind ≡ e.kind → is_inner kind ≡ true
    → is_under "ACTIONS" kind ≡ b → actions_in es ≡ cond b (action_from kind ∷ []) [] ++ actions_in rest
unfolding gathered action_row
actions_next b s own k t = rw (front_next is_inner s own k, ← own, t)

pub actions_none : (es : List Entry) → front is_inner es ≡ [] → actions_in es ≡ []
unfolding gathered
actions_none es e = ap (gathered action_row) e
