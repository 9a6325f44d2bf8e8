-- Paper 01, "What the converter and the logger cover" and "Refusal numbers": the known elements of a document in file order, and its faults
-- up to 8.
use Rattle.std.specs.Prelude.{ℕ, List, [], ◌∷◌, ◌++◌, Bool, false, not, cond, ◌||◌, eqb, length}
use Rattle.text.specs.Texts.{bytes, same}
use Rattle.shape.specs.Shape.{Node, node, Items}
use Rattle.schema.specs.declared.Times.TheVariants.{Once, OneTo, UpTo}
use Rattle.schema.specs.Schema.{Parent, one_of, under}
use Rattle.file_rules.specs.Element.{Known, Fault, ◌at◌if◌, own_faults}
use Rattle.lists.specs.Lists.{any, gathered}

-- the names of the carried elements under q, the one read last in front
abbrev pub also_named : Parent → List (List ℕ) → Node → List (List ℕ)
also_named q earlier (node p n l i) = cond (one_of q.carried n) (n ∷ earlier) earlier

unfoldable pub held : Parent → List (List ℕ) → Items → List (List ℕ)
held q earlier Items.none = earlier
held q earlier (Items.text b i) = held q earlier i
held q earlier (Items.remark i) = held q earlier i
held q earlier (Items.child x i) = held q (also_named q earlier x) i

-- "known elements in file order", a parent before its children. "Any other element is skipped with all it holds."
unfoldable mutual
  pub known_in : Parent → List (List ℕ) → Items → List Known
  known_in q earlier Items.none = []
  known_in q earlier (Items.text b i) = known_in q earlier i
  known_in q earlier (Items.remark i) = known_in q earlier i
  known_in q earlier (Items.child x i) = known_at q earlier x ++ known_in q (also_named q earlier x) i

  pub known_at : Parent → List (List ℕ) → Node → List Known
  known_at q earlier (node p n l i) =
      cond (one_of q.carried n || one_of q.barred n)
      (record { parent = q; earlier = earlier; place = p; name = n; attributes = l; items = i } ∷ known_in (under n) [] i) []

-- the file itself holds the root
abbrev pub known_elements : Node → List Known
known_elements x = known_at (under []) [] x

abbrev pub place_of : Node → ℕ
place_of (node p n l i) = p

-- 8 "required element lacking": each name once, or at least one
unfoldable pub unmet : Parent → List (List ℕ) → Bool
unmet q names =
    elim q.times [ Once ↦ any (λ c. not (any (same (bytes c)) names)) q.carried | OneTo m ↦ eqb (length names) 0 | UpTo m ↦ false ]

unfoldable pub lacks : Known → Bool
lacks k = unmet (under k.name) (held (under k.name) [] k.items)

-- "3; then known elements in file order, each 4, 7 for its kind, 5, 6, 7 for a value; then 8"
unfoldable pub element_faults : Node → List Fault
element_faults x = 3 at place_of x if eqb (length (known_elements x)) 0
    ++ (gathered own_faults (known_elements x) ++ 8 at place_of x if any lacks (known_elements x))
