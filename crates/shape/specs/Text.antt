-- Paper 01, "Shape of the file": "An element's text is all text directly in it, joined, blanks trimmed at both ends."
use Rattle.std.specs.Prelude.{ℕ, List, [], ◌∷◌, true, false, cond}
use Rattle.text.specs.Kinds.{is_blank}
use Rattle.shape.specs.Shape.{Items}

-- "all text directly in it, joined"
unfoldable pub joined : Items → List ℕ
joined Items.none = []
joined (Items.text b i) = b ∷ joined i
joined (Items.remark i) = joined i
joined (Items.child x i) = joined i

-- without the blanks in front
unfoldable pub clipped : List ℕ → List ℕ
clipped [] = []
clipped (b ∷ s) = elim (is_blank b) [ true ↦ clipped s | false ↦ b ∷ s ]

-- without the blanks behind: a blank goes if nothing is kept behind it
unfoldable pub cropped : List ℕ → List ℕ
cropped [] = []
cropped (b ∷ s) = elim (cropped s) [ [] ↦ cond (is_blank b) [] (b ∷ []) | c ∷ t ↦ b ∷ c ∷ t ]

-- "blanks trimmed at both ends"
unfoldable pub trimmed : List ℕ → List ℕ
trimmed s = cropped (clipped s)
