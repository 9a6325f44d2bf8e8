-- Runs of bytes of one kind, as the functions answer them. Nothing here has to be believed.
use Rattle.std.specs.Prelude.{ℕ, ◌+◌, List, [], ◌∷◌, Bool, true, false, not, ◌&&◌, ◌≡◌}
use Rattle.text.specs.Kinds.{among, is_any}

-- the offset behind the bytes of kind p with which s starts, i being the offset of s
unfoldable pub span_at : (ℕ → Bool) → List ℕ → ℕ → ℕ
span_at p [] i = i
span_at p (b ∷ s) i = elim (p b) [ true ↦ span_at p s (i + 1) | false ↦ i ]

-- a byte of a comment that is none of its dashes
unfoldable pub is_plain : ℕ → Bool
is_plain b = not (among "-" b) && is_any b

-- what a test that is handed over answers, `post` saying of a call what it may answer: of each byte that it is of kind p, or not
abbrev pub Tests : {F : Type 0} → (F → ℕ → Bool → Type 0) → F → (ℕ → Bool) → Type 0
Tests post f p = (b : ℕ) (r : Bool) → post f b r → r ≡ p b
