-- Records in a row, where they may be only so many.
use Rattle.std.specs.Prelude.{ℕ, List, [], cond, leb}
use Rattle.loader.specs.ScanCode.{records_of}

-- `count` of them from the head of the words, or none where that is more than `most`
unfoldable pub rows_of : (List ℕ → ℕ) → {A : Type 0} → (List ℕ → A) → ℕ → ℕ → List ℕ → List A
rows_of size read most count ws = cond (leb count most) (records_of size read count ws) []
