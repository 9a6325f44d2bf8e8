-- Places at the front of what is lent, as many as there is room for. Nothing here has to be believed.
use Rattle.std.specs.Prelude.{ℕ, ◌≡◌, List, ◌++◌, length, take, drop}

abbrev pub laid : List ℕ → List ℕ → List ℕ
laid l d = take (length d) l ++ drop (length l) d

-- d became e: as much of l as there is room for stands at the front, and n is how many there are
pub record Told (l d : List ℕ) (n : ℕ) (e : List ℕ) : Type 0 where
  pub count : n ≡ length l
  pub places : e ≡ laid l d

-- d became e: whatever n told, r tells it with l behind it
pub record Adds (l : List ℕ) (n : ℕ) (d : List ℕ) (r : ℕ) (e : List ℕ) : Type 0 where
  pub added : (k c : List ℕ) → Told k c n d → Told (k ++ l) c r e
