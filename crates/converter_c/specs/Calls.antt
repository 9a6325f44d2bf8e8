-- Paper 01, "Refusal numbers", for hosts in C: what the convert call answers.
use Rattle.std.specs.Prelude.{ℕ, ◌+◌, ◌*◌, List, Ok, Err}
use Rattle.file_rules.specs.declared.Refusal.{Refusal}
use Rattle.converter.specs.Converter.{Converts, Converted}

-- number × 2^32 + value: number 0 and the plan's length, or the refusal's number and place
abbrev pub packed : Converted → ℕ
packed (Ok n) = n
packed (Err r) = r.number * 4294967296 + r.place

pub data Converting (s d : List ℕ) : ℕ → List ℕ → Type 0 where
  converting : (a : Converted) (e : List ℕ) → Converts s d a e → Converting s d (packed a) e
