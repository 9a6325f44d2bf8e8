-- A list that a loop fills from the front, as contracts and invariants say it.
use Rattle.std.specs.Prelude.{ℕ, ◌≤◌, ◌≡◌, List, length, take, drop}

-- d became e: the first n are `done`, the others are as they were
pub record Filled {A : Type 0} (done d e : List A) (n : ℕ) : Type 0 where
  pub words : take n e ≡ done
  pub rest : drop n e ≡ drop n d
  pub long : length e ≡ length d
  pub within : n ≤ length d
