-- What the functions that write a part of a text say. Nobody has to believe it: `print_answer` is proved against Printing.antt.
use Rattle.std.specs.Prelude.{ℕ, min, ◌≡◌, List, length}
use Rattle.printing.specs.Printing.{printed_over}

-- d became e: the text t, and r says how many bytes of it there was room for
pub record Put (t d : List ℕ) (r : ℕ) (e : List ℕ) : Type 0 where
  pub count : r ≡ min (length t) (length d)
  pub over : e ≡ printed_over t d
