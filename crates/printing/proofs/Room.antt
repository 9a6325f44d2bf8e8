-- For callers: the bytes answered lie in the buffer, and it keeps its length.
use Prim.Native.Nat.{ℕ, ◌≤◌}
use mathlib.Core.Path.{◌≡◌}
use mathlib.Core.List.{List}
use native.Mathlib.Omega.{arith}
use lib.ListN.{length}
use Rattle.converter.specs.Converter.{Converted}
use Rattle.printing.specs.Printing.{Prints}
use Rattle.printing.proofs.Puts.{length_printed}

pub room : {say : Converted → List ℕ → List ℕ} {s d t e f : List ℕ} {r : ℕ} → Prints say s d t r e f
    → (r ≤ length t) × (length f ≡ length t)
room {say} {t = t} (Prints.prints a e h) = (omega arith, length_printed (say a e) t)
