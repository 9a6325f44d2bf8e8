-- The contract of `print_answer` settles the number, the words and the text.
use Prim.Native.Nat.{ℕ, min}
use mathlib.Core.Path.{◌≡◌, ap}
use mathlib.Core.List.{List}
use lib.ListN.{length}
use Rattle.converter.specs.Converter.{Converted}
use Rattle.converter.proofs.Once.{one_converted}
use Rattle.printing.specs.Printing.{printed_over, Prints}

pub one_printed : (say : Converted → List ℕ → List ℕ) (s d t : List ℕ) (r r' : ℕ) (e e' f f' : List ℕ) → Prints say s d t r e f
    → Prints say s d t r' e' f'
    → (r ≡ r') × ((e ≡ e') × (f ≡ f'))
one_printed say s d t r r' e e' f f' (Prints.prints a x h) (Prints.prints b y g) =
    let o = one_converted s d a b x y h g in
    let same : say a x ≡ say b y = λ i. say (o.0 i) (o.1 i) in
    (ap (λ (l : List ℕ). min (length l) (length t)) same, (o.1, ap (λ (l : List ℕ). printed_over l t) same))
