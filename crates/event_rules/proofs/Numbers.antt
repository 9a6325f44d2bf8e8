-- A number's refusal has that number.
use Prim.Native.Nat.{ℕ}
use mathlib.Core.Path.{◌≡◌, refl, sym, ◌∙◌}
use mathlib.Core.Bool.{Bool, true, false, cond}
use lib.Dec.{eqb}
use borrow.Author.Tests.{eqb-true}
use Rattle.event_rules.specs.Types.{Refusal, NoPlan, NoChannel, BadTime, OutOfRange, CountsFull, CodeFault, Other}
use Rattle.event_rules.specs.Calls.{refusal_number, refusal_at}

or_else_has : (n m : ℕ) (r o : Refusal) → refusal_number r ≡ m → refusal_number o ≡ n → refusal_number (cond (eqb n m) r o) ≡ n
or_else_has n m r o p q = go (eqb n m) refl
  where
    go : (b : Bool) → eqb n m ≡ b → refusal_number (cond b r o) ≡ n
    go true e = p ∙ sym (eqb-true n m e)
    go false e = q

pub number_kept : (n : ℕ) → refusal_number (refusal_at n) ≡ n
number_kept n =
    or_else_has n 20 NoPlan _ refl
    (or_else_has n 21 NoChannel _ refl
    (or_else_has n 22 BadTime _ refl
    (or_else_has n 23 OutOfRange _ refl (or_else_has n 24 CountsFull _ refl (or_else_has n 25 CodeFault (Other n) refl refl)))))
