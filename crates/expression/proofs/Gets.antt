-- What a test of the token at a place tells, by what `get` answers.
use Prim.Native.Nat.{ℕ, ◌≤◌, ◌<◌}
use native.Mathlib.Omega.{arith}
use mathlib.Core.Path.{◌≡◌, sym, ◌∙◌}
use mathlib.Core.Bool.{Bool, true, false}
use mathlib.Core.List.{List}
use lib.ListN.{length}
use lib.Dec.{eqb}
use borrow.Author.Tests.{eqb-true, eq-eqb}
use denote.Bor.{Bor}
use Rattle.std.specs.Prelude.{Option, Some, None, MatchOption}
use Rattle.std.specs.Option.{option_eq}
use Rattle.std.specs.List.{HoldsAt}
use Rattle.grammar.proofs.Laws.{Stands}

-- what `get` gives of the list
abbrev Got : List ℕ → ℕ → Option (Bor ℕ) → Type 0
Got ts i r = MatchOption r (length ts ≤ i) (λ x. (i < length ts) × HoldsAt (λ y. x.now ≡ y) ts i)

-- is it the token of that number
abbrev same_as : Option (Bor ℕ) → Bor ℕ → Bool
same_as r b = option_eq (λ x y. eqb x.now y.now) r (Some b)

module _ (ts : List ℕ) (i : ℕ) where
  pub is_there : (r : Option (Bor ℕ)) (b : Bor ℕ) → Got ts i r → same_as r b ≡ true → Stands ts i b.now
  is_there (Some x) b h e = (h.0, sym (h.1 0) ∙ eqb-true x.now b.now e)
  is_there None b h e = cc

  pub not_there : (r : Option (Bor ℕ)) (b : Bor ℕ) → Got ts i r → same_as r b ≡ false → Stands ts i b.now → ⊥
  not_there (Some x) b h e s = let q : eqb x.now b.now ≡ true = eq-eqb x.now b.now (h.1 0 ∙ s.1) in cc
  not_there None b h e s = absurd (omega (arith, h, s.0))
