-- The library's tests of texts are those of the definitions.
use Rattle.std.specs.Prelude.{ℕ, ◌≡◌, List, [], ◌∷◌, Bool, refl, ◌&&◌, nat_eq}
use Rattle.std.specs.List.{list_all}
use Rattle.std.proofs.Common.{ap}
use lib.Pointwise.{pointwise}
use Rattle.text.specs.Texts.{same}
use Rattle.lists.specs.Lists.{all}

pub all_listed : (p : ℕ → Bool) (s : List ℕ) → all p s ≡ list_all p s
unfolding all
all_listed p [] = refl
all_listed p (b ∷ s) = ap (λ r. p b && r) (all_listed p s)

pub same_pointwise : (s t : List ℕ) → pointwise nat_eq s t ≡ same s t
unfolding same
same_pointwise [] [] = refl
same_pointwise [] (b ∷ t) = refl
same_pointwise (a ∷ s) [] = refl
same_pointwise (a ∷ s) (b ∷ t) = ap (λ r. nat_eq a b && r) (same_pointwise s t)
