-- Lists that are gathered one behind the other.
use mathlib.Core.Path.{◌≡◌, refl, sym, ap, ◌∙◌}
use mathlib.Core.List.{List, [], ◌∷◌, ◌++◌, map, append_assoc}
use Rattle.lists.specs.Lists.{gathered}

pub gathered_append : {X Y : Type 0} (g : X → List Y) (xs ys : List X) → gathered g (xs ++ ys) ≡ gathered g xs ++ gathered g ys
unfolding gathered
gathered_append g [] ys = refl
gathered_append g (x ∷ xs) ys = ap (λ l. g x ++ l) (gathered_append g xs ys) ∙ sym (append_assoc (g x) (gathered g xs) (gathered g ys))

pub gathered_map : {X Y Z : Type 0} (g : Y → List Z) (h : X → Y) (xs : List X) → gathered (λ x. g (h x)) xs ≡ gathered g (map h xs)
unfolding gathered
gathered_map g h [] = refl
gathered_map g h (x ∷ xs) = ap (λ l. g (h x) ++ l) (gathered_map g h xs)
