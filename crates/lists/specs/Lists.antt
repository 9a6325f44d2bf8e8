-- Lists, as the definitions of files and plans speak of them.
use Rattle.std.specs.Prelude.{List, [], ◌∷◌, ◌++◌, Bool, true, false, ◌&&◌, ◌||◌}

-- one of them is so
unfoldable pub any : {X : Type 0} → (X → Bool) → List X → Bool
any p [] = false
any p (x ∷ xs) = p x || any p xs

-- each of them is so
unfoldable pub all : {X : Type 0} → (X → Bool) → List X → Bool
all p [] = true
all p (x ∷ xs) = p x && all p xs

-- what each gives, one behind the other
unfoldable pub gathered : {X Y : Type 0} → (X → List Y) → List X → List Y
gathered f [] = []
gathered f (x ∷ xs) = f x ++ gathered f xs

-- what p says holds of each of them
unfoldable pub Every : {X : Type 0} → (X → Type 0) → List X → Type 0
Every p [] = Unit {0}
Every p (x ∷ xs) = p x × Every p xs
