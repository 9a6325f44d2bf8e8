-- What stands at an offset of a file. These are devices for the laws and the contracts above: nothing here has to be believed.
use Rattle.std.specs.Prelude.{ℕ, ◌<◌, ◌≤◌, List, [], ◌∷◌, ◌++◌, length, drop}
use Rattle.text.specs.Texts.{◌▹◌}
use Rattle.text.specs.Kinds.{is_blank}
use Rattle.shape.specs.Shape.{Attribute, Node, Items, Run, Name, Attributes, Content, Element}

-- the element x stands at i, e is behind it, and elements nest at most d deep in it
pub record ElementAt (f : List ℕ) (d i : ℕ) (x : Node) (e : ℕ) : Type 0 where
  pub before : i < e
  pub within : e ≤ length f
  pub spells : Element (length f) d x (drop i f) (drop e f)

-- items, then an end tag
pub data Closing (E : Node → List ℕ → List ℕ → Type 0) : Items → List ℕ → List ℕ → Type 0 where
  closing : {i : Items} {n a b v s t r : List ℕ} → Name n a b → Content E i s ("</" ▹ n ++ t) → Run is_blank v t (">" ▹ r) → Closing E i s r

-- behind the attributes of a start tag
pub data Tail (E : Node → List ℕ → List ℕ → Type 0) : Items → List ℕ → List ℕ → Type 0 where
  empty : {w s r : List ℕ} → Run is_blank w s ("/>" ▹ r) → Tail E Items.none s r
  full : {i : Items} {w s t r : List ℕ} → Run is_blank w s (">" ▹ t) → Closing E i t r → Tail E i s r

-- an element's items stand at j, and e is behind the element; d is for the children
pub record ContentStands (f : List ℕ) (d j : ℕ) (i : Items) (e : ℕ) : Type 0 where
  pub within : e ≤ length f
  pub stands : Closing (Element (length f) d) i (drop j f) (drop e f)

-- in a start tag the attributes l stand at j, then the element's items, and e is behind the element
pub record StartAt (f : List ℕ) (d j : ℕ) (l : List Attribute) (i : Items) (e : ℕ) : Type 0 where
  pub within : e ≤ length f
  pub rest : List ℕ
  pub attributes : Attributes l (drop j f) rest
  pub tail : Tail (Element (length f) d) i rest (drop e f)

-- text before items
unfoldable pub texted : List ℕ → Items → Items
texted [] i = i
texted (b ∷ w) i = Items.text b (texted w i)
