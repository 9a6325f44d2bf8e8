-- What the functions answer, for every input. Code-shaped, over WalkCode.antt; proofs/PiecesLaws.antt says what a part is. Nothing here has
-- to be believed.
use Rattle.std.specs.Prelude.{ℕ, ◌-◌, List, Bool, true, false, cond, ◌&&◌, leb, Option, Some, None}
use Rattle.walk.specs.declared.Item.{Item}
use Rattle.walk.specs.declared.Body.{Body}
use Rattle.walk.specs.WalkCode.{item_at, content_at}
use Rattle.walk.specs.declared.Part.{Part}

unfoldable pub is_close : Item → Bool
is_close (Item.Text k) = false
is_close (Item.Remark k) = false
is_close Item.Child = false
is_close (Item.Close k) = true
is_close Item.Broken = false

-- one part of the file
abbrev pub one : ℕ → ℕ → Option Part
one a b = Some (record { from = a; to = b })

-- the run of text from o to k, which is the whole text or not; in several pieces, or too long for a buffer, it is no one part
unfoldable pub run_text : ℕ → ℕ → Bool → Option Part
run_text o k whole = cond (whole && leb (k - o) 32768) (one o k) None

-- the text of an element whose content starts at o with the item given
unfoldable pub item_text : List ℕ → ℕ → Item → Option Part
item_text f o (Item.Text k) = run_text o k (is_close (item_at f k))
item_text f o (Item.Remark k) = None
item_text f o Item.Child = None
item_text f o (Item.Close k) = one o o
item_text f o Item.Broken = None

unfoldable pub body_text : List ℕ → Body → Option Part
body_text f (Body.Open o) = item_text f o (item_at f o)
body_text f (Body.Empty e) = one 0 0
body_text f Body.Broken = None

-- the text of the element at i
unfoldable pub single_text : List ℕ → ℕ → Option Part
single_text f i = body_text f (content_at f i)
