-- What the functions that look for skipped elements say of a file of good shape, in terms of Omissions.antt. Nothing here has to be
-- believed.
use Rattle.std.specs.Prelude.{ℕ, suc, ◌≤◌, ◌≡◌, List, length}
use Rattle.shape.specs.Shape.{Node, node, Items}
use Rattle.walk.specs.StandsCode.{ElementAt}
use Rattle.schema.specs.Schema.{under}
use Rattle.schema.specs.SchemaCode.{kind_name}
use Rattle.omissions.specs.declared.skips.Sought.{Sought}
use Rattle.omissions.specs.Omissions.{skipped_in, skipped_at}
use Rattle.omissions.specs.ToldCode.{Adds}

-- the walk stands at an element, in which elements nest at most d deep, and there are no more places than bytes before it
pub record Standing (f : List ℕ) (d : ℕ) (w : Sought) : Type 0 where
  pub short : length f ≤ 32768
  pub shallow : d ≤ 8
  pub fits : w.count ≤ w.at
  pub node : Node
  pub end : ℕ
  pub stands : ElementAt f d w.at node end

abbrev pub items_of : Node → Items
items_of (node p n l i) = i

-- from w, which stands at an element under the kind q, to v behind it: the places of what is skipped were added
pub record SoughtIs (f : List ℕ) (q d : ℕ) (w : Sought) (ms : List ℕ) (v : Sought) (ms' : List ℕ) : Type 0 where
  pub fits : v.count ≤ v.at
  pub ends : (x : Node) (e : ℕ) → ElementAt f d w.at x e → v.at ≡ e
  pub tells : (x : Node) (e : ℕ) → ElementAt f d w.at x e → Adds (skipped_at (under (kind_name q)) x) w.count ms v.count ms'

-- the same of what the element holds, which is of the kind q; d is for the children
pub record SoughtIn (f : List ℕ) (q d : ℕ) (w : Sought) (ms : List ℕ) (v : Sought) (ms' : List ℕ) : Type 0 where
  pub fits : v.count ≤ v.at
  pub ends : (x : Node) (e : ℕ) → ElementAt f (suc d) w.at x e → v.at ≡ e
  pub tells : (x : Node) (e : ℕ) → ElementAt f (suc d) w.at x e
      → Adds (skipped_in (under (kind_name q)) (items_of x)) w.count ms v.count ms'
