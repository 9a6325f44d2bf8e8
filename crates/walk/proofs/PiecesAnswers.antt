-- The answers where an element's content starts with text: by what stands behind it, and by its length.
use Prim.Native.Nat.{ℕ, ◌-◌}
use mathlib.Core.Path.{◌≡◌, sym, ap, ◌∙◌}
use mathlib.Core.List.{List}
use mathlib.Core.Bool.{Bool, true, false, cond, ◌&&◌}
use lib.Dec.{leb}
use Rattle.walk.specs.declared.Item.{Item}
use Rattle.walk.specs.WalkCode.{item_at}
use Rattle.std.specs.Prelude.{None}
use Rattle.walk.specs.PiecesCode.{is_close, one, run_text, item_text}

module _ (f : List ℕ) (o k : ℕ) (first : Item.Text k ≡ item_at f o) (r : Item) (next : r ≡ item_at f k) (whole : Bool)
    (told : whole ≡ is_close r) where
  run_is : run_text o k whole ≡ item_text f o (item_at f o)
  unfolding item_text
  run_is = ap (run_text o k) (told ∙ ap is_close next) ∙ ap (item_text f o) first

  pub run_fits : (whole && leb (k - o) 32768) ≡ true → one o k ≡ item_text f o (item_at f o)
  unfolding run_text
  run_fits t = ap (λ (b : Bool). cond b (one o k) None) (sym t) ∙ run_is

  pub run_fits_not : (whole && leb (k - o) 32768) ≡ false → None ≡ item_text f o (item_at f o)
  unfolding run_text
  run_fits_not t = ap (λ (b : Bool). cond b (one o k) None) (sym t) ∙ run_is
