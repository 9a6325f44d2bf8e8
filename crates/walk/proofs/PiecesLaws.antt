-- A part that is answered can be taken out of the file, and is the text of the element, as much of it as fits a buffer of 32,768 bytes.
use Prim.Native.Nat.{ℕ, zero, suc, ◌-◌, ◌≤◌, ◌<◌}
use native.Mathlib.Omega.{arith}
use mathlib.Core.Path.{◌≡◌, refl, sym, ap, ◌∙◌, subst}
use mathlib.Core.List.{List, [], ◌++◌, append-nil}
use mathlib.Core.Bool.{Bool, true, false, cond, true≢false}
use borrow.Author.Tests.{leb-true}
use lib.Dec.{leb}
use lib.ListN.{length, take, drop}
use lib.Seq.{slice, length-slice, take_all, take-nil}
use Rattle.walk.specs.declared.Item.{Item}
use Rattle.walk.specs.declared.Body.{Body}
use Rattle.walk.specs.WalkCode.{item_at, content_at, walk_items, texting, inner_start, text_in, text_at}
use Rattle.walk.proofs.Bounds.{item_from}
use Rattle.walk.proofs.Turns.{walk_text, walk_close, walk_over}
use Rattle.shape.proofs.Slices.{slice_part, slice_none}
use Rattle.walk.specs.declared.Part.{Part}
use Rattle.std.specs.Prelude.{Option, Some, None}
use Rattle.walk.specs.PiecesCode.{is_close, one, run_text, item_text, body_text, single_text}

-- what an answer says of the text t
abbrev Says : List ℕ → List ℕ → Option Part → Type 0
Says f t (Some p) = (p.from ≤ p.to) × (p.to ≤ length f) × (slice p.from p.to f ≡ take 32768 t)
Says f t None = Unit {0}

-- no text is left at an end tag
at_close : (f : List ℕ) (n k : ℕ) (r : Item) → r ≡ item_at f k → is_close r ≡ true → 0 < n → walk_items (texting f) f n k ≡ []
unfolding is_close
at_close f zero k r q c h = absurd (omega arith)
at_close f (suc n) k (Item.Text m) q c h = absurd (true≢false (sym c))
at_close f (suc n) k (Item.Remark m) q c h = absurd (true≢false (sym c))
at_close f (suc n) k Item.Child q c h = absurd (true≢false (sym c))
at_close f (suc n) k (Item.Close m) q c h = walk_close (texting f) f k n m q
at_close f (suc n) k Item.Broken q c h = absurd (true≢false (sym c))

none_says : (f : List ℕ) (o : ℕ) (t : List ℕ) → o ≤ length f → t ≡ [] → Says f t (one o o)
none_says f o t h e = (omega arith, h, slice_none f o o (omega arith) ∙ sym (ap (take 32768) e ∙ take-nil 32768))

module _ (f : List ℕ) (o k : ℕ) (t : List ℕ) (low : o < k) (high : k ≤ length f) where
  fitting_says : (fits : Bool) → fits ≡ leb (k - o) 32768 → t ≡ slice o k f → Says f t (cond fits (one o k) None)
  fitting_says false q e = tt
  fitting_says true q e =
      let s = leb-true (k - o) 32768 (sym q) in
      (omega arith, high, sym (ap (take 32768) e ∙ take_all 32768 (slice o k f) (omega (arith, s, length-slice o k f high))))

  run_says : (whole : Bool) → (whole ≡ true → t ≡ slice o k f) → Says f t (run_text o k whole)
  unfolding run_text
  run_says false e = tt
  run_says true e = fitting_says (leb (k - o) 32768) refl (e refl)

item_says : (f : List ℕ) (o : ℕ) (r : Item) → r ≡ item_at f o → Says f (walk_items (texting f) f (suc (length f)) o) (item_text f o r)
unfolding item_text
item_says f o (Item.Text k) q =
    let b = item_from f o (Item.Text k) q in
    run_says f o k (walk_items (texting f) f (suc (length f)) o) b.0 b.1 (is_close (item_at f k))
    (λ c. walk_text (texting f) f o (length f) k q
    ∙ (ap (λ (s : List ℕ). slice o k f ++ s) (at_close f (length f) k (item_at f k) refl c (omega (arith, b.0, b.1)))
    ∙ append-nil (slice o k f)))
item_says f o (Item.Remark k) q = tt
item_says f o Item.Child q = tt
item_says f o (Item.Close k) q =
    let b = item_from f o (Item.Close k) q in
    none_says f o (walk_items (texting f) f (suc (length f)) o) (omega (arith, b.0, b.1)) (walk_close (texting f) f o (length f) k q)
item_says f o Item.Broken q = tt

body_says : (f : List ℕ) (b : Body) → Says f (text_in f b) (body_text f b)
unfolding body_text inner_start
body_says f (Body.Open o) = item_says f o (item_at f o) refl
body_says f (Body.Empty e) =
    none_says f 0 (walk_items (texting f) f (suc (length f)) (length f)) (omega arith)
    (walk_over (texting f) f (length f) (omega arith) (suc (length f)))
body_says f Body.Broken = tt

-- a part that was answered, of any content
module _ (f : List ℕ) (c : Body) (a b : ℕ) (e : body_text f c ≡ one a b) where
  says : Says f (text_in f c) (one a b)
  says = subst (Says f (text_in f c)) e (body_says f c)

  pub body_bounds : (a ≤ b) × (b ≤ length f)
  body_bounds = (says.0, says.1)

  -- the part that code takes by `[a..b]`
  pub body_part : take (b - a) (drop a f) ≡ take 32768 (text_in f c)
  body_part = slice_part f a b says.0 says.1 ∙ says.2

-- the same, for any i, also behind the end of the file
module _ (f : List ℕ) (i a b : ℕ) (e : single_text f i ≡ one a b) where
  pub single_bounds : (a ≤ b) × (b ≤ length f)
  unfolding single_text
  single_bounds = body_bounds f (content_at f i) a b e

  pub single_part : take (b - a) (drop a f) ≡ take 32768 (text_at f i)
  unfolding single_text text_at
  single_part = body_part f (content_at f i) a b e
