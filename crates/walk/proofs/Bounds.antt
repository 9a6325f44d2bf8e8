-- Whatever the file holds: each step leads on, and not beyond the end.
use Prim.Native.Nat.{ℕ, zero, suc, ◌+◌, ◌≤◌, ◌<◌}
use native.Mathlib.Omega.{arith}
use mathlib.Core.Path.{◌≡◌, refl, sym, ap, ◌∙◌, subst}
use mathlib.Core.List.{List}
use mathlib.Core.Bool.{Bool, true, false, ◌&&◌}
use borrow.Author.Tests.{eqb-true, eqb-false}
use lib.Dec.{eqb}
use lib.ListN.{length, get_or, drop, drop_of_length-le, get_or-eq_default}
use Rattle.text.specs.Kinds.{is_blank, is_start, is_name, is_value, is_text}
use Rattle.text.specs.SpansCode.{span_at, is_plain}
use Rattle.lists.proofs.Cases.{by_cases, le_or_lt}
use Rattle.text.proofs.Chains.{plain_is}
use Rattle.text.proofs.Spans.{drop_one, downward, span_end, low_of, high_of, keeps_of}
use Rattle.walk.specs.declared.TagPart.{TagPart}
use Rattle.walk.specs.declared.Item.{Item}
use Rattle.walk.specs.declared.Body.{Body}
use Rattle.walk.specs.WalkCode.{past, ahead, closes_remark, remark_end, attribute_at, part_at, item_at, name_at, content_from, content_at, walk_items, skipping, skip_body, skip_from, skipped}
use Rattle.walk.proofs.Places.{inside, ahead_in, ahead_end, ahead_high, ahead_low}
use Rattle.walk.proofs.WalkAnswers.{attribute_closed, attribute_broken, part_open, part_empty, part_attribute, part_broken, item_text_lem, item_broken, item_close, item_remark, item_child}

and_right : (a b : Bool) → (a && b) ≡ true → b ≡ true
and_right true b e = e
and_right false b e = absurd (let z : ◌≡◌ {A = ℕ} 0 1 = cc in omega arith)

pub closing_inside : (f : List ℕ) (i : ℕ) (r : Bool) → r ≡ closes_remark f i → r ≡ true → i + 2 < length f
unfolding closes_remark
closing_inside f i r e t =
    let b = eqb (get_or f (i + 1) 0) 45 in
    let c = eqb (get_or f (i + 2) 0) 62 in
    inside f (i + 2) (omega (arith, eqb-true (get_or f (i + 2) 0) 62 (and_right b c (and_right (eqb (get_or f i 0) 45) (b && c) (sym e ∙ t)))))

module _ (f : List ℕ) (i : ℕ) where
  pub end_here : i < length f → closes_remark f i ≡ true → remark_end f (drop i f) i ≡ i + 3
  unfolding remark_end
  end_here h e = ap (λ (l : List ℕ). remark_end f l i) (drop_one f i h) ∙ rw (e, remark_end)

  pub end_more : i < length f → closes_remark f i ≡ false → remark_end f (drop i f) i ≡ remark_end f (drop (i + 1) f) (i + 1)
  unfolding remark_end
  end_more h e = ap (λ (l : List ℕ). remark_end f l i) (drop_one f i h) ∙ rw (e, remark_end)

  pub end_over : length f ≤ i → remark_end f (drop i f) i ≡ i
  unfolding remark_end
  end_over h = ap (λ (l : List ℕ). remark_end f l i) (drop_of_length-le f h)

plain_open : (f : List ℕ) (i : ℕ) → is_plain (get_or f i 0) ≡ true → closes_remark f i ≡ false
unfolding closes_remark
plain_open f i t = rw (plain_is (get_or f i 0) t).0

-- up to the next dash, behind a byte that does not close
pub end_plain : (f : List ℕ) (i j : ℕ) → i < length f → closes_remark f i ≡ false → j ≡ span_at is_plain (drop (i + 1) f) (i + 1)
    → remark_end f (drop i f) i ≡ remark_end f (drop j f) j
end_plain f i j h c e =
    end_more f i h c
    ∙ keeps_of is_plain f (i + 1) j e (λ k. remark_end f (drop k f) k) (λ k l t. end_more f k l (plain_open f k t))

remark_bounds : (f : List ℕ) (i : ℕ) → i ≤ length f → (i ≤ remark_end f (drop i f) i) × (remark_end f (drop i f) i ≤ length f)
remark_bounds f = downward f (λ i. i ≤ length f → (i ≤ remark_end f (drop i f) i) × (remark_end f (drop i f) i ≤ length f))
    (λ i h l. rw (end_over f i h) (omega arith, l))
    (λ i h r l. by_cases (closes_remark f i)
    (λ t. let q = closing_inside f i true (sym t) refl in rw (end_here f i h t) (omega arith, omega arith))
    (λ t. let q = r (omega arith) in rw (end_more f i h t) (omega (arith, q.0), q.1)))

-- a part of a start tag from j on
abbrev pub PartFrom : List ℕ → ℕ → TagPart → Type 0
PartFrom f j (TagPart.Attribute a e c k) = (j ≤ a) × (a ≤ e) × (e ≤ c) × (c ≤ k) × (k < length f)
PartFrom f j (TagPart.Open o) = (j < o) × (o ≤ length f)
PartFrom f j (TagPart.Empty e) = (j < e) × (e ≤ length f)
PartFrom f j TagPart.Broken = Unit {0}

attribute_bounds : (f : List ℕ) (j a : ℕ) → j ≤ a → PartFrom f j (attribute_at f a)
attribute_bounds f j a h =
    let e = past is_name f a in
    let q = past is_blank f e in
    let b = ahead f q 1 in
    let v = past is_blank f b in
    let c = ahead f v 1 in
    let k = past is_value f c in
    le_or_lt (length f) k
    (λ l. subst (PartFrom f j) (sym (attribute_broken f a e q b v c k refl refl refl refl refl refl l)) tt)
    (λ l.
    let ck = low_of is_value f c k refl in
    let vc : v < c =
    le_or_lt (v + 1) (length f) (λ m. omega (arith, ahead_in f v 1 m)) (λ m. absurd (omega (arith, ahead_end f v 1 (omega arith)))) in
    let bv = low_of is_blank f b v refl in
    let qb : q < b =
    le_or_lt (q + 1) (length f) (λ m. omega (arith, ahead_in f q 1 m)) (λ m. absurd (omega (arith, ahead_end f q 1 (omega arith)))) in
    let eq = low_of is_blank f e q refl in
    subst (PartFrom f j) (sym (attribute_closed f a e q b v c k refl refl refl refl refl refl l))
    (h, low_of is_name f a e refl, omega (arith, ck, vc, bv, qb, eq), ck, l))

start_zero : is_start 0 ≡ false
unfolding is_start
start_zero = refl

pub part_bounds : (f : List ℕ) (j : ℕ) → PartFrom f j (part_at f j)
part_bounds f j =
    let a = past is_blank f j in
    let b = get_or f a 0 in
    let low = low_of is_blank f j a refl in
    by_cases (eqb b 62)
    (λ t.
    let h = inside f a (omega (arith, eqb-true b 62 t)) in
    subst (PartFrom f j) (sym (part_open f j a b refl refl (eqb-true b 62 t))) (omega arith, omega arith))
    (λ t. by_cases (eqb b 47)
    (λ u.
    let h = inside f a (omega (arith, eqb-true b 47 u)) in
    subst (PartFrom f j) (sym (part_empty f j a b refl refl (ahead f a 2) refl (eqb-true b 47 u)))
    (omega (arith, ahead_low f a 2 h (omega arith)), ahead_high f a 2))
    (λ u. by_cases (is_start b)
    (λ v. subst (PartFrom f j) (sym (part_attribute f j a b refl refl (eqb-false b 62 t) (eqb-false b 47 u) v))
    (attribute_bounds f j a low))
    (λ v. subst (PartFrom f j) (sym (part_broken f j a b refl refl (eqb-false b 62 t) (eqb-false b 47 u) v)) tt)))

pub part_over : (f : List ℕ) (j : ℕ) → length f ≤ j → part_at f j ≡ TagPart.Broken
part_over f j h =
    part_broken f j j 0 (sym (span_end is_blank f j h)) (sym (get_or-eq_default f 0 h)) (λ e. omega arith) (λ e. omega arith) start_zero

-- an item from j on
abbrev pub ItemFrom : List ℕ → ℕ → Item → Type 0
ItemFrom f j (Item.Text k) = (j < k) × (k ≤ length f)
ItemFrom f j (Item.Remark k) = (j < k) × (k ≤ length f)
ItemFrom f j Item.Child = j < length f
ItemFrom f j (Item.Close k) = (j < k) × (k ≤ length f)
ItemFrom f j Item.Broken = Unit {0}

pub item_bounds : (f : List ℕ) (j : ℕ) → ItemFrom f j (item_at f j)
item_bounds f j =
    let b = get_or f j 0 in
    by_cases (eqb b 60)
    (λ t.
    let h = inside f j (omega (arith, eqb-true b 60 t)) in
    let c = get_or f (j + 1) 0 in
    by_cases (eqb c 47)
    (λ u.
    let g = inside f (j + 1) (omega (arith, eqb-true c 47 u)) in
    let n = past is_name f (j + 2) in
    let q = past is_blank f n in
    let l = low_of is_name f (j + 2) n refl in
    let m = low_of is_blank f n q refl in
    subst (ItemFrom f j) (sym (item_close f j b refl c refl (eqb-true b 60 t) n q (ahead f q 1) refl refl refl (eqb-true c 47 u))) (
      le_or_lt (q + 1) (length f) (λ r. omega (arith, ahead_in f q 1 r, l, m)) (λ r. omega (arith, ahead_end f q 1 (omega arith))),
      ahead_high f q 1,
    ))
    (λ u. by_cases (eqb c 33)
    (λ v.
    let s = ahead f j 4 in
    let r = remark_bounds f s (ahead_high f j 4) in
    subst (ItemFrom f j) (sym (item_remark f j b refl c refl (eqb-true b 60 t) s (remark_end f (drop s f) s) refl refl (eqb-true c 33 v)))
    (omega (arith, ahead_low f j 4 h (omega arith), r.0), r.1))
    (λ v. subst (ItemFrom f j) (sym (item_child f j b refl c refl (eqb-true b 60 t) (eqb-false c 47 u) (eqb-false c 33 v))) h)))
    (λ t.
    let e = past is_text f j in
    le_or_lt e j
    (λ l. subst (ItemFrom f j) (sym (item_broken f j b refl e refl (eqb-false b 60 t) l)) tt)
    (λ l. subst (ItemFrom f j) (sym (item_text_lem f j b refl e refl (eqb-false b 60 t) l))
    (l, le_or_lt j (length f) (λ m. high_of is_text f j e refl m) (λ m. absurd (omega (arith, span_end is_text f j (omega arith)))))))

pub item_over : (f : List ℕ) (j : ℕ) → length f ≤ j → item_at f j ≡ Item.Broken
item_over f j h = item_broken f j 0 (sym (get_or-eq_default f 0 h)) j (sym (span_end is_text f j h)) (λ e. omega arith) (omega arith)

-- a name can be taken out of the file
pub name_bounds : (f : List ℕ) (i : ℕ) → ((name_at f i).from ≤ (name_at f i).to) × ((name_at f i).to ≤ length f)
unfolding name_at
name_bounds f i =
    let n = ahead f i 1 in
    (low_of is_name f n (past is_name f n) refl, high_of is_name f n (past is_name f n) refl (ahead_high f i 1))

-- what is behind a start tag that starts before j
abbrev pub BodyFrom : List ℕ → ℕ → Body → Type 0
BodyFrom f j (Body.Open o) = (j < o) × (o ≤ length f)
BodyFrom f j (Body.Empty e) = (j < e) × (e ≤ length f)
BodyFrom f j Body.Broken = Unit {0}

body_bounds : (f : List ℕ) (i n j : ℕ) → i ≤ j → BodyFrom f i (content_from f n j)
unfolding content_from
body_bounds f i zero j h = tt
body_bounds f i (suc n) j h = by_part (part_at f j) (part_bounds f j) (λ k l. body_bounds f i n (k + 1) l)
  where
    by_part : (r : TagPart) → PartFrom f j r → ((k : ℕ) → i ≤ k + 1 → BodyFrom f i (content_from f n (k + 1)))
        → BodyFrom f i
        (elim r [
          | TagPart.Attribute a e c k ↦ content_from f n (k + 1)
          | TagPart.Open o ↦ Body.Open o
          | TagPart.Empty e ↦ Body.Empty e
          | TagPart.Broken ↦ Body.Broken
        ])
    by_part (TagPart.Attribute a e c k) p g = g k (omega (arith, p.0, p.1, p.2, p.3))
    by_part (TagPart.Open o) p g = (omega (arith, p.0), p.1)
    by_part (TagPart.Empty e) p g = (omega (arith, p.0), p.1)
    by_part TagPart.Broken p g = tt

pub content_bounds : (f : List ℕ) (i : ℕ) → i < length f → BodyFrom f i (content_at f i)
unfolding content_at name_at
content_bounds f i h =
    let n = ahead f i 1 in
    body_bounds f i (suc (length f)) (past is_name f n)
    (omega (arith, ahead_low f i 1 h (omega arith), low_of is_name f n (past is_name f n) refl))

-- an offset behind j
abbrev Behind : List ℕ → ℕ → ℕ → Type 0
Behind f j r = (j < r) × (r ≤ length f)

items_bounds : (f : List ℕ) (over : ℕ → ℕ) → ((j : ℕ) → j < length f → Behind f j (over j)) → (i n j : ℕ) → i < j → i < length f
    → Behind f i (walk_items (skipping over f) f n j)
unfolding walk_items
items_bounds f over g i zero j h l = (l, omega arith)
items_bounds f over g i (suc n) j h l = by_item (item_at f j) (item_bounds f j) (λ k m. items_bounds f over g i n k m l)
  where
    by_item : (r : Item) → ItemFrom f j r → ((k : ℕ) → i < k → Behind f i (walk_items (skipping over f) f n k))
        → Behind f i
        (elim r [
          | Item.Text k ↦ walk_items (skipping over f) f n k
          | Item.Remark k ↦ walk_items (skipping over f) f n k
          | Item.Child ↦ walk_items (skipping over f) f n (over j)
          | Item.Close k ↦ k
          | Item.Broken ↦ length f
        ])
    by_item (Item.Text k) p c = c k (omega (arith, p.0))
    by_item (Item.Remark k) p c = c k (omega (arith, p.0))
    by_item Item.Child p c = c (over j) (omega (arith, (g j p).0))
    by_item (Item.Close k) p c = (omega (arith, p.0), p.1)
    by_item Item.Broken p c = (l, omega arith)

pub skip_bounds : (f : List ℕ) (d i : ℕ) → i < length f → Behind f i (skip_from f d i)
unfolding skip_from skip_body
skip_bounds f zero i h = (h, omega arith)
skip_bounds f (suc d) i h = by_body (content_at f i) (content_bounds f i h) (skip_bounds f d)
  where
    by_body : (r : Body) → BodyFrom f i r → ((j : ℕ) → j < length f → Behind f j (skip_from f d j))
        → Behind f i (skip_body (skip_from f d) f r)
    by_body (Body.Open o) p g = items_bounds f (skip_from f d) g i (suc (length f)) o p.0 h
    by_body (Body.Empty e) p g = p
    by_body Body.Broken p g = (h, omega arith)

pub skipped_bounds : (f : List ℕ) (i : ℕ) → i < length f → (i < skipped f i) × (skipped f i ≤ length f)
unfolding skipped
skipped_bounds f i h = skip_bounds f 8 i h

-- the same, of what a reader answered
module _ (f : List ℕ) (j : ℕ) where
  pub part_from_lem : (r : TagPart) → r ≡ part_at f j → PartFrom f j r
  part_from_lem r e = subst (PartFrom f j) (sym e) (part_bounds f j)

  pub item_from : (r : Item) → r ≡ item_at f j → ItemFrom f j r
  item_from r e = subst (ItemFrom f j) (sym e) (item_bounds f j)

  pub skip_from_bounds : (d r : ℕ) → r ≡ skip_from f d j → j < length f → (j < r) × (r ≤ length f)
  skip_from_bounds d r e h = let b = skip_bounds f d j h in (omega (arith, b.0), omega (arith, b.1))
