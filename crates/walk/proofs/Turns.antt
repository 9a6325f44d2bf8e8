-- Turns of the loops. The invariant of each: some fuel is left, enough for what is left of the file, and from here the answer is the whole
-- one.
use Prim.Native.Nat.{ℕ, zero, suc, ◌+◌, ◌-◌, ◌≤◌, ◌<◌}
use native.Mathlib.Omega.{arith}
use mathlib.Core.Path.{◌≡◌, refl, sym, ap, ◌∙◌}
use mathlib.Core.List.{List}
use lib.ListN.{length}
use Rattle.text.specs.Kinds.{is_blank}
use Rattle.text.proofs.Spans.{low_of, span_end}
use Rattle.walk.specs.declared.Part.{Part}
use Rattle.walk.specs.declared.TagPart.{TagPart}
use Rattle.walk.specs.declared.Item.{Item}
use Rattle.walk.specs.declared.Body.{Body}
use Rattle.walk.specs.WalkCode.{past, part_at, item_at, name_at, content_from, content_at, ItemWalk, walk_items, skipping, skip_body, skip_from, misc_from, prolog_end, root_at}
use Rattle.walk.proofs.Bounds.{part_over, item_over, part_from_lem, item_from}

pub record Turn {A : Type 0} (go : ℕ → ℕ → A) (top j : ℕ) (whole : A) : Type 0 where
  pub fuel : ℕ
  pub enough : top < fuel + j
  pub same : go fuel j ≡ whole

pub start : {A : Type 0} (go : ℕ → ℕ → A) (top j : ℕ) (whole : A) → go (suc top) j ≡ whole → Turn go top j whole
start go top j whole e = record { fuel = suc top; enough = omega arith; same = e }

module _ {A : Type 0} (go : ℕ → ℕ → A) (top j : ℕ) (whole : A) where
  spent : (P : ℕ → Type 0) → j ≤ top → (n : ℕ) → top < n + j → ((m : ℕ) → P (suc m)) → P n
  spent P h zero e k = absurd (omega arith)
  spent P h (suc n) e k = k n

  -- one more step, to k
  pub next : (go' : ℕ → ℕ → A) (k : ℕ) → Turn go top j whole → j < top → j < k → ((n : ℕ) → go (suc n) j ≡ go' n k) → Turn go' top k whole
  next go' k t h l s =
      spent (λ n. top < n + j → go n j ≡ whole → Turn go' top k whole) (omega arith) t.fuel t.enough
      (λ n e x. record { fuel = n; enough = omega arith; same = sym (s n) ∙ x }) t.enough t.same

  -- the answer stands here
  pub done : (a : A) → Turn go top j whole → j < top → ((n : ℕ) → go (suc n) j ≡ a) → a ≡ whole
  done a t h s = spent (λ n. go n j ≡ whole → a ≡ whole) (omega arith) t.fuel t.enough (λ n x. sym (s n) ∙ x) t.same

  pub over : (a : A) → Turn go top j whole → ((n : ℕ) → go n j ≡ a) → a ≡ whole
  over a t s = sym (s t.fuel) ∙ t.same

-- the steps of each loop, by what stands next
module _ (f : List ℕ) (j : ℕ) where
  module _ (n : ℕ) where
    pub content_next : (a e c k : ℕ) → part_at f j ≡ TagPart.Attribute a e c k → content_from f (suc n) j ≡ content_from f n (k + 1)
    unfolding content_from
    content_next a e c k h = rw (h, content_from)

    pub content_open : (o : ℕ) → part_at f j ≡ TagPart.Open o → content_from f (suc n) j ≡ Body.Open o
    unfolding content_from
    content_open o h = rw (h, content_from)

    pub content_empty : (e : ℕ) → part_at f j ≡ TagPart.Empty e → content_from f (suc n) j ≡ Body.Empty e
    unfolding content_from
    content_empty e h = rw (h, content_from)

    pub content_broken : part_at f j ≡ TagPart.Broken → content_from f (suc n) j ≡ Body.Broken
    unfolding content_from
    content_broken h = rw (h, content_from)

  pub content_over : length f ≤ j → (n : ℕ) → content_from f n j ≡ Body.Broken
  unfolding content_from
  content_over h zero = refl
  content_over h (suc n) = content_broken n (part_over f j h)

pub content_start : (f : List ℕ) (i : ℕ) (n : Part) → n ≡ name_at f i → Turn (content_from f) (length f) n.to (content_at f i)
unfolding content_at
content_start f i n e =
    start (content_from f) (length f) n.to (content_at f i) (ap (λ (p : Part). content_from f (suc (length f)) p.to) e)

module _ (f : List ℕ) (j : ℕ) (whole : Body) (t : Turn (content_from f) (length f) j whole) where
  pub content_again : j < length f → (a e c k : ℕ) → TagPart.Attribute a e c k ≡ part_at f j → Turn (content_from f) (length f) (k + 1) whole
  content_again h a e c k r =
      let b = part_from_lem f j (TagPart.Attribute a e c k) r in
      next (content_from f) (length f) j whole (content_from f) (k + 1) t h (omega (arith, b.0, b.1, b.2, b.3))
      (λ n. content_next f j n a e c k (sym r))

  pub content_opens : j < length f → (o : ℕ) → TagPart.Open o ≡ part_at f j → Body.Open o ≡ whole
  content_opens h o r = done (content_from f) (length f) j whole (Body.Open o) t h (λ n. content_open f j n o (sym r))

  pub content_ends : j < length f → (e : ℕ) → TagPart.Empty e ≡ part_at f j → Body.Empty e ≡ whole
  content_ends h e r = done (content_from f) (length f) j whole (Body.Empty e) t h (λ n. content_empty f j n e (sym r))

  pub content_breaks : j < length f → TagPart.Broken ≡ part_at f j → Body.Broken ≡ whole
  content_breaks h r = done (content_from f) (length f) j whole Body.Broken t h (λ n. content_broken f j n (sym r))

  pub content_stops : length f ≤ j → Body.Broken ≡ whole
  content_stops h = over (content_from f) (length f) j whole Body.Broken t (content_over f j h)

-- a step of a walk, by what stands next
module _ {A : Type 0} (w : ItemWalk A) (f : List ℕ) (j : ℕ) where
  module _ (n : ℕ) where
    pub walk_text : (k : ℕ) → Item.Text k ≡ item_at f j → walk_items w f (suc n) j ≡ w.text j k (walk_items w f n k)
    unfolding walk_items
    walk_text k r = rw (← r, walk_items)

    pub walk_remark : (k : ℕ) → Item.Remark k ≡ item_at f j → walk_items w f (suc n) j ≡ walk_items w f n k
    unfolding walk_items
    walk_remark k r = rw (← r, walk_items)

    pub walk_child : Item.Child ≡ item_at f j → walk_items w f (suc n) j ≡ walk_items w f n (w.over j)
    unfolding walk_items
    walk_child r = rw (← r, walk_items)

    pub walk_close : (k : ℕ) → Item.Close k ≡ item_at f j → walk_items w f (suc n) j ≡ w.close k
    unfolding walk_items
    walk_close k r = rw (← r, walk_items)

    walk_broken : Item.Broken ≡ item_at f j → walk_items w f (suc n) j ≡ w.fault
    unfolding walk_items
    walk_broken r = rw (← r, walk_items)

  pub walk_over : length f ≤ j → (n : ℕ) → walk_items w f n j ≡ w.fault
  unfolding walk_items
  walk_over h zero = refl
  walk_over h (suc n) = walk_broken n (sym (item_over f j h))

-- a turn of a walk, of which g makes the answer
module _ {A B : Type 0} (w : ItemWalk A) (f : List ℕ) (g : A → B) (j : ℕ) (whole : B)
    (t : Turn (λ n k. g (walk_items w f n k)) (length f) j whole) where
  pub on_text : (g' : A → B) (k : ℕ) → j < length f → Item.Text k ≡ item_at f j → ((a : A) → g (w.text j k a) ≡ g' a)
      → Turn (λ n m. g' (walk_items w f n m)) (length f) k whole
  on_text g' k h r s =
      next (λ n m. g (walk_items w f n m)) (length f) j whole (λ n m. g' (walk_items w f n m)) k t h (item_from f j (Item.Text k) r).0
      (λ n. ap g (walk_text w f j n k r) ∙ s (walk_items w f n k))

  pub on_remark : (k : ℕ) → j < length f → Item.Remark k ≡ item_at f j → Turn (λ n m. g (walk_items w f n m)) (length f) k whole
  on_remark k h r =
      next (λ n m. g (walk_items w f n m)) (length f) j whole (λ n m. g (walk_items w f n m)) k t h (item_from f j (Item.Remark k) r).0
      (λ n. ap g (walk_remark w f j n k r))

  pub on_child : (k : ℕ) → j < length f → Item.Child ≡ item_at f j → k ≡ w.over j → j < k
      → Turn (λ n m. g (walk_items w f n m)) (length f) k whole
  on_child k h r e l =
      next (λ n m. g (walk_items w f n m)) (length f) j whole (λ n m. g (walk_items w f n m)) k t h l
      (λ n. ap g (walk_child w f j n r ∙ ap (walk_items w f n) (sym e)))

  pub on_close : (k : ℕ) → j < length f → Item.Close k ≡ item_at f j → g (w.close k) ≡ whole
  on_close k h r = done (λ n m. g (walk_items w f n m)) (length f) j whole (g (w.close k)) t h (λ n. ap g (walk_close w f j n k r))

  pub on_broken : j < length f → Item.Broken ≡ item_at f j → g w.fault ≡ whole
  on_broken h r = done (λ n m. g (walk_items w f n m)) (length f) j whole (g w.fault) t h (λ n. ap g (walk_broken w f j n r))

  pub on_end : length f ≤ j → g w.fault ≡ whole
  on_end h = over (λ n m. g (walk_items w f n m)) (length f) j whole (g w.fault) t (λ n. ap g (walk_over w f j h n))

-- an element with some depth left
pub skip_left : (f : List ℕ) (left i : ℕ) → (left ≡ 0 → ⊥) → skip_body (skip_from f (left - 1)) f (content_at f i) ≡ skip_from f left i
unfolding skip_from
skip_left f zero i h = absurd (h refl)
skip_left f (suc d) i h =
    let e : suc d - 1 ≡ d = omega arith in
    ap (λ (x : ℕ). skip_body (skip_from f x) f (content_at f i)) e

-- the loop that skips an element
abbrev pub SkipTurn : List ℕ → ℕ → ℕ → ℕ → Type 0
SkipTurn f i left j = Turn (walk_items (skipping (skip_from f (left - 1)) f) f) (length f) j (skip_from f left i)

module _ (f : List ℕ) (i left : ℕ) (b : Body) (e : b ≡ content_at f i) (h : left ≡ 0 → ⊥) where
  pub skip_open : (o : ℕ) → b ≡ Body.Open o → SkipTurn f i left o
  unfolding skip_body
  skip_open o r =
      start (walk_items (skipping (skip_from f (left - 1)) f) f) (length f) o (skip_from f left i)
      (ap (skip_body (skip_from f (left - 1)) f) (sym r ∙ e) ∙ skip_left f left i h)

  pub skip_empty : (o : ℕ) → b ≡ Body.Empty o → o ≡ skip_from f left i
  unfolding skip_body
  skip_empty o r = ap (skip_body (skip_from f (left - 1)) f) (sym r ∙ e) ∙ skip_left f left i h

  pub skip_broken : b ≡ Body.Broken → length f ≡ skip_from f left i
  unfolding skip_body
  skip_broken r = ap (skip_body (skip_from f (left - 1)) f) (sym r ∙ e) ∙ skip_left f left i h

pub skip_none : (f : List ℕ) (left i : ℕ) → left ≡ 0 → length f ≡ skip_from f left i
unfolding skip_from
skip_none f left i h = rw h

-- an item that is no comment
abbrev pub Other : Item → Type 0
Other (Item.Text k) = Unit {0}
Other (Item.Remark k) = ⊥
Other Item.Child = Unit {0}
Other (Item.Close k) = Unit {0}
Other Item.Broken = Unit {0}

pub other_is : (r : Item) → ((m : ℕ) → r ≡ Item.Remark m → ⊥) → Other r
other_is (Item.Text k) h = tt
other_is (Item.Remark k) h = h k refl
other_is Item.Child h = tt
other_is (Item.Close k) h = tt
other_is Item.Broken h = tt

pub misc_other : (f : List ℕ) (n j : ℕ) (r : Item) → r ≡ item_at f (past is_blank f j) → Other r → misc_from f (suc n) j ≡ past is_blank f j
unfolding misc_from
misc_other f n j (Item.Text k) e p = rw (← e, misc_from)
misc_other f n j (Item.Remark k) e p = absurd p
misc_other f n j Item.Child e p = rw (← e, misc_from)
misc_other f n j (Item.Close k) e p = rw (← e, misc_from)
misc_other f n j Item.Broken e p = rw (← e, misc_from)

pub misc_remark : (f : List ℕ) (n j m : ℕ) → Item.Remark m ≡ item_at f (past is_blank f j) → misc_from f (suc n) j ≡ misc_from f n m
unfolding misc_from
misc_remark f n j m e = rw (← e, misc_from)

pub misc_over : (f : List ℕ) (j : ℕ) → length f ≤ j → (n : ℕ) → misc_from f n j ≡ j
unfolding misc_from
misc_over f j h zero = refl
misc_over f j h (suc n) =
    let e = span_end is_blank f j h in
    misc_other f n j Item.Broken (sym (ap (item_at f) e ∙ item_over f j h)) tt ∙ e

pub root_start : (f : List ℕ) (j : ℕ) → j ≡ prolog_end f → Turn (misc_from f) (length f) j (root_at f)
unfolding root_at
root_start f j e = start (misc_from f) (length f) j (root_at f) (ap (misc_from f (suc (length f))) e)

module _ (f : List ℕ) (j k : ℕ) (t : Turn (misc_from f) (length f) j (root_at f)) (e : k ≡ past is_blank f j) where
  pub root_again : j < length f → (m : ℕ) → Item.Remark m ≡ item_at f k → Turn (misc_from f) (length f) m (root_at f)
  root_again h m r =
      next (misc_from f) (length f) j (root_at f) (misc_from f) m t h
      (omega (arith, low_of is_blank f j k e, (item_from f k (Item.Remark m) r).0)) (λ n. misc_remark f n j m (r ∙ ap (item_at f) e))

  pub root_here : j < length f → (r : Item) → r ≡ item_at f k → Other r → k ≡ root_at f
  root_here h r q p = done (misc_from f) (length f) j (root_at f) k t h (λ n. misc_other f n j r (q ∙ ap (item_at f) e) p ∙ sym e)

pub root_over : (f : List ℕ) (j : ℕ) → Turn (misc_from f) (length f) j (root_at f) → length f ≤ j → j ≡ root_at f
root_over f j t h = over (misc_from f) (length f) j (root_at f) j t (misc_over f j h)
