-- One law for each way in which a function without a loop answers. A byte or an offset that a callee gave is a variable with its equation.
use Prim.Native.Nat.{ℕ, suc, ◌+◌, ◌≤◌, ◌<◌}
use native.Mathlib.Omega.{arith}
use mathlib.Core.Path.{◌≡◌}
use mathlib.Core.List.{List}
use mathlib.Core.Bool.{true, false}
use borrow.Author.Tests.{eq-eqb, ne_eqb, lt-ltb, le-ltb}
use lib.Dec.{eqb}
use lib.ListN.{length, get_or, drop}
use Rattle.text.specs.Kinds.{is_blank, is_start, is_name, is_decl, is_value, is_text}
use Rattle.walk.specs.declared.TagPart.{TagPart}
use Rattle.walk.specs.declared.Item.{Item}
use Rattle.walk.specs.WalkCode.{past, ahead, closes_remark, remark_end, attribute_at, part_from, part_at, markup_at, text_item, item_at, prolog_end}
use Rattle.walk.proofs.Places.{inside}

-- a byte that was read and is not 0 stands in the file
pub read_inside : (f : List ℕ) (i b c : ℕ) → b ≡ get_or f i 0 → b ≡ suc c → i < length f
read_inside f i b c e h = inside f i (omega arith)

module _ (f : List ℕ) (i b : ℕ) (e : b ≡ get_or f i 0) where
  pub closing_first : (b ≡ 45 → ⊥) → closes_remark f i ≡ false
  unfolding closes_remark
  closing_first h = rw (← e, ne_eqb _ _ h)

  module _ (c : ℕ) (g : c ≡ get_or f (i + 1) 0) (h : b ≡ 45) where
    pub closing_second : (c ≡ 45 → ⊥) → closes_remark f i ≡ false
    unfolding closes_remark
    closing_second k = rw (← e, ← g, eq-eqb _ _ h, ne_eqb _ _ k)

    pub closing_third : (d : ℕ) → d ≡ get_or f (i + 2) 0 → c ≡ 45 → closes_remark f i ≡ eqb d 62
    unfolding closes_remark
    closing_third d k l = rw (← e, ← g, ← k, eq-eqb _ _ h, eq-eqb _ _ l)

module _ (f : List ℕ) (a e q b v c k : ℕ) (he : e ≡ past is_name f a) (hq : q ≡ past is_blank f e) (hb : b ≡ ahead f q 1)
    (hv : v ≡ past is_blank f b) (hc : c ≡ ahead f v 1) (hk : k ≡ past is_value f c) where
  pub attribute_closed : k < length f → attribute_at f a ≡ TagPart.Attribute a e c k
  unfolding attribute_at
  attribute_closed h = rw (← he, ← hq, ← hb, ← hv, ← hc, ← hk, lt-ltb _ _ h)

  pub attribute_broken : length f ≤ k → attribute_at f a ≡ TagPart.Broken
  unfolding attribute_at
  attribute_broken h = rw (← he, ← hq, ← hb, ← hv, ← hc, ← hk, le-ltb _ _ h)

module _ (f : List ℕ) (i a b : ℕ) (ha : a ≡ past is_blank f i) (hb : b ≡ get_or f a 0) where
  pub part_open : b ≡ 62 → part_at f i ≡ TagPart.Open (a + 1)
  unfolding part_at part_from
  part_open h = rw (← ha, ← hb, eq-eqb _ _ h)

  pub part_empty : (e : ℕ) → e ≡ ahead f a 2 → b ≡ 47 → part_at f i ≡ TagPart.Empty e
  unfolding part_at part_from
  part_empty e he h = rw (← ha, ← hb, h, ← he)

  pub part_attribute : (b ≡ 62 → ⊥) → (b ≡ 47 → ⊥) → is_start b ≡ true → part_at f i ≡ attribute_at f a
  unfolding part_at part_from
  part_attribute h k t = rw (← ha, ← hb, ne_eqb _ _ h, ne_eqb _ _ k, t)

  pub part_broken : (b ≡ 62 → ⊥) → (b ≡ 47 → ⊥) → is_start b ≡ false → part_at f i ≡ TagPart.Broken
  unfolding part_at part_from
  part_broken h k t = rw (← ha, ← hb, ne_eqb _ _ h, ne_eqb _ _ k, t)

module _ (f : List ℕ) (i b : ℕ) (hb : b ≡ get_or f i 0) where
  pub item_text_lem : (e : ℕ) → e ≡ past is_text f i → (b ≡ 60 → ⊥) → i < e → item_at f i ≡ Item.Text e
  unfolding item_at text_item
  item_text_lem e he h l = rw (← hb, ← he, ne_eqb _ _ h, lt-ltb _ _ l)

  pub item_broken : (e : ℕ) → e ≡ past is_text f i → (b ≡ 60 → ⊥) → e ≤ i → item_at f i ≡ Item.Broken
  unfolding item_at text_item
  item_broken e he h l = rw (← hb, ← he, ne_eqb _ _ h, le-ltb _ _ l)

  module _ (c : ℕ) (hc : c ≡ get_or f (i + 1) 0) (h : b ≡ 60) where
    pub item_close : (n q k : ℕ) → n ≡ past is_name f (i + 2) → q ≡ past is_blank f n → k ≡ ahead f q 1 → c ≡ 47 → item_at f i ≡ Item.Close k
    unfolding item_at markup_at
    item_close n q k hn hq hk g = rw (← hb, ← hc, h, g, ← hn, ← hq, ← hk)

    pub item_remark : (s k : ℕ) → s ≡ ahead f i 4 → k ≡ remark_end f (drop s f) s → c ≡ 33 → item_at f i ≡ Item.Remark k
    unfolding item_at markup_at
    item_remark s k hs hk g = rw (← hb, ← hc, h, g, ← hs, ← hk)

    pub item_child : (c ≡ 47 → ⊥) → (c ≡ 33 → ⊥) → item_at f i ≡ Item.Child
    unfolding item_at markup_at
    item_child g k = rw (← hb, ← hc, h, ne_eqb _ _ g, ne_eqb _ _ k)

module _ (f : List ℕ) (b : ℕ) (hb : b ≡ get_or f 0 0) where
  pub prolog_first : (b ≡ 60 → ⊥) → prolog_end f ≡ 0
  unfolding prolog_end
  prolog_first h = rw (← hb, ne_eqb _ _ h)

  pub prolog_second : (c : ℕ) → c ≡ get_or f 1 0 → b ≡ 60 → (c ≡ 63 → ⊥) → prolog_end f ≡ 0
  unfolding prolog_end
  prolog_second c hc h k = rw (← hb, ← hc, h, ne_eqb _ _ k)

  pub prolog_third : (c d : ℕ) → c ≡ get_or f 1 0 → b ≡ 60 → c ≡ 63 → d ≡ past is_decl f 2 → prolog_end f ≡ ahead f d 2
  unfolding prolog_end
  prolog_third c d hc h k hd = rw (← hb, ← hc, h, k, hd)
