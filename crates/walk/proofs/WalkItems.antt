-- What stands next in an element, from the derivation of its content.
use Prim.Native.Nat.{ℕ, zero, suc, ◌+◌}
use native.Mathlib.Omega.{arith}
use mathlib.Core.Path.{◌≡◌, refl, sym, ap, ◌∙◌, subst}
use mathlib.Core.List.{List, [], ◌∷◌, ◌++◌}
use mathlib.Core.Bool.{Bool, false}
use lib.ListN.{drop}
use lib.Seq.{slice}
use Rattle.text.specs.Kinds.{is_blank, is_start, is_digit, is_name, is_text}
use Rattle.shape.specs.Shape.{Node, Items, Run, Name, Comment, Content, ElementOf, Element}
use Rattle.walk.specs.declared.Item.{Item}
use Rattle.walk.specs.StandsCode.{Closing, texted}
use Rattle.walk.specs.WalkCode.{past, ahead, remark_end, item_at}
use Rattle.walk.proofs.Places.{here, ahead_in}
use Rattle.walk.proofs.WalkAnswers.{item_text_lem, item_close, item_remark, item_child}
use Rattle.walk.proofs.Runs.{apart, Stops, stops, run_law, on_one, on_two, name_run, Letter, letter, run_behind, blanks_stop, remark_law}

-- a text that starts as an element does
pub record Tagged (s : List ℕ) : Type 0 where
  pub rest : List ℕ
  pub is : s ≡ 60 ∷ rest
  pub name : Letter rest

named : {n s r : List ℕ} → Name n s r → Tagged (60 ∷ s)
named {s = s} x = record { rest = s; is = refl; name = letter x }

tagged_of : {size : ℕ} {E : Node → List ℕ → List ℕ → Type 0} {x : Node} {s r : List ℕ} → ElementOf size E x s r → Tagged s
tagged_of (ElementOf.empty n a w) = named n
tagged_of (ElementOf.full n a w c v) = named n

pub tagged : (size d : ℕ) (x : Node) (s r : List ℕ) → Element size d x s r → Tagged s
tagged size zero x s r y = absurd y
tagged size (suc d) x s r y = tagged_of y

text_no_tag : is_text 60 ≡ false
unfolding is_text
text_no_tag = refl

pub name_no_close : is_name 62 ≡ false
unfolding is_name is_start is_digit
name_no_close = refl

pub blank_no_close : is_blank 62 ≡ false
unfolding is_blank
blank_no_close = refl

pub start_no_slash : is_start 47 ≡ false
unfolding is_start
start_no_slash = refl

start_no_mark : is_start 33 ≡ false
unfolding is_start
start_no_mark = refl

pub comment_stop : {s r : List ℕ} (p : ℕ → Bool) → p 60 ≡ false → Comment s r → Stops p s
comment_stop p t (Comment.comment {s} x) = stops p 60 (33 ∷ 45 ∷ 45 ∷ s) t

pub tagged_stop : {s : List ℕ} (p : ℕ → Bool) → p 60 ≡ false → Tagged s → Stops p s
tagged_stop p t x = record { first = 60; rest = x.rest; is = x.is; stop = t }

pub comment_item : (f : List ℕ) (j : ℕ) {s t : List ℕ} → Comment s t → drop j f ≡ s
    → (k : ℕ) × (Item.Remark k ≡ item_at f j) × (drop k f ≡ t)
comment_item f j (Comment.comment x) e =
    let h = here f j e in
    let o = on_two f j e in
    let a = ahead f j 4 in
    let g : a ≡ j + 2 + 2 = ahead_in f j 4 (omega (arith, (here f (j + 2 + 1) (here f (j + 2) o).next).inner)) ∙ omega arith in
    let k = remark_end f (drop a f) a in (
      k,
      sym (item_remark f j 60 (sym h.byte) 33 (sym (here f (j + 1) h.next).byte) refl a k refl refl refl),
      remark_law f x refl a (ap (λ (m : ℕ). drop m f) g ∙ on_two f (j + 2) o),
    )

pub tagged_item : (f : List ℕ) (j : ℕ) {s : List ℕ} → Tagged s → drop j f ≡ s → Item.Child ≡ item_at f j
tagged_item f j g e =
    let h = here f j (e ∙ g.is) in
    let b = g.name.byte in
    let u = g.name.start in
    sym
    (item_child f j 60 (sym h.byte) b (sym (here f (j + 1) (h.next ∙ g.name.is)).byte) refl
    (apart is_start b 47 u start_no_slash) (apart is_start b 33 u start_no_mark))

module _ (E : Node → List ℕ → List ℕ → Type 0) (tag : (x : Node) (s r : List ℕ) → E x s r → Tagged s) where
  -- the text with which content starts, and the content behind it
  record Texts (i : Items) (s u : List ℕ) : Type 0 where
    word : List ℕ
    items : Items
    rest : List ℕ
    run : Run is_text word s rest
    is : i ≡ texted word items
    behind : Content E items rest u
    stop : Stops is_text rest

  texts : {i : Items} {s u : List ℕ} → Content E i s u → Stops is_text u → Texts i s u
  unfolding texted
  texts {s = s} Content.none y =
      record { word = []; items = Items.none; rest = s; run = Run.none; is = refl; behind = Content.none; stop = y }
  texts (Content.text {b} t c) y =
      let x = texts c y in
      record {
        word = b ∷ x.word;
        items = x.items;
        rest = x.rest;
        run = Run.more t x.run;
        is = ap (Items.text b) x.is;
        behind = x.behind;
        stop = x.stop;
      }
  texts (Content.remark {i} {s} c d) y =
      record {
        word = [];
        items = Items.remark i;
        rest = s;
        run = Run.none;
        is = refl;
        behind = Content.remark c d;
        stop = comment_stop is_text text_no_tag c;
      }
  texts (Content.child {x} {i} {s} {t} e d) y =
      record {
        word = [];
        items = Items.child x i;
        rest = s;
        run = Run.none;
        is = refl;
        behind = Content.child e d;
        stop = tagged_stop is_text text_no_tag (tag x s t e);
      }

  started : (b : ℕ) (i : Items) (w : List ℕ) (i' : Items) → i ≡ texted w i' → Items.text b i ≡ texted (b ∷ w) i'
  unfolding texted
  started b i w i' e = ap (Items.text b) e

  -- what an answer says of the content at j, r being what stands behind the element
  abbrev pub ItemIs : List ℕ → ℕ → Items → List ℕ → Item → Type 0
  ItemIs f j i r (Item.Text k) = (i' : Items) × (i ≡ texted (slice j k f) i') × Closing E i' (drop k f) r
  ItemIs f j i r (Item.Remark k) = (i' : Items) × (i ≡ Items.remark i') × Closing E i' (drop k f) r
  ItemIs f j i r Item.Child = (x : Node) × (i' : Items) × (t : List ℕ) × (i ≡ Items.child x i') × E x (drop j f) t × Closing E i' t r
  ItemIs f j i r (Item.Close k) = (i ≡ Items.none) × (drop k f ≡ r)
  ItemIs f j i r Item.Broken = ⊥

  module _ (f : List ℕ) (j : ℕ) (n a b v t r : List ℕ) (m : Name n a b) (z : Run is_blank v t (62 ∷ r)) where
    -- the end tag
    ends : drop j f ≡ 60 ∷ 47 ∷ n ++ t → ItemIs f j Items.none r (item_at f j)
    ends e =
        let h = here f j e in
        let p = run_law f (j + 2) (on_two f j e) (run_behind (name_run m) t) (blanks_stop z (stops is_name 62 r name_no_close)) in
        let q = run_law f (past is_name f (j + 2)) p.at z (stops is_blank 62 r blank_no_close) in
        subst (ItemIs f j Items.none r)
        (sym (item_close f j 60 (sym h.byte) 47 (sym (here f (j + 1) h.next).byte) refl _ _ _ refl refl refl refl))
        (refl, on_one f (past is_blank f (past is_name f (j + 2))) q.at)

    shut : (i : Items) {s u : List ℕ} → Content E i s u → u ≡ 60 ∷ 47 ∷ n ++ t → Closing E i s r
    shut i {s} c q = Closing.closing m (subst (λ (l : List ℕ). Content E i s l) q c) z

    item_content : {i : Items} {s u : List ℕ} → Content E i s u → u ≡ 60 ∷ 47 ∷ n ++ t → drop j f ≡ s → ItemIs f j i r (item_at f j)
    item_content Content.none q e = ends (e ∙ q)
    item_content (Content.text {b} {i} {s} {r = u} h c) q e =
        let x = texts c (record { first = 60; rest = 47 ∷ n ++ t; is = q; stop = text_no_tag }) in
        let p = run_law f j e (Run.more h x.run) x.stop in
        let k = past is_text f j in
        subst (ItemIs f j (Items.text b i) r)
        (sym (item_text_lem f j b (sym (here f j e).byte) k refl (apart is_text b 60 h text_no_tag) (omega (arith, p.size)))) (
          x.items,
          started b i x.word x.items x.is ∙ sym (ap (λ (w : List ℕ). texted w x.items) p.word),
          shut x.items (subst (λ (l : List ℕ). Content E x.items l u) (sym p.at) x.behind) q,
        )
    item_content (Content.remark {i} {r = u} y c) q e =
        let x = comment_item f j y e in
        subst (ItemIs f j (Items.remark i) r) x.1 (i, refl, shut i (subst (λ (l : List ℕ). Content E i l u) (sym x.2) c) q)
    item_content (Content.child {x} {i} {s} {t = o} y c) q e =
        subst (ItemIs f j (Items.child x i) r) (tagged_item f j (tag x s o y) e)
        (x, i, o, refl, subst (λ (l : List ℕ). E x l o) (sym e) y, shut i c q)

  pub item_is : (f : List ℕ) (j : ℕ) {i : Items} {s r : List ℕ} → Closing E i s r → drop j f ≡ s → ItemIs f j i r (item_at f j)
  item_is f j (Closing.closing {n = n} {a} {b} {v} {t = t} {r = r} m c z) e = item_content f j n a b v t r m z c refl e
