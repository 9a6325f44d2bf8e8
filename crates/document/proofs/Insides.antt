-- The loop over what an element holds, in a file of good shape: where the element ends, and whether stray text stands in it.
use Prim.Native.Nat.{ℕ, zero, suc, ◌-◌, ◌≤◌, ◌<◌}
use native.Mathlib.Omega.{arith}
use mathlib.Core.Path.{◌≡◌, refl, sym, ap, ◌∙◌, subst}
use mathlib.Core.List.{List, ◌++◌}
use mathlib.Core.Bool.{Bool, true, false, ◌||◌, or-true, or-false}
use lib.ListN.{length, get_or}
use lib.Seq.{slice}
use Rattle.text.specs.Kinds.{is_blank, is_text}
use Rattle.text.proofs.Spans.{span_here, span_end, span_low, low_of, stop_of, wider_of}
use Rattle.text.proofs.Chains.{blank_text}
use Rattle.lists.proofs.Cases.{le_or_lt}
use Rattle.shape.specs.Shape.{Node, node, Items}
use Rattle.walk.specs.declared.Item.{Item}
use Rattle.walk.specs.declared.Body.{Body}
use Rattle.shape.specs.Text.{joined}
use Rattle.shape.proofs.Bytes.{text_60}
use Rattle.walk.specs.StandsCode.{ElementAt, ContentStands}
use Rattle.walk.specs.WalkCode.{past, item_at, content_at, skipped, walk_items, texting, inner_start, text_in, text_at, stray}
use Rattle.walk.proofs.Bounds.{item_over, item_from}
use Rattle.walk.proofs.WalkAnswers.{item_text_lem}
use Rattle.walk.proofs.Turns as walks
use Rattle.walk.proofs.WalkLaws.{BodyTold, content_law, item_law, skip_law, text_law, element_deep}
use Rattle.walk.proofs.Strays.{StrayTurn, stray_start, stray_blank, stray_found}
use Rattle.document.specs.declared.Inside.{Inside}
use Rattle.document.specs.declared.Seen.{Seen}
use Rattle.document.specs.declared.Walk.{Walk}
use Rattle.document.specs.DocumentCode.{FoundSoFar, none_seen, marked, is_over, closed_walk, child_at, visit_body, visit_from, found, Sound, Ready, InsideIs}
use Rattle.document.proofs.Turns.{VisitTurn, on_text, on_remark, on_child, on_close, inside_open, inside_empty}

-- ---- the element that is visited
pub ready_deep : (f : List ℕ) (d : ℕ) (w : Walk) (ms : List ℕ) → Ready f d w ms → d ≡ 0 → ⊥
ready_deep f zero w ms z e = element_deep f w.at z.node z.end z.stands
ready_deep f (suc d) w ms z e = absurd (omega arith)

-- for what it holds there is one level less
pub ready_inside : (f : List ℕ) (d : ℕ) (w v : Walk) (ms ms' : List ℕ) → Ready f d w ms → v.at ≡ w.at → length ms' ≡ length ms
    → Sound v.end ms' → Ready f (suc (d - 1)) v ms'
ready_inside f d w v ms ms' z p l s =
    let n = ready_deep f d w ms z in
    let e : suc (d - 1) ≡ d = omega arith in
    rw e (record { room = l ∙ z.room; short = z.short; shallow = z.shallow; node = z.node; end = z.end; stands = rw p z.stands; sound = s })

pub inside_moved : (f : List ℕ) (left : ℕ) (k : ℕ) (r : FoundSoFar) (v : Inside) (ms : List ℕ) (i i' : ℕ) → i ≡ i'
    → InsideIs f i (visit_body (visit_from f left) f k r (content_at f i)) v ms
    → InsideIs f i' (visit_body (visit_from f left) f k r (content_at f i')) v ms
inside_moved f left k r v ms i i' e x = subst (λ (a : ℕ). InsideIs f a (visit_body (visit_from f left) f k r (content_at f a)) v ms) e x

body_told : (f : List ℕ) (d i : ℕ) (x : Node) (e : ℕ) → ElementAt f (suc d) i x e → (b : Body) → b ≡ content_at f i
    → (k : Items) × BodyTold f d k e b
body_told f d i (node p n l k) e y b q = (k, content_law f d i p n l k e y b q)

empty_told : (f : List ℕ) (d i : ℕ) (x : Node) (e : ℕ) → ElementAt f (suc d) i x e → suc d ≤ 8 → (o : ℕ) → Body.Empty o ≡ content_at f i
    → (o ≡ e) × (false ≡ stray (text_at f i))
unfolding joined stray
empty_told f d i (node p n l k) e y h o q =
    let t = content_law f d i p n l k e y (Body.Empty o) q in
    (t.1, sym (ap stray (text_law f (suc d) i p n l k e y h ∙ ap joined t.0)))

-- the loop's invariant: from here the answer is the whole one, the element goes on to its end, and the text from here on is stray, or the
-- flag is set, if the whole text is
pub record Inner (f : List ℕ) (left i : ℕ) (q : ℕ) (j : ℕ) (s : Seen) (r : FoundSoFar) (b : Bool) (whole : FoundSoFar) : Type 0 where
  pub turn : VisitTurn f left q j s r whole
  pub items : Items
  pub stands : ContentStands f left j items (skipped f i)
  pub strays : walks.Turn (λ n m. b || stray (walk_items (texting f) f n m)) (length f) j (stray (text_at f i))

module _ (f : List ℕ) (left : ℕ) (walk : Walk) (ms : List ℕ) (z : Ready f (suc left) walk ms) where
  abbrev i : ℕ
  i = walk.at

  end_is : skipped f i ≡ z.end
  end_is = skip_law f (suc left) i z.node z.end z.stands z.shallow

  pub inner_start_lem : (o j : ℕ) (k : ℕ) (s : Seen) (r : FoundSoFar) → content_at f i ≡ Body.Open o → j ≡ o → s ≡ none_seen
      → Inner f left i k j s r false (visit_body (visit_from f left) f k r (content_at f i))
  unfolding inner_start text_at
  inner_start_lem o j k s r e p y =
      let t = body_told f left i z.node z.end z.stands (Body.Open o) (sym e) in
      rw p
      record {
        turn = inside_open f i left k r (Body.Open o) (sym e) o s refl y;
        items = t.0;
        stands = rw end_is t.1;
        strays = subst (λ (c : Body). StrayTurn f (stray (text_in f c)) o) (sym e) (stray_start f o);
      }

  -- an element without content
  pub empty_leaves : (o : ℕ) (k : ℕ) (s : Seen) (r : FoundSoFar) (v : Inside) (ms' : List ℕ) → Body.Empty o ≡ content_at f i
      → s ≡ none_seen → found v.walk ms' ≡ closed_walk r k s → v.walk.at ≡ o → v.stray ≡ false → Sound v.walk.end ms'
      → InsideIs f i (visit_body (visit_from f left) f k r (content_at f i)) v ms'
  empty_leaves o k s r v ms' e y w g b x =
      let t = empty_told f left i z.node z.end z.stands z.shallow o e in
      record {
        walks = inside_empty f i left k r (Body.Empty o) e o s (found v.walk ms') refl y w;
        ends = g ∙ (t.0 ∙ sym end_is);
        strays = b ∙ t.1;
        sound = x;
      }

  pub broken_none : Body.Broken ≡ content_at f i → ⊥
  broken_none e = (body_told f left i z.node z.end z.stands Body.Broken e).1

-- ---- blanks are passed: what stands behind them
text_item_lem : (f : List ℕ) (j k : ℕ) → k ≡ past is_text f j → j < k → Item.Text k ≡ item_at f j
text_item_lem f j k e h =
    sym (item_text_lem f j (get_or f j 0) refl k e
    (λ z. le_or_lt (length f) j
    (λ l. absurd (omega (arith, span_end is_text f j l)))
    (λ l. absurd (omega (arith, span_here is_text f j l (ap is_text z ∙ text_60))))) h)

-- there are none, or they are a whole text, or the text goes on behind them
blanks_item : {A : Type 0} (f : List ℕ) (j e : ℕ) → e ≡ past is_blank f j → (e ≡ j → A) → (Item.Text e ≡ item_at f j → A)
    → ((k : ℕ) → e < k → Item.Text k ≡ item_at f j → Item.Text k ≡ item_at f e → A) → A
blanks_item f j e x none whole on =
    let k = past is_text f e in
    let w : k ≡ past is_text f j = wider_of is_blank f j e x is_text blank_text in
    let l = low_of is_blank f j e x in
    let m = span_low is_text f e in
    le_or_lt e j
    (λ h. none (omega arith))
    (λ h. le_or_lt k e
    (λ g. whole (text_item_lem f j e (omega arith) h))
    (λ g. on k g (text_item_lem f j k w (omega arith)) (text_item_lem f e k refl g)))

-- the steps of the loop, by what stands next
module _ (f : List ℕ) (left i : ℕ) (q : ℕ) (j : ℕ) (s : Seen) (r : FoundSoFar) (b : Bool) (whole : FoundSoFar)
    (z : Inner f left i q j s r b whole) where
  pub inner_over : length f ≤ j → ⊥
  inner_over h = item_law f left j z.items (skipped f i) z.stands Item.Broken (sym (item_over f j h))

  pub inner_broken : Item.Broken ≡ item_at f j → ⊥
  inner_broken e = item_law f left j z.items (skipped f i) z.stands Item.Broken e

  within : j < length f
  within = le_or_lt (length f) j (λ h. absurd (inner_over h)) (λ h. h)

  abbrev flagged : List ℕ → Bool
  flagged a = b || stray a

  -- c is the flag behind the text
  inner_text : (k : ℕ) (c : Bool) → Item.Text k ≡ item_at f j → ((a : List ℕ) → (b || stray (slice j k f ++ a)) ≡ (c || stray a))
      → Inner f left i q k s r c whole
  inner_text k c p x =
      let t = item_law f left j z.items (skipped f i) z.stands (Item.Text k) p in
      record {
        turn = on_text f left q j s r whole z.turn within k p;
        items = t.0;
        stands = t.2;
        strays = walks.on_text (texting f) f flagged j (stray (text_at f i)) z.strays (λ a. c || stray a) k within p x;
      }

  inner_stray : (k : ℕ) → Item.Text k ≡ item_at f j → past is_blank f j < k → Inner f left i q k s r true whole
  inner_stray k p h =
      inner_text k true p
      (λ a. ap (λ (c : Bool). b || c) (stray_found f k (item_from f j (Item.Text k) p).1 a j h) ∙ or-true b)

  inner_blank : (k : ℕ) → Item.Text k ≡ item_at f j → k ≤ past is_blank f j → Inner f left i q k s r b whole
  inner_blank k p h =
      inner_text k b p (λ a. ap (λ (c : Bool). b || c) (stray_blank f k (item_from f j (Item.Text k) p).1 a j h))

  pub inner_remark : (k : ℕ) → Item.Remark k ≡ item_at f j → Inner f left i q k s r b whole
  inner_remark k p =
      let t = item_law f left j z.items (skipped f i) z.stands (Item.Remark k) p in
      record {
        turn = on_remark f left q j s r whole z.turn within k p;
        items = t.0;
        stands = t.2;
        strays = walks.on_remark (texting f) f flagged j (stray (text_at f i)) z.strays k within p;
      }

  -- a child may be visited
  pub child_ready : (v w : Walk) (ms ms' : List ℕ) → Ready f (suc left) v ms → length ms' ≡ length ms → Item.Child ≡ item_at f j → w.at ≡ j
      → Sound w.end ms' → Ready f left w ms'
  child_ready v w ms ms' y l p h x =
      let t = item_law f left j z.items (skipped f i) z.stands Item.Child p in
      let d = y.shallow in
      record { room = l ∙ y.room; short = y.short; shallow = omega arith; node = t.0; end = t.2; stands = rw h t.4; sound = x }

  -- c is the child's kind, o whether it is one too many, v what its visit gave, m the marks then, k behind it
  pub inner_child : suc left ≤ 8 → (c : ℕ) (o : Bool) (v : FoundSoFar) (m : Seen) (k : ℕ) → Item.Child ≡ item_at f j → c ≡ child_at f j q
      → o ≡ is_over q c s → v ≡ visit_from f left j c o r → m ≡ marked s c → k ≡ skipped f j → Inner f left i q k m v b whole
  inner_child y c o v m k p x₁ x₂ x₃ x₄ x₅ =
      let t = item_law f left j z.items (skipped f i) z.stands Item.Child p in
      let e : k ≡ t.2 = x₅ ∙ skip_law f left j t.0 t.2 t.4 (omega arith) in
      let g = t.4.before in
      record {
        turn = on_child f left q j s r whole z.turn within c o v m k p x₁ x₂ x₃ x₄ x₅;
        items = t.1;
        stands = rw e t.5;
        strays = walks.on_child (texting f) f flagged j (stray (text_at f i)) z.strays k within p x₅ (omega (arith, e, g));
      }

  -- at the end tag, behind which k is
  pub inner_leaves : (k : ℕ) (v : Inside) (ms : List ℕ) (r' : FoundSoFar) → Item.Close k ≡ item_at f j
      → found v.walk ms ≡ closed_walk r q s → v.walk.at ≡ k → v.stray ≡ b → Sound v.walk.end ms → whole ≡ r' → InsideIs f i r' v ms
  unfolding stray
  inner_leaves k v ms r' p w g y z₂ x =
      let t = item_law f left j z.items (skipped f i) z.stands (Item.Close k) p in
      record {
        walks = on_close f left q j s r whole z.turn within k (found v.walk ms) p w ∙ x;
        ends = g ∙ t.1;
        strays = y ∙ (sym (or-false b) ∙ walks.on_close (texting f) f flagged j (stray (text_at f i)) z.strays k within p);
        sound = z₂;
      }

-- behind the blanks: text is stray, and before anything else nothing was passed over
module _ (f : List ℕ) (left i q : ℕ) (s : Seen) (r : FoundSoFar) (b : Bool) (whole : FoundSoFar) (e : ℕ) where
  abbrev Passed : Item → Type 0
  Passed (Item.Text k) = Inner f left i q k s r true whole
  Passed (Item.Remark k) = Inner f left i q e s r b whole
  Passed Item.Child = Inner f left i q e s r b whole
  Passed (Item.Close k) = Inner f left i q e s r b whole
  Passed Item.Broken = Inner f left i q e s r b whole

  passed_by : past is_blank f e ≡ e → Inner f left i q e s r b whole → (p : Item) → p ≡ item_at f e → Passed p
  passed_by x z (Item.Text k) y = inner_stray f left i q e s r b whole z k y (omega (arith, x, (item_from f e (Item.Text k) y).0))
  passed_by x z (Item.Remark k) y = z
  passed_by x z Item.Child y = z
  passed_by x z (Item.Close k) y = z
  passed_by x z Item.Broken y = z

  pub inner_passed : (j : ℕ) → Inner f left i q j s r b whole → e ≡ past is_blank f j → (p : Item) → p ≡ item_at f e → Passed p
  inner_passed j z x p y =
      let n : past is_blank f e ≡ e =
      le_or_lt (length f) e (span_end is_blank f e) (λ h. span_here is_blank f e h (stop_of is_blank f j e x h)) in
      blanks_item f j e x
      (λ h. passed_by n (subst (λ (k : ℕ). Inner f left i q k s r b whole) (sym h) z) p y)
      (λ t. passed_by n (inner_blank f left i q j s r b whole z e t (omega (arith, x))) p y)
      (λ k h t u. subst Passed (u ∙ sym y) (inner_stray f left i q j s r b whole z k t (omega (arith, x, h))))
