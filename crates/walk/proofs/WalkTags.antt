-- What stands next in a start tag, from its derivation; and the start of an element.
use Prim.Native.Nat.{ℕ, zero, suc, ◌+◌, ◌-◌, ◌<◌}
use native.Mathlib.Omega.{arith}
use mathlib.Core.Path.{◌≡◌, refl, sym, ap, ◌∙◌, subst}
use mathlib.Core.List.{List, [], ◌∷◌}
use mathlib.Core.Bool.{false}
use lib.ListN.{length, drop, length-drop}
use lib.Seq.{slice}
use Rattle.text.specs.Kinds.{is_blank, is_start, is_digit, is_name, is_value}
use Rattle.shape.specs.Shape.{Attribute, Node, node, Items, Run, Name, Attributes, Spelled, ElementOf}
use Rattle.walk.specs.declared.TagPart.{TagPart}
use Rattle.walk.specs.declared.Body.{Body}
use Rattle.walk.specs.StandsCode.{Closing, Tail}
use Rattle.walk.specs.WalkCode.{past, ahead, attribute_at, part_at, name_at, content_from}
use Rattle.walk.proofs.Places.{here, ahead_in}
use Rattle.walk.proofs.WalkAnswers.{attribute_closed, part_open, part_empty, part_attribute}
use Rattle.walk.proofs.Bounds.{part_from_lem, part_over}
use Rattle.walk.proofs.Turns.{content_next, content_open, content_empty}
use Rattle.walk.proofs.Runs.{apart, Stops, stops, run_law, on_one, on_two, name_run, letter, letter_stops, blanks_stop, attributes_stop}
use Rattle.walk.proofs.WalkItems.{name_no_close, blank_no_close, start_no_slash}

start_no_close : is_start 62 ≡ false
unfolding is_start
start_no_close = refl

name_no_slash : is_name 47 ≡ false
unfolding is_name is_start is_digit
name_no_slash = refl

name_no_equal : is_name 61 ≡ false
unfolding is_name is_start is_digit
name_no_equal = refl

blank_no_slash : is_blank 47 ≡ false
unfolding is_blank
blank_no_slash = refl

blank_no_equal : is_blank 61 ≡ false
unfolding is_blank
blank_no_equal = refl

blank_no_quote : is_blank 34 ≡ false
unfolding is_blank
blank_no_quote = refl

value_no_quote : is_value 34 ≡ false
unfolding is_value
value_no_quote = refl

-- an attribute from its name on
record Read (f : List ℕ) (a : ℕ) (n v r : List ℕ) : Type 0 where
  end : ℕ
  from : ℕ
  close : ℕ
  is : attribute_at f a ≡ TagPart.Attribute a end from close
  name : slice a end f ≡ n
  value : slice from close f ≡ v
  behind : drop (close + 1) f ≡ r

read : (f : List ℕ) (a : ℕ) {n v w₂ w₃ s₂ s₃ s₄ s₅ r : List ℕ} → drop a f ≡ s₂ → Name n s₂ s₃ → Run is_blank w₂ s₃ (61 ∷ s₄)
    → Run is_blank w₃ s₄ (34 ∷ s₅) → Run is_value v s₅ (34 ∷ r) → Read f a n v r
read f a {s₄ = s₄} {s₅} {r} x m y z u =
    let e = past is_name f a in
    let q = past is_blank f e in
    let b = ahead f q 1 in
    let p = past is_blank f b in
    let c = ahead f p 1 in
    let k = past is_value f c in
    let h₁ = run_law f a x (name_run m) (blanks_stop y (stops is_name 61 s₄ name_no_equal)) in
    let h₂ = run_law f e h₁.at y (stops is_blank 61 s₄ blank_no_equal) in
    let h₃ = run_law f b (on_one f q h₂.at) z (stops is_blank 34 s₅ blank_no_quote) in
    let h₄ = run_law f c (on_one f p h₃.at) u (stops is_value 34 r value_no_quote) in
    let l = here f k h₄.at in
    record {
      end = e;
      from = c;
      close = k;
      is = attribute_closed f a e q b p c k refl refl refl refl refl refl l.inner;
      name = h₁.word;
      value = h₄.word;
      behind = l.next;
    }

module _ (E : Node → List ℕ → List ℕ → Type 0) where
  -- what an answer says of the start tag at j, r being what stands behind the element
  abbrev pub PartIs : List ℕ → ℕ → List Attribute → Items → List ℕ → TagPart → Type 0
  PartIs f j l i r (TagPart.Attribute a e c k) =
      (l' : List Attribute) × (m : List ℕ) × (l ≡ (let p : Attribute = record { name = slice a e f; value = slice c k f } in p) ∷ l')
      × Attributes l' (drop (k + 1) f) m × Tail E i m r
  PartIs f j l i r (TagPart.Open o) = (l ≡ []) × Closing E i (drop o f) r
  PartIs f j l i r (TagPart.Empty o) = (l ≡ []) × (i ≡ Items.none) × (drop o f ≡ r)
  PartIs f j l i r TagPart.Broken = ⊥

  -- behind the last attribute
  tail_is : (f : List ℕ) (j : ℕ) {i : Items} {s r : List ℕ} → Tail E i s r → drop j f ≡ s → PartIs f j [] i r (part_at f j)
  tail_is f j (Tail.empty {r = r} z) e =
      let a = past is_blank f j in
      let h = run_law f j e z (stops is_blank 47 (62 ∷ r) blank_no_slash) in
      let b = here f a h.at in
      let o : ahead f a 2 ≡ a + 2 = ahead_in f a 2 (omega (arith, (here f (a + 1) b.next).inner)) in
      subst (PartIs f j [] Items.none r) (sym (part_empty f j a 47 refl (sym b.byte) (ahead f a 2) refl refl))
      (refl, refl, ap (λ (k : ℕ). drop k f) o ∙ on_two f a h.at)
  tail_is f j (Tail.full {i} {t = t} {r} z c) e =
      let a = past is_blank f j in
      let h = run_law f j e z (stops is_blank 62 t blank_no_close) in
      let b = here f a h.at in
      subst (PartIs f j [] i r) (sym (part_open f j a 62 refl (sym b.byte) refl))
      (refl, subst (λ (l : List ℕ). Closing E i l r) (sym b.next) c)

  pub part_is : (f : List ℕ) (j : ℕ) {l : List Attribute} {i : Items} {s m r : List ℕ} → Attributes l s m → Tail E i m r → drop j f ≡ s
      → PartIs f j l i r (part_at f j)
  part_is f j Attributes.none z e = tail_is f j z e
  part_is f j {i = i} {m = m} {r} (Attributes.more {l = l} {t = t} (Spelled.attribute {n = n} {v} {s₂ = s₂} bl w x y u q) g) z e =
      let a = past is_blank f j in
      let h = run_law f j e (Run.more bl w) (letter_stops (letter x)) in
      let c = letter x in
      let b = here f a (h.at ∙ c.is) in
      let k = read f a h.at x y u q in
      subst (PartIs f j (_ ∷ l) i r)
      (sym (part_attribute f j a c.byte refl (sym b.byte) (apart is_start c.byte 62 c.start start_no_close)
      (apart is_start c.byte 47 c.start start_no_slash) c.start ∙ k.is))
      (l, m, rw (k.name, k.value) refl, subst (λ (o : List ℕ). Attributes l o m) (sym k.behind) g, z)

  -- what is behind a whole start tag
  abbrev pub BodyIs : List ℕ → Items → List ℕ → Body → Type 0
  BodyIs f i r (Body.Open o) = Closing E i (drop o f) r
  BodyIs f i r (Body.Empty e) = (i ≡ Items.none) × (drop e f ≡ r)
  BodyIs f i r Body.Broken = ⊥

  pub body_is : (f : List ℕ) (n j : ℕ) {l : List Attribute} {i : Items} {s m r : List ℕ} → Attributes l s m → Tail E i m r → drop j f ≡ s
      → length f < n + j → BodyIs f i r (content_from f n j)
  body_is f zero j {l} {i} {r = r} g z e h = absurd (subst (PartIs f j l i r) (part_over f j (omega arith)) (part_is f j g z e))
  body_is f (suc n) j {l} {i} {r = r} g z e h =
      by_part (part_at f j) refl (part_is f j g z e) (λ k l' m g' z' h'. body_is f n k g' z' refl h')
    where
      by_part : (p : TagPart) → p ≡ part_at f j → PartIs f j l i r p
          → ((k : ℕ) (l' : List Attribute) (m : List ℕ) → Attributes l' (drop k f) m → Tail E i m r → length f < n + k
          → BodyIs f i r (content_from f n k)) → BodyIs f i r (content_from f (suc n) j)
      by_part (TagPart.Attribute a e c k) q x next =
          let b = part_from_lem f j (TagPart.Attribute a e c k) q in
          subst (BodyIs f i r) (sym (content_next f j n a e c k (sym q)))
          (next (k + 1) x.0 x.1 x.3 x.4 (omega (arith, b.0, b.1, b.2, b.3)))
      by_part (TagPart.Open o) q x next = subst (BodyIs f i r) (sym (content_open f j n o (sym q))) x.1
      by_part (TagPart.Empty o) q x next = subst (BodyIs f i r) (sym (content_empty f j n o (sym q))) (x.1, x.2)
      by_part TagPart.Broken q x next = absurd x

  -- an element: its place, its name, and its start tag behind the name
  abbrev pub NodeIs : List ℕ → ℕ → List ℕ → Node → Type 0
  NodeIs f i r (node p n l k) = (p ≡ i) × (n ≡ slice (name_at f i).from (name_at f i).to f) × (m : List ℕ)
      × Attributes l (drop (name_at f i).to f) m × Tail E k m r

  node_part : (f : List ℕ) (i : ℕ) {l : List Attribute} {k : Items} {n s s₁ m r : List ℕ} → drop i f ≡ 60 ∷ s → Name n s s₁
      → Attributes l s₁ m → Stops is_name m → Tail E k m r
      → NodeIs f i r (node (length f - length (60 ∷ s)) n l k)
  unfolding name_at
  node_part f i {l} {s = s} {m = m} e x g y z =
      let h = here f i e in
      let a = run_law f (ahead f i 1) (on_one f i e) (name_run x) (attributes_stop g y) in
      (omega (arith, h.inner, length-drop i f, ap length e), sym a.word, m, subst (λ (o : List ℕ). Attributes l o m) (sym a.at) g, z)

  pub node_is : (f : List ℕ) (i : ℕ) {x : Node} {s r : List ℕ} → ElementOf (length f) E x s r → drop i f ≡ s → NodeIs f i r x
  node_is f i (ElementOf.empty {r = r} n g w) e =
      node_part f i e n g (blanks_stop w (stops is_name 47 (62 ∷ r) name_no_slash)) (Tail.empty w)
  node_is f i (ElementOf.full {s₃ = t} n g w c v) e =
      node_part f i e n g (blanks_stop w (stops is_name 62 t name_no_close)) (Tail.full w (Closing.closing n c v))
