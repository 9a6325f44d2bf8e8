-- At most one doc is spelled by a text: each rule of the grammar reads a text in one way, so that what is read and what stands behind it
-- are settled. Each law takes two readings of equal texts, and gives equations of what was read and of the rests.
use Prim.Native.Nat.{ℕ, zero, suc, ◌-◌}
use mathlib.Core.Path.{◌≡◌, refl, sym, ap, ◌∙◌, subst}
use mathlib.Core.List.{List, [], ◌∷◌, ◌++◌}
use mathlib.Core.Bool.{Bool, true, false, true≢false}
use lib.ListN.{length}
use lib.Dec.{eqb}
use borrow.Author.Tests.{eq-eqb, eqb-false}
use Rattle.text.specs.Texts.{◌▹◌}
use Rattle.text.specs.Kinds.{among, is_blank, is_start, is_name, is_text}
use Rattle.shape.specs.Shape.{Node, node, Attribute, Items, Run, Name, Spelled, Attributes, Remark, Comment, Content, ElementOf, Element, Misc, Prolog, WellShaped}
use Rattle.shape.proofs.Bytes.{kind_not, blank_not_name, start_is_name, start_not_blank, blank_34, blank_47, blank_60, blank_61, blank_62, name_47, name_61, name_62, start_33, start_47, start_63, value_34, text_60, decl_63}

-- no byte of the kind stands first
abbrev pub Stops : (ℕ → Bool) → List ℕ → Type 0
Stops p [] = Unit {0}
Stops p (b ∷ s) = p b ≡ false

-- equations of texts, taken apart
abbrev first : List ℕ → ℕ
first [] = 0
first (b ∷ s) = b

abbrev behind : List ℕ → List ℕ
behind [] = []
behind (b ∷ s) = s

same_first : {b c : ℕ} {s t : List ℕ} → b ∷ s ≡ c ∷ t → b ≡ c
same_first e = ap first e

same_rest : {b c : ℕ} {s t : List ℕ} → b ∷ s ≡ c ∷ t → s ≡ t
same_rest e = ap behind e

same_cons : {A : Type 0} {a b : A} {s t : List A} → a ≡ b → s ≡ t → a ∷ s ≡ b ∷ t
same_cons e f = cc

append_cancel : (n : List ℕ) {s t : List ℕ} → n ++ s ≡ n ++ t → s ≡ t
append_cancel [] e = e
append_cancel (b ∷ n) e = append_cancel n (same_rest e)

clash : {A : Type 0} {t : Bool} → t ≡ true → t ≡ false → A
clash e f = absurd (true≢false (sym e ∙ f))

-- bytes of one kind
run_here : {p : ℕ → Bool} {w w' s r r' : List ℕ} → Run p w s r → Run p w' s r' → Stops p r → Stops p r' → (w ≡ w') × (r ≡ r')
run_here Run.none Run.none h g = (refl, refl)
run_here Run.none (Run.more t m) h g = clash t h
run_here (Run.more t m) Run.none h g = clash t g
run_here (Run.more t m) (Run.more t' m') h g = let q = run_here m m' h g in (same_cons refl q.0, q.1)

pub run_one : {p : ℕ → Bool} {w w' s s' r r' : List ℕ} → s ≡ s' → Run p w s r → Run p w' s' r' → Stops p r → Stops p r'
    → (w ≡ w') × (r ≡ r')
run_one {p} {w' = w'} {r' = r'} e x y = run_here x (subst (λ (u : List ℕ). Run p w' u r') (sym e) y)

-- names
pub name_one : {n n' s s' r r' : List ℕ} → s ≡ s' → Name n s r → Name n' s' r' → Stops is_name r → Stops is_name r' → (n ≡ n') × (r ≡ r')
name_one e (Name.name t m) (Name.name t' m') h g = let q = run_one (same_rest e) m m' h g in (same_cons (same_first e) q.0, q.1)

pub name_not_blank : {n s r : List ℕ} → Name n s r → Stops is_blank s
name_not_blank (Name.name {b} t m) = start_not_blank b t

-- a name ends where blanks and a byte of no name stand
pub blanks_stop : {c : ℕ} {w s r : List ℕ} → is_name c ≡ false → Run is_blank w s (c ∷ r) → Stops is_name s
blanks_stop f Run.none = f
blanks_stop f (Run.more {b} t m) = blank_not_name b t

-- attributes
pub spelled_one : {a a' : Attribute} {s s' r r' : List ℕ} → s ≡ s' → Spelled a s r → Spelled a' s' r' → (a ≡ a') × (r ≡ r')
spelled_one e (Spelled.attribute t x₁ n x₂ x₃ x₄) (Spelled.attribute t' y₁ m y₂ y₃ y₄) =
    let q₁ = run_one (same_rest e) x₁ y₁ (name_not_blank n) (name_not_blank m) in
    let q₂ = name_one q₁.1 n m (blanks_stop name_61 x₂) (blanks_stop name_61 y₂) in
    let q₃ = run_one q₂.1 x₂ y₂ blank_61 blank_61 in
    let q₄ = run_one (same_rest q₃.1) x₃ y₃ blank_34 blank_34 in
    let q₅ = run_one (same_rest q₄.1) x₄ y₄ value_34 value_34 in
    (same_attribute q₂.0 q₅.0, same_rest q₅.1)
  where
    same_attribute : {n n' v v' : List ℕ} → n ≡ n' → v ≡ v'
        → ◌≡◌ {A = Attribute} (record { name = n; value = v }) (record { name = n'; value = v' })
    same_attribute e f = cc

-- a byte that ends a tag
abbrev pub Closes : ℕ → Type 0
Closes c = (is_blank c ≡ false) × (is_name c ≡ false)

starts : {c : ℕ} {n s t r : List ℕ} → Name n s r → c ∷ t ≡ s → is_name c ≡ true
starts (Name.name {b} h m) e = ap is_name (same_first e) ∙ start_is_name b h

pub not_spelled : {A : Type 0} {a : Attribute} {c : ℕ} {w s s' r r' : List ℕ} → s ≡ s' → Run is_blank w s (c ∷ r) → Closes c
    → Spelled a s' r' → A
not_spelled e x h (Spelled.attribute t y n y₂ y₃ y₄) = let q = run_one e x (Run.more t y) h.0 (name_not_blank n) in
    clash (starts n q.1) h.1

pub attributes_one : {l l' : List Attribute} {c c' : ℕ} {w w' s s' t t' r r' : List ℕ} → s ≡ s' → Attributes l s t → Attributes l' s' t'
    → Run is_blank w t (c ∷ r) → Run is_blank w' t' (c' ∷ r') → Closes c → Closes c' → (l ≡ l') × (c ∷ r ≡ c' ∷ r')
attributes_one e Attributes.none Attributes.none x y h g = (refl, (run_one e x y h.0 g.0).1)
attributes_one e Attributes.none (Attributes.more b m) x y h g = not_spelled e x h b
attributes_one e (Attributes.more a l) Attributes.none x y h g = not_spelled (sym e) y g a
attributes_one e (Attributes.more a l) (Attributes.more b m) x y h g = let q = spelled_one e a b in let k =
    attributes_one q.1 l m x y h g in (same_cons q.0 k.0, k.1)

pub tag_stops : {l : List Attribute} {c : ℕ} {w s t r : List ℕ} → Attributes l s t → Run is_blank w t (c ∷ r) → Closes c → Stops is_name s
tag_stops Attributes.none x h = blanks_stop h.1 x
tag_stops (Attributes.more (Spelled.attribute {b} t y n y₂ y₃ y₄) l) x h = blank_not_name b t

-- comments
pub remark_one : {s s' r r' : List ℕ} → Remark s ("-->" ▹ r) → Remark s' ("-->" ▹ r') → s ≡ s' → r ≡ r'
remark_one Remark.none Remark.none e = same_rest (same_rest (same_rest e))
remark_one Remark.none (Remark.more t f m) e = clash (eq-eqb _ 45 (sym (same_first e))) f
remark_one Remark.none (Remark.dash t f m) e = clash (eq-eqb _ 45 (sym (same_first (same_rest e)))) f
remark_one (Remark.more t f m) Remark.none e = clash (eq-eqb _ 45 (same_first e)) f
remark_one (Remark.more t f m) (Remark.more t' f' m') e = remark_one m m' (same_rest e)
remark_one (Remark.more t f m) (Remark.dash t' f' m') e = clash (eq-eqb _ 45 (same_first e)) f
remark_one (Remark.dash t f m) Remark.none e = clash (eq-eqb _ 45 (same_first (same_rest e))) f
remark_one (Remark.dash t f m) (Remark.more t' f' m') e = clash (eq-eqb _ 45 (sym (same_first e))) f'
remark_one (Remark.dash t f m) (Remark.dash t' f' m') e = remark_one m m' (same_rest (same_rest e))

pub comment_one : {s s' r r' : List ℕ} → s ≡ s' → Comment s r → Comment s' r' → r ≡ r'
comment_one e (Comment.comment m) (Comment.comment m') = remark_one m m' (same_rest (same_rest (same_rest (same_rest e))))

-- what a text begins with: 0 no `<`, 1 `</`, 2 `<!`, 3 `<?`, 4 any other markup
abbrev choose : Bool → ℕ → ℕ → ℕ
choose true m n = m
choose false m n = n

abbrev markup : List ℕ → ℕ
markup [] = 4
markup (b ∷ s) = choose (among "/" b) 1 (choose (among "!" b) 2 (choose (among "?" b) 3 4))

abbrev lead : List ℕ → ℕ
lead [] = 0
lead (b ∷ s) = choose (among "<" b) (markup s) 0

apart : {A : Type 0} {s s' : List ℕ} (m n : ℕ) → eqb m n ≡ false → s ≡ s' → lead s ≡ m → lead s' ≡ n → A
apart m n f e x y = absurd (eqb-false m n f (sym x ∙ ap lead e ∙ y))

lead_byte : (p : ℕ → Bool) (b : ℕ) (s : List ℕ) → p 60 ≡ false → p b ≡ true → lead (b ∷ s) ≡ 0
lead_byte p b s f t = rw (kind_not p b 60 f t)

lead_comment : {s r : List ℕ} → Comment s r → lead s ≡ 2
lead_comment (Comment.comment m) = refl

-- `<` and a name
pub data Begins : List ℕ → Type 0 where
  begins : {b : ℕ} {s : List ℕ} → is_start b ≡ true → Begins ("<" ▹ b ∷ s)

lead_begins : {s : List ℕ} → Begins s → lead s ≡ 4
lead_begins (begins {b} t) = simp (kind_not is_start b 47 start_47 t, kind_not is_start b 33 start_33 t, kind_not is_start b 63 start_63 t)

-- elements: E is the kind of the children
module _ {E : Node → List ℕ → List ℕ → Type 0}
    (one : (x x' : Node) (s s' r r' : List ℕ) → s ≡ s' → E x s r → E x' s' r' → (x ≡ x') × (r ≡ r'))
    (starting : (x : Node) (s r : List ℕ) → E x s r → Begins s) where
  pub content_one : {i i' : Items} {s s' r r' : List ℕ} → Content E i s ("</" ▹ r) → Content E i' s' ("</" ▹ r') → s ≡ s'
      → (i ≡ i') × (r ≡ r')
  content_one Content.none Content.none e = (refl, same_rest (same_rest e))
  content_one Content.none (Content.text {b} {s = s} t m) e = apart 1 0 refl e refl (lead_byte is_text b s text_60 t)
  content_one Content.none (Content.remark x m) e = apart 1 2 refl e refl (lead_comment x)
  content_one Content.none (Content.child {x = x} {s = s} {t} y m) e = apart 1 4 refl e refl (lead_begins (starting x s t y))
  content_one (Content.text {b} {s = s} t m) Content.none e = apart 0 1 refl e (lead_byte is_text b s text_60 t) refl
  content_one (Content.text t m) (Content.text t' m') e = let q = content_one m m' (same_rest e) in (same_text (same_first e) q.0, q.1)
    where
      same_text : {b b' : ℕ} {i i' : Items} → b ≡ b' → i ≡ i' → Items.text b i ≡ Items.text b' i'
      same_text e f = cc
  content_one (Content.text {b} {s = s} t m) (Content.remark x m') e = apart 0 2 refl e (lead_byte is_text b s text_60 t) (lead_comment x)
  content_one (Content.text {b} {s = s} t m) (Content.child {x = x} {s = s'} {t = u} y m') e =
      apart 0 4 refl e (lead_byte is_text b s text_60 t) (lead_begins (starting x s' u y))
  content_one (Content.remark x m) Content.none e = apart 2 1 refl e (lead_comment x) refl
  content_one (Content.remark x m) (Content.text {b} {s = s} t m') e = apart 2 0 refl e (lead_comment x) (lead_byte is_text b s text_60 t)
  content_one (Content.remark x m) (Content.remark x' m') e = let q = content_one m m' (comment_one e x x') in
      (ap Items.remark q.0, q.1)
  content_one (Content.remark x m) (Content.child {x = y} {s = s} {t} z m') e =
      apart 2 4 refl e (lead_comment x) (lead_begins (starting y s t z))
  content_one (Content.child {x = x} {s = s} {t} y m) Content.none e = apart 4 1 refl e (lead_begins (starting x s t y)) refl
  content_one (Content.child {x = x} {s = s} {t} y m) (Content.text {b} {s = u} h m') e =
      apart 4 0 refl e (lead_begins (starting x s t y)) (lead_byte is_text b u text_60 h)
  content_one (Content.child {x = x} {s = s} {t} y m) (Content.remark z m') e =
      apart 4 2 refl e (lead_begins (starting x s t y)) (lead_comment z)
  content_one (Content.child {x = x} {s = s} {t} y m) (Content.child {x = x'} {s = s'} {t = t'} y' m') e = let q =
      one x x' s s' t t' e y y' in let k = content_one m m' q.1 in (same_child q.0 k.0, k.1)
    where
      same_child : {x x' : Node} {i i' : Items} → x ≡ x' → i ≡ i' → Items.child x i ≡ Items.child x' i'
      same_child e f = cc

  same_node : {o o' : ℕ} {n n' : List ℕ} {l l' : List Attribute} {i i' : Items} → o ≡ o' → n ≡ n' → l ≡ l' → i ≡ i'
      → node o n l i ≡ node o' n' l' i'
  same_node a b c d = cc

  pub element_of_one : (size : ℕ) {x x' : Node} {s s' r r' : List ℕ} → s ≡ s' → ElementOf size E x s r → ElementOf size E x' s' r'
      → (x ≡ x') × (r ≡ r')
  element_of_one size e (ElementOf.empty n a b) (ElementOf.empty n' a' b') =
      let q = name_one (same_rest e) n n' (tag_stops a b (blank_47, name_47)) (tag_stops a' b' (blank_47, name_47)) in
      let k = attributes_one q.1 a a' b b' (blank_47, name_47) (blank_47, name_47) in
      (same_node (ap (λ (u : List ℕ). size - length u) e) q.0 k.0 refl, same_rest (same_rest k.1))
  element_of_one size e (ElementOf.empty n a b) (ElementOf.full n' a' b' c' d') =
      let q = name_one (same_rest e) n n' (tag_stops a b (blank_47, name_47)) (tag_stops a' b' (blank_62, name_62)) in
      let k = attributes_one q.1 a a' b b' (blank_47, name_47) (blank_62, name_62) in
      absurd (eqb-false 47 62 refl (same_first k.1))
  element_of_one size e (ElementOf.full n a b c d) (ElementOf.empty n' a' b') =
      let q = name_one (same_rest e) n n' (tag_stops a b (blank_62, name_62)) (tag_stops a' b' (blank_47, name_47)) in
      let k = attributes_one q.1 a a' b b' (blank_62, name_62) (blank_47, name_47) in
      absurd (eqb-false 62 47 refl (same_first k.1))
  element_of_one size e (ElementOf.full {n = w} {s₄ = s₄} n a b c d) (ElementOf.full {n = w'} {s₄ = s₄'} n' a' b' c' d') =
      let q = name_one (same_rest e) n n' (tag_stops a b (blank_62, name_62)) (tag_stops a' b' (blank_62, name_62)) in
      let k = attributes_one q.1 a a' b b' (blank_62, name_62) (blank_62, name_62) in
      let i = content_one c c' (same_rest k.1) in
      let j = append_cancel w (i.1 ∙ ap (λ (u : List ℕ). u ++ s₄') (sym q.0)) in
      let v = run_one j d d' blank_62 blank_62 in
      (same_node (ap (λ (u : List ℕ). size - length u) e) q.0 k.0 i.0, same_rest v.1)

pub element_begins : (size d : ℕ) (x : Node) (s r : List ℕ) → Element size d x s r → Begins s
element_begins size zero x s r y = absurd y
element_begins size (suc d) x s r (ElementOf.empty (Name.name t m) a b) = begins t
element_begins size (suc d) x s r (ElementOf.full (Name.name t m) a b c e) = begins t

pub element_one : (size d : ℕ) (x x' : Node) (s s' r r' : List ℕ) → s ≡ s' → Element size d x s r → Element size d x' s' r'
    → (x ≡ x') × (r ≡ r')
element_one size zero x x' s s' r r' e y z = absurd y
element_one size (suc d) x x' s s' r r' e y z = element_of_one (element_one size d) (element_begins size d) size e y z

-- before the root
pub misc_one : {s s' r r' : List ℕ} → s ≡ s' → Misc s r → Misc s' r' → Begins r → Begins r' → r ≡ r'
misc_one e Misc.none Misc.none h g = e
misc_one e Misc.none (Misc.blank {b} {s} t m) h g = apart 4 0 refl e (lead_begins h) (lead_byte is_blank b s blank_60 t)
misc_one e Misc.none (Misc.remark x m) h g = apart 4 2 refl e (lead_begins h) (lead_comment x)
misc_one e (Misc.blank {b} {s} t m) Misc.none h g = apart 0 4 refl e (lead_byte is_blank b s blank_60 t) (lead_begins g)
misc_one e (Misc.blank t m) (Misc.blank t' m') h g = misc_one (same_rest e) m m' h g
misc_one e (Misc.blank {b} {s} t m) (Misc.remark x m') h g = apart 0 2 refl e (lead_byte is_blank b s blank_60 t) (lead_comment x)
misc_one e (Misc.remark x m) Misc.none h g = apart 2 4 refl e (lead_comment x) (lead_begins g)
misc_one e (Misc.remark x m) (Misc.blank {b} {s} t m') h g = apart 2 0 refl e (lead_comment x) (lead_byte is_blank b s blank_60 t)
misc_one e (Misc.remark x m) (Misc.remark y m') h g = misc_one (comment_one e x y) m m' h g

-- no declaration stands there
not_declared : {A : Type 0} {s s' r : List ℕ} → s ≡ s' → Misc s r → Begins r → lead s' ≡ 3 → A
not_declared e Misc.none h d = apart 4 3 refl e (lead_begins h) d
not_declared e (Misc.blank {b} {s} t m) h d = apart 0 3 refl e (lead_byte is_blank b s blank_60 t) d
not_declared e (Misc.remark x m) h d = apart 2 3 refl e (lead_comment x) d

root_one : {s t t' r r' : List ℕ} → Prolog s t → Prolog s t' → Misc t r → Misc t' r' → Begins r → Begins r' → r ≡ r'
root_one Prolog.none Prolog.none m m' h g = misc_one refl m m' h g
root_one Prolog.none (Prolog.declared x) m m' h g = not_declared refl m h refl
root_one (Prolog.declared x) Prolog.none m m' h g = not_declared refl m' g refl
root_one (Prolog.declared x) (Prolog.declared y) m m' h g = misc_one (same_rest (same_rest (run_one refl x y decl_63 decl_63).1)) m m' h g

pub one_doc : (s : List ℕ) (x y : Node) → WellShaped s x → WellShaped s y → x ≡ y
one_doc s x y (WellShaped.file {s₂ = s₂} {s₃} p m e n) (WellShaped.file {s₂ = t₂} {s₃ = t₃} q k f l) =
    (element_one (length s) 8 x y s₂ t₂ s₃ t₃
    (root_one p q m k (element_begins (length s) 8 x s₂ s₃ e) (element_begins (length s) 8 y t₂ t₃ f)) e f).0
