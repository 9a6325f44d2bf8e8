-- Every well-shaped text leads the machine to its end.
use Prim.Native.Nat.{ℕ, zero, suc, ◌+◌, ◌≤◌, ◌<◌}
use native.Mathlib.Omega.{arith}
use mathlib.Core.Path.{◌≡◌, refl, sym, ap, ◌∙◌}
use mathlib.Core.List.{List, [], ◌∷◌, ◌++◌, append_assoc, append-nil}
use mathlib.Core.Bool.{Bool, true, false}
use lib.ListN.{length}
use lib.Dec.{eqb}
use borrow.Author.Tests.{eq-eqb, lt-ltb}
use Rattle.text.specs.Kinds.{is_blank, is_start, is_digit, is_name, is_value, is_text, is_decl}
use Rattle.shape.specs.MachineCode.{State, live, step_byte, start, start_lt, decl, mark, mark_x, mark_xm, declared, closing, idle, lt, tag, slash, close, close_gap, comment, Zone, before, inside, after, zone_of, names, opens, name, gap, attr, attr_gap, equal, value, valued, bang, dash, text, text_dash, text_end}
use Rattle.shape.specs.ReadsCode.{outer}
use Rattle.shape.specs.Shape.{Node, Attribute, Items, Run, Name, Spelled, Attributes, Remark, Comment, Content, ElementOf, Element, Misc, Prolog, WellShaped}
use Rattle.shape.proofs.Bytes.{blank_not_name, blank_60, start_not_blank, kind_not, start_33, start_63}
use Rattle.shape.proofs.Going.{go, go_end, go_live, go_same}

run_go : {p : ℕ → Bool} (q : State) → ((b : ℕ) → p b ≡ true → step_byte q b ≡ live q) → {w s r : List ℕ} → Run p w s r → go q s ≡ go q r
run_go q g Run.none = refl
run_go q g (Run.more {b} {s = s} t m) = go_live q b s (g b t) ∙ run_go q g m

-- comments
lt_lit : (z : Zone) → step_byte (idle z) 60 ≡ live (lt z)
unfolding is_blank is_text
lt_lit before = refl
lt_lit (inside n k) = refl
lt_lit after = refl

remark_go : (z : Zone) {s r : List ℕ} → Remark s r → go (comment text z) s ≡ go (comment text z) r
remark_go z Remark.none = refl
remark_go z (Remark.more {b} {s} t n m) = go_live (comment text z) b s (simp (n, t)) ∙ remark_go z m
remark_go z (Remark.dash {b} {s} t n m) = go_live (comment text z) 45 (b ∷ s) refl ∙ go_live (comment text_dash z) b s (simp (n, t))
    ∙ remark_go z m

comment_go : (z : Zone) {s r : List ℕ} → Comment s r → go (idle z) s ≡ go (idle z) r
comment_go z (Comment.comment {s} {r} m) =
    go_live (idle z) 60 (33 ∷ 45 ∷ 45 ∷ s) (lt_lit z) ∙ go_live (lt z) 33 (45 ∷ 45 ∷ s) refl ∙ go_live (comment bang z) 45 (45 ∷ s) refl
    ∙ go_live (comment dash z) 45 s refl
    ∙ remark_go z m
    ∙ go_live (comment text z) 45 (45 ∷ 62 ∷ r) refl ∙ go_live (comment text_dash z) 45 (62 ∷ r) refl ∙ go_live (comment text_end z) 62 r refl

-- start tags: a state behind a name, a value or a blank
record Tail (q : State) (k : List (List ℕ)) (n : List ℕ) : Type 0 where
  blank : (b : ℕ) → is_blank b ≡ true → step_byte q b ≡ live (tag gap k n)
  bar : step_byte q 47 ≡ live (slash k)
  gt : step_byte q 62 ≡ live (idle (inside n k))

module _ (k : List (List ℕ)) (n : List ℕ) where
  bar_name : step_byte (tag name k n) 47 ≡ live (slash k)
  unfolding is_name is_start is_digit is_blank
  bar_name = refl

  gt_name : step_byte (tag name k n) 62 ≡ live (idle (inside n k))
  unfolding is_name is_start is_digit is_blank
  gt_name = refl

  bar_gap : step_byte (tag gap k n) 47 ≡ live (slash k)
  unfolding is_start is_blank
  bar_gap = refl

  gt_gap : step_byte (tag gap k n) 62 ≡ live (idle (inside n k))
  unfolding is_start is_blank
  gt_gap = refl

  bar_valued : step_byte (tag valued k n) 47 ≡ live (slash k)
  unfolding is_blank
  bar_valued = refl

  gt_valued : step_byte (tag valued k n) 62 ≡ live (idle (inside n k))
  unfolding is_blank
  gt_valued = refl

  tail_name : Tail (tag name k n) k n
  tail_name = record { blank = λ b t. simp (blank_not_name b t, t); bar = bar_name; gt = gt_name }

  tail_gap : Tail (tag gap k n) k n
  tail_gap = record { blank = λ b t. rw t; bar = bar_gap; gt = gt_gap }

  tail_valued : Tail (tag valued k n) k n
  tail_valued = record { blank = λ b t. rw t; bar = bar_valued; gt = gt_valued }

  equal_attr : step_byte (tag attr k n) 61 ≡ live (tag equal k n)
  unfolding is_name is_start is_digit is_blank
  equal_attr = refl

  equal_gap : step_byte (tag attr_gap k n) 61 ≡ live (tag equal k n)
  unfolding is_blank
  equal_gap = refl

  quote_equal : step_byte (tag equal k n) 34 ≡ live (tag value k n)
  unfolding is_blank
  quote_equal = refl

  quote_value : step_byte (tag value k n) 34 ≡ live (tag valued k n)
  unfolding is_value
  quote_value = refl

  equal_go : {w s r : List ℕ} → Run is_blank w s (61 ∷ r) → go (tag attr k n) s ≡ go (tag equal k n) r
  equal_go {r = r} Run.none = go_live (tag attr k n) 61 r equal_attr
  equal_go {r = r} (Run.more {b} {s = s} t m) = go_live (tag attr k n) b s (simp (blank_not_name b t, t))
      ∙ run_go (tag attr_gap k n) (λ b t. rw t) m ∙ go_live (tag attr_gap k n) 61 r equal_gap

  attribute_go : {q : State} → Tail q k n → {a : Attribute} {s r : List ℕ} → Spelled a s r → go q s ≡ go (tag valued k n) r
  attribute_go {q} x (Spelled.attribute {b} {s₁ = s₁} {s₅ = s₅} {r = r} t m (Name.name {b = c} {s = s} u l) e v w) =
      go_live q b s₁ (x.blank b t) ∙ run_go (tag gap k n) (λ b t. rw t) m
      ∙ go_live (tag gap k n) c s (simp (start_not_blank c u, u)) ∙ run_go (tag attr k n) (λ b t. rw t) l ∙ equal_go e
      ∙ run_go (tag equal k n) (λ b t. rw t) v ∙ go_live (tag equal k n) 34 s₅ quote_equal
      ∙ run_go (tag value k n) (λ b t. rw t) w ∙ go_live (tag value k n) 34 r quote_value

  bar_go : {q : State} → Tail q k n → {w s r : List ℕ} → Run is_blank w s (47 ∷ r) → go q s ≡ go (slash k) r
  bar_go {q} x {r = r} Run.none = go_live q 47 r x.bar
  bar_go {q} x (Run.more {b} {s = s} t m) = go_live q b s (x.blank b t) ∙ bar_go {q = tag gap k n} tail_gap m

  gt_go : {q : State} → Tail q k n → {w s r : List ℕ} → Run is_blank w s (62 ∷ r) → go q s ≡ go (idle (inside n k)) r
  gt_go {q} x {r = r} Run.none = go_live q 62 r x.gt
  gt_go {q} x (Run.more {b} {s = s} t m) = go_live q b s (x.blank b t) ∙ gt_go {q = tag gap k n} tail_gap m

  empty_go : {q : State} → Tail q k n → {l : List Attribute} {w s t r : List ℕ} → Attributes l s t → Run is_blank w t (47 ∷ 62 ∷ r)
      → go q s ≡ go (idle (zone_of k)) r
  empty_go x {r = r} Attributes.none m = bar_go x m ∙ go_live (slash k) 62 r refl
  empty_go {q} x (Attributes.more a l) m = attribute_go x a ∙ empty_go {q = tag valued k n} tail_valued l m

  open_go : {q : State} → Tail q k n → {l : List Attribute} {w s t r : List ℕ} → Attributes l s t → Run is_blank w t (62 ∷ r)
      → go q s ≡ go (idle (inside n k)) r
  open_go x Attributes.none m = gt_go x m
  open_go {q} x (Attributes.more a l) m = attribute_go x a ∙ open_go {q = tag valued k n} tail_valued l m

-- the name of a start tag
name_letters : (k : List (List ℕ)) (m : List ℕ) {w s r : List ℕ} → Run is_name w s r → go (tag name k m) s ≡ go (tag name k (m ++ w)) r
name_letters k m {r = r} Run.none = ap (λ (n : List ℕ). go (tag name k n) r) (sym (append-nil m))
name_letters k m {r = r} (Run.more {b} {w} {s} t l) = go_live (tag name k m) b s (rw t) ∙ name_letters k (m ++ (b ∷ [])) l
    ∙ ap (λ (n : List ℕ). go (tag name k n) r) (append_assoc m (b ∷ []) w)

name_go : (z : Zone) → opens z ≡ true → {n s r : List ℕ} → Name n s r → go (idle z) (60 ∷ s) ≡ go (tag name (names z) n) r
name_go z o (Name.name {b} {n = w} {s} t l) = go_live (idle z) 60 (b ∷ s) (lt_lit z)
    ∙ go_live (lt z) b s (simp (kind_not is_start b 33 start_33 t, t, o)) ∙ name_letters (names z) (b ∷ []) l

-- end tags
pub same_go : (k : List (List ℕ)) (n s : List ℕ) → go (close k n) (n ++ s) ≡ go (close k []) s
same_go k [] s = refl
same_go k (b ∷ n) s = go_live (close k (b ∷ n)) b (n ++ s) (rw (eq-eqb b b refl)) ∙ same_go k n s

gap_62 : (k : List (List ℕ)) → step_byte (close_gap k) 62 ≡ live (idle (zone_of k))
unfolding is_blank
gap_62 k = refl

close_62 : (k : List (List ℕ)) → step_byte (close k []) 62 ≡ live (idle (zone_of k))
unfolding is_blank
close_62 k = refl

pub close_go : (k : List (List ℕ)) {w s r : List ℕ} → Run is_blank w s (62 ∷ r) → go (close k []) s ≡ go (idle (zone_of k)) r
close_go k {r = r} Run.none = go_live (close k []) 62 r (close_62 k)
close_go k {r = r} (Run.more {b} {s = s} t m) = go_live (close k []) b s (rw t) ∙ run_go (close_gap k) (λ b t. rw t) m
    ∙ go_live (close_gap k) 62 r (gap_62 k)

lt_47 : (n : List ℕ) (k : List (List ℕ)) → step_byte (lt (inside n k)) 47 ≡ live (close k n)
unfolding is_start
lt_47 n k = refl

-- elements
content_go : {E : Node → List ℕ → List ℕ → Type 0} (n : List ℕ) (k : List (List ℕ))
    → ((x : Node) (s r : List ℕ) → E x s r → go (idle (inside n k)) s ≡ go (idle (inside n k)) r) → {i : Items} {s r : List ℕ}
    → Content E i s r → go (idle (inside n k)) s ≡ go (idle (inside n k)) r
content_go n k g Content.none = refl
content_go n k g (Content.text {b} {s = s} t m) = go_live (idle (inside n k)) b s (rw t) ∙ content_go n k g m
content_go n k g (Content.remark x m) = comment_go (inside n k) x ∙ content_go n k g m
content_go n k g (Content.child {x = y} {s = s} {t} x m) = g y s t x ∙ content_go n k g m

element_go : (size d : ℕ) (z : Zone) → (0 < d → opens z ≡ true) → d + length (names z) ≤ 8 → (x : Node) (s r : List ℕ)
    → Element size d x s r → go (idle z) s ≡ go (idle (zone_of (names z))) r
element_go size zero z o h y s r x = absurd x
element_go size (suc d) z o h y s r (ElementOf.empty {n = n} x a m) = name_go z (o (omega arith)) x
    ∙ empty_go (names z) n (tail_name (names z) n) a m
element_go size (suc d) z o h y s r (ElementOf.full {n = n} {s₄ = s₄} x a m c b) =
    name_go z (o (omega arith)) x ∙ open_go (names z) n (tail_name (names z) n) a m
    ∙ content_go n (names z) (element_go size d (inside n (names z)) (λ p. lt-ltb (length (names z)) 7 (omega arith)) (omega arith)) c
    ∙ go_live (idle (inside n (names z))) 60 (47 ∷ n ++ s₄) (lt_lit (inside n (names z)))
    ∙ go_live (lt (inside n (names z))) 47 (n ++ s₄) (lt_47 n (names z))
    ∙ same_go (names z) n s₄ ∙ close_go (names z) b

-- files
misc_go : (b : Bool) {s r : List ℕ} → Misc s r → go (idle (outer b)) s ≡ go (idle (outer b)) r
misc_go b Misc.none = refl
misc_go true (Misc.blank {b} {s} t m) = go_live (idle before) b s (rw t) ∙ misc_go true m
misc_go false (Misc.blank {b} {s} t m) = go_live (idle after) b s (rw t) ∙ misc_go false m
misc_go b (Misc.remark x m) = comment_go (outer b) x ∙ misc_go b m

-- the very start: as before the root, but for `<?`
start_other : (b : ℕ) (s : List ℕ) → eqb b 60 ≡ false → go start (b ∷ s) ≡ go (idle before) (b ∷ s)
start_other b s e = go_same start (idle before) b s (simp e)

start_markup : (c : ℕ) (s : List ℕ) → eqb c 63 ≡ false → go start (60 ∷ c ∷ s) ≡ go (idle before) (60 ∷ c ∷ s)
start_markup c s e = go_live start 60 (c ∷ s) refl ∙ go_same start_lt (lt before) c s (simp e)
    ∙ sym (go_live (idle before) 60 (c ∷ s) (lt_lit before))

start_comment : {s r : List ℕ} → Comment s r → go start s ≡ go (idle before) s
start_comment (Comment.comment {s} m) = start_markup 33 (45 ∷ 45 ∷ s) refl

start_element : {size : ℕ} {E : Node → List ℕ → List ℕ → Type 0} {x : Node} {s r : List ℕ} → ElementOf size E x s r
    → go start s ≡ go (idle before) s
start_element (ElementOf.empty (Name.name {b} {s = s} t l) a m) = start_markup b s (kind_not is_start b 63 start_63 t)
start_element (ElementOf.full (Name.name {b} {s = s} t l) a m c z) = start_markup b s (kind_not is_start b 63 start_63 t)

start_misc : {size : ℕ} {x : Node} {s t r : List ℕ} → Misc s t → Element size 8 x t r → go start s ≡ go (idle before) s
start_misc Misc.none x = start_element x
start_misc (Misc.blank {b} {s} t m) x = start_other b s (kind_not is_blank b 60 blank_60 t)
start_misc (Misc.remark y m) x = start_comment y

closing_63 : step_byte (decl declared) 63 ≡ live (decl closing)
unfolding is_decl
closing_63 = refl

prolog_go : {size : ℕ} {x : Node} {s t u r : List ℕ} → Prolog s t → Misc t u → Element size 8 x u r → go start s ≡ go (idle before) t
prolog_go Prolog.none m x = start_misc m x
prolog_go (Prolog.declared {s = s} {r} d) m x =
    go_live start 60 (63 ∷ 120 ∷ 109 ∷ 108 ∷ s) refl ∙ go_live start_lt 63 (120 ∷ 109 ∷ 108 ∷ s) refl
    ∙ go_live (decl mark) 120 (109 ∷ 108 ∷ s) refl ∙ go_live (decl mark_x) 109 (108 ∷ s) refl ∙ go_live (decl mark_xm) 108 s refl
    ∙ run_go (decl declared) (λ b t. rw t) d ∙ go_live (decl declared) 63 (62 ∷ r) closing_63 ∙ go_live (decl closing) 62 r refl

pub complete : {s : List ℕ} {x : Node} → WellShaped s x → go start s ≡ live (idle after)
complete {s} {x} (WellShaped.file {s₂ = s₂} {s₃} p m e n) = prolog_go p m e ∙ misc_go true m
    ∙ element_go (length s) 8 before (λ h. refl) (omega arith) x s₂ s₃ e ∙ misc_go false n ∙ go_end (idle after)
