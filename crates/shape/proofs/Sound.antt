-- Every text that leads the machine to its end is well-shaped: for each state, the texts that lead from it to the end are what the grammar
-- says may follow there.
use Prim.Native.Nat.{ℕ, suc, ◌-◌, ◌<◌}
use native.Mathlib.Omega.{arith}
use mathlib.Core.Path.{◌≡◌, refl, sym, subst}
use mathlib.Core.List.{List, [], ◌∷◌, ◌++◌, append_assoc, append-nil}
use mathlib.Core.Bool.{Bool, true, false, ◌&&◌, true≢false}
use lib.ListN.{length}
use lib.Dec.{eqb}
use borrow.Author.Tests.{eqb-true, ltb-true}
use Rattle.text.specs.Texts.{◌▹◌}
use Rattle.text.specs.Kinds.{among, is_blank, is_start, is_name, is_value, is_any, is_decl}
use Rattle.shape.specs.MachineCode.{State, Next, live, dead, pick, step_byte, start, start_lt, decl, DeclPart, mark, mark_x, mark_xm, declared, closing, idle, lt, tag, slash, close, close_gap, comment, Zone, before, inside, after, zone_of, names, opens, stays, TagState, name, gap, attr, attr_gap, equal, value, valued, ComPart, bang, dash, text, text_dash, text_end, step_lt, step_end, step_tag, step_decl, step_com, step_gap, step_idle, step_close}
use Rattle.shape.specs.Shape.{Node, Attribute, Items, Run, Name, Spelled, Attributes, Remark, Comment, Content, ElementOf, Element, Misc, Prolog, WellShaped}
use Rattle.shape.proofs.Going.{go}

-- the machine is at its end
abbrev pub Done : Next → Type 0
Done (live start) = ⊥
Done (live start_lt) = ⊥
Done (live (decl p)) = ⊥
Done (live (idle before)) = ⊥
Done (live (idle (inside n k))) = ⊥
Done (live (idle after)) = Unit {0}
Done (live (lt z)) = ⊥
Done (live (tag p k n)) = ⊥
Done (live (slash k)) = ⊥
Done (live (close k m)) = ⊥
Done (live (close_gap k)) = ⊥
Done (live (comment p z)) = ⊥
Done dead = ⊥

-- what may follow, in a file of N bytes
module _ (N : ℕ) where
  -- children of an element that the names k are around
  abbrev kids : List (List ℕ) → Node → List ℕ → List ℕ → Type 0
  kids k = Element N (7 - length k)

  data Upto (p : ℕ → Bool) (b : ℕ) (R : List ℕ → Type 0) : List ℕ → Type 0 where
    upto : {w s r : List ℕ} → Run p w s (b ∷ r) → R r → Upto p b R s

  data Gt (R : List ℕ → Type 0) : List ℕ → Type 0 where
    gt : {r : List ℕ} → R r → Gt R (">" ▹ r)

  -- the rest of the content of an element n within k, its end tag, and A behind it
  data In (k : List (List ℕ)) (n : List ℕ) (A : List ℕ → Type 0) : List ℕ → Type 0 where
    inn : {i : Items} {w s t r : List ℕ} → Content (kids k) i s ("</" ▹ n ++ t) → Run is_blank w t (">" ▹ r) → A r → In k n A s

  abbrev After : List (List ℕ) → List ℕ → Type 0
  After [] s = Misc s []
  After (n ∷ k) s = In k n (After k) s

  data Before : List ℕ → Type 0 where
    rooted : {x : Node} {s t u : List ℕ} → Misc s t → Element N 8 x t u → Misc u [] → Before s

  abbrev RemZ : Zone → List ℕ → Type 0
  RemZ before s = Before s
  RemZ (inside n k) s = In k n (After k) s
  RemZ after s = Misc s []

  data Body (k : List (List ℕ)) (n : List ℕ) : List ℕ → Type 0 where
    empty : {w s r : List ℕ} → Run is_blank w s ("/>" ▹ r) → After k r → Body k n s
    full : {w s t : List ℕ} → Run is_blank w s (">" ▹ t) → In k n (After k) t → Body k n s

  data Tagged (k : List (List ℕ)) (n : List ℕ) : List ℕ → Type 0 where
    tagged : {l : List Attribute} {s t : List ℕ} → Attributes l s t → Body k n t → Tagged k n s

  data Naming (k : List (List ℕ)) (m : List ℕ) : List ℕ → Type 0 where
    naming : {w s t : List ℕ} → Run is_name w s t → Tagged k (m ++ w) t → Naming k m s

  data Attr (R : List ℕ → Type 0) : List ℕ → Type 0 where
    attrs : {w s t : List ℕ} → Run is_name w s t → R t → Attr R s

  data Closing (k : List (List ℕ)) (m : List ℕ) : List ℕ → Type 0 where
    closes : {w t r : List ℕ} → Run is_blank w t (">" ▹ r) → After k r → Closing k m (m ++ t)

  data Rmk (R : List ℕ → Type 0) : List ℕ → Type 0 where
    rmk : {s r : List ℕ} → Remark s ("-->" ▹ r) → R r → Rmk R s

  -- a file, as of N bytes
  data File (s : List ℕ) : Type 0 where
    filed : {x : Node} {s₁ s₂ s₃ : List ℕ} → Prolog s s₁ → Misc s₁ s₂ → Element N 8 x s₂ s₃ → Misc s₃ [] → File s

  data Dcl : List ℕ → Type 0 where
    dcl : {w s r : List ℕ} → Run is_decl w s ("?>" ▹ r) → Before r → Dcl s

  abbrev RemTag : TagState → List (List ℕ) → List ℕ → List ℕ → Type 0
  RemTag name k n s = Naming k n s
  RemTag gap k n s = (b : ℕ) → is_blank b ≡ true → Tagged k n (b ∷ s)
  RemTag attr k n s = Attr (Upto is_blank 61 (Upto is_blank 34 (Upto is_value 34 (Tagged k n)))) s
  RemTag attr_gap k n s = Upto is_blank 61 (Upto is_blank 34 (Upto is_value 34 (Tagged k n))) s
  RemTag equal k n s = Upto is_blank 34 (Upto is_value 34 (Tagged k n)) s
  RemTag value k n s = Upto is_value 34 (Tagged k n) s
  RemTag valued k n s = Tagged k n s

  abbrev RemCom : ComPart → Zone → List ℕ → Type 0
  RemCom bang z s = RemZ z ("<!" ▹ s)
  RemCom dash z s = RemZ z ("<!-" ▹ s)
  RemCom text z s = Rmk (RemZ z) s
  RemCom text_dash z s = Rmk (RemZ z) ("-" ▹ s)
  RemCom text_end z s = Gt (RemZ z) s

  abbrev RemDecl : DeclPart → List ℕ → Type 0
  RemDecl mark s = File ("<?" ▹ s)
  RemDecl mark_x s = File ("<?x" ▹ s)
  RemDecl mark_xm s = File ("<?xm" ▹ s)
  RemDecl declared s = Dcl s
  RemDecl closing s = Gt Before s

  -- what may follow in a state
  abbrev Rem : State → List ℕ → Type 0
  Rem start s = File s
  Rem start_lt s = File ("<" ▹ s)
  Rem (decl p) s = RemDecl p s
  Rem (idle z) s = RemZ z s
  Rem (lt z) s = RemZ z ("<" ▹ s)
  Rem (tag p k n) s = RemTag p k n s
  Rem (slash k) s = Gt (After k) s
  Rem (close k m) s = Closing k m s
  Rem (close_gap k) s = Upto is_blank 62 (After k) s
  Rem (comment p z) s = RemCom p z s

  abbrev RemN : Next → List ℕ → Type 0
  RemN (live q) s = Rem q s
  RemN dead s = ⊥

  -- a step taken back by the test that it turned on
  picked : {A : Type 0} (t : Bool) (x y : Next) (s : List ℕ) → RemN (pick t x y) s → (t ≡ true → RemN x s → A) → (t ≡ false → RemN y s → A)
      → A
  picked true x y s r f g = f refl r
  picked false x y s r f g = g refl r

  -- the same where the second way is dead
  must : {A : Type 0} (t : Bool) (x : Next) (s : List ℕ) → RemN (pick t x dead) s → (t ≡ true → RemN x s → A) → A
  must true x s r f = f refl r
  must false x s r f = absurd r

  put : (P : ℕ → Type 0) (b c : ℕ) → eqb b c ≡ true → P c → P b
  put P b c e x = subst P (sym (eqb-true b c e)) x

  after_zone : (k : List (List ℕ)) (s : List ℕ) → RemZ (zone_of k) s → After k s
  after_zone [] s x = x
  after_zone (n ∷ k) s x = x

  front_comment : (z : Zone) {s r : List ℕ} → Comment s r → RemZ z r → RemZ z s
  front_comment before c (rooted m e n) = rooted (Misc.remark c m) e n
  front_comment (inside n k) c (inn x m a) = inn (Content.remark c x) m a
  front_comment after c x = Misc.remark c x

  front_byte : (z : Zone) (b : ℕ) (s : List ℕ) → stays z b ≡ true → RemZ z s → RemZ z (b ∷ s)
  front_byte before b s t (rooted m e n) = rooted (Misc.blank t m) e n
  front_byte (inside n k) b s t (inn x m a) = inn (Content.text t x) m a
  front_byte after b s t x = Misc.blank t x

  -- a start tag that is read on to the end is an element
  data Begun (k : List (List ℕ)) (s : List ℕ) : Type 0 where
    begun : {x : Node} {r : List ℕ} → ElementOf N (kids k) x s r → After k r → Begun k s

  begin : (k : List (List ℕ)) {b : ℕ} {s : List ℕ} → is_start b ≡ true → Naming k (b ∷ []) s → Begun k ("<" ▹ b ∷ s)
  begin k t (naming l (tagged a (empty m x))) = begun (ElementOf.empty (Name.name t l) a m) x
  begin k t (naming l (tagged a (full m (inn c u x)))) = begun (ElementOf.full (Name.name t l) a m c u) x

  front_element : (z : Zone) {b : ℕ} {s : List ℕ} → is_start b ≡ true → opens z ≡ true → Naming (names z) (b ∷ []) s → RemZ z ("<" ▹ b ∷ s)
  front_element before t o x = root_from (begin [] t x)
    where
      root_from : {s : List ℕ} → Begun [] s → Before s
      root_from (begun e y) = rooted Misc.none e y
  front_element (inside n k) {b} {s} t o x = child_from (begin (n ∷ k) t x)
    where
      deeper : 7 - length k ≡ suc (7 - length (n ∷ k))
      deeper = let h : length k < 7 = ltb-true (length k) 7 o in omega arith

      child_from : {u : List ℕ} → Begun (n ∷ k) u → In k n (After k) u
      child_from {u} (begun {x} {r} e (inn c m a)) = inn (Content.child (subst (λ (d : ℕ). Element N d x u r) (sym deeper) e) c) m a
  front_element after t o x = absurd (true≢false (sym o))

  tag_blank : (k : List (List ℕ)) (n : List ℕ) {b : ℕ} {s : List ℕ} → is_blank b ≡ true → Tagged k n s → Tagged k n (b ∷ s)
  tag_blank k n t (tagged Attributes.none (empty m x)) = tagged Attributes.none (empty (Run.more t m) x)
  tag_blank k n t (tagged Attributes.none (full m x)) = tagged Attributes.none (full (Run.more t m) x)
  tag_blank k n t (tagged (Attributes.more (Spelled.attribute u w x y z v) l) c) =
      tagged (Attributes.more (Spelled.attribute t (Run.more u w) x y z v) l) c

  upto_more : {p : ℕ → Bool} {c : ℕ} {R : List ℕ → Type 0} {b : ℕ} {s : List ℕ} → p b ≡ true → Upto p c R s → Upto p c R (b ∷ s)
  upto_more t (upto m r) = upto (Run.more t m) r

  upto_here : {p : ℕ → Bool} {R : List ℕ → Type 0} (c b : ℕ) {s : List ℕ} → eqb b c ≡ true → R s → Upto p c R (b ∷ s)
  upto_here {p} {R} c b {s} t x = put (λ (a : ℕ). Upto p c R (a ∷ s)) b c t (upto Run.none x)

  back_idle : (z : Zone) (b : ℕ) (s : List ℕ) → RemN (step_idle z b) s → RemZ z (b ∷ s)
  back_idle z b s r = picked (stays z b) (live (idle z)) (pick (eqb b 60) (live (lt z)) dead) s r (λ t x. front_byte z b s t x)
      (λ f y. must (eqb b 60) (live (lt z)) s y (λ t x. put (λ (c : ℕ). RemZ z (c ∷ s)) b 60 t x))

  closed : {k : List (List ℕ)} {n s : List ℕ} → Closing k n s → In k n (After k) ("</" ▹ s)
  closed (closes m a) = inn Content.none m a

  back_close : (z : Zone) (b : ℕ) (s : List ℕ) → RemN (step_close z b) s → RemZ z ("<" ▹ b ∷ s)
  back_close before b s r = absurd r
  back_close (inside n k) b s r =
      must (eqb b 47) (live (close k n)) s r (λ t x. put (λ (c : ℕ). In k n (After k) ("<" ▹ c ∷ s)) b 47 t (closed x))
  back_close after b s r = absurd r

  and_both : {A : Type 0} (t u : Bool) → (t && u) ≡ true → (t ≡ true → u ≡ true → A) → A
  and_both true u e f = f refl e
  and_both false u e f = absurd (true≢false (sym e))

  back_lt : (z : Zone) (b : ℕ) (s : List ℕ) → RemN (step_lt z b) s → RemZ z ("<" ▹ b ∷ s)
  back_lt z b s r =
      picked (eqb b 33) (live (comment bang z)) (pick (is_start b && opens z) (live (tag name (names z) (b ∷ []))) (step_close z b)) s r
      (λ t x. put (λ (c : ℕ). RemZ z ("<" ▹ c ∷ s)) b 33 t x)
      (λ f y. picked (is_start b && opens z) (live (tag name (names z) (b ∷ []))) (step_close z b) s y
      (λ t x. and_both (is_start b) (opens z) t (λ u o. front_element z u o x))
      (λ g w. back_close z b s w))

  module _ (k : List (List ℕ)) (n : List ℕ) where
    slashed : {s : List ℕ} → Gt (After k) s → Tagged k n ("/" ▹ s)
    slashed (gt x) = tagged Attributes.none (empty Run.none x)

    back_end : (b : ℕ) (s : List ℕ) → RemN (step_end k n b) s → Tagged k n (b ∷ s)
    back_end b s r = picked (eqb b 47) (live (slash k)) (pick (eqb b 62) (live (idle (inside n k))) dead) s r
        (λ t x. put (λ (c : ℕ). Tagged k n (c ∷ s)) b 47 t (slashed x))
        (λ f y. must (eqb b 62) (live (idle (inside n k))) s y
        (λ t x. put (λ (c : ℕ). Tagged k n (c ∷ s)) b 62 t (tagged Attributes.none (full Run.none x))))

    name_none : {s : List ℕ} → Tagged k n s → Naming k n s
    name_none {s} x = naming Run.none (subst (λ (m : List ℕ). Tagged k m s) (sym (append-nil n)) x)

    name_more : {b : ℕ} {s : List ℕ} → is_name b ≡ true → Naming k (n ++ (b ∷ [])) s → Naming k n (b ∷ s)
    name_more {b} t (naming {w} {t = u} l x) = naming (Run.more t l) (subst (λ (m : List ℕ). Tagged k m u) (append_assoc n (b ∷ []) w) x)

    attr_front : {c b : ℕ} {s : List ℕ} → is_blank c ≡ true → is_start b ≡ true → RemTag attr k n s → Tagged k n (c ∷ b ∷ s)
    attr_front t u (attrs l (upto e (upto v (upto w (tagged a x))))) =
        tagged (Attributes.more (Spelled.attribute t Run.none (Name.name u l) e v w) a) x

    attr_more : {R : List ℕ → Type 0} {b : ℕ} {s : List ℕ} → is_name b ≡ true → Attr R s → Attr R (b ∷ s)
    attr_more t (attrs l x) = attrs (Run.more t l) x

    back_tag : (p : TagState) (b : ℕ) (s : List ℕ) → RemN (step_tag p k n b) s → RemTag p k n (b ∷ s)
    back_tag name b s r = picked (is_name b) (live (tag name k (n ++ (b ∷ [])))) (pick (is_blank b) (live (tag gap k n)) (step_end k n b)) s r
        (λ t x. name_more t x)
        (λ f y. picked (is_blank b) (live (tag gap k n)) (step_end k n b) s y (λ t x. name_none (x b t)) (λ g z. name_none (back_end b s z)))
    back_tag gap b s r = λ c u. picked (is_blank b) (live (tag gap k n)) (pick (is_start b) (live (tag attr k n)) (step_end k n b)) s r
        (λ t x. tag_blank k n u (x b t))
        (λ f y. picked (is_start b) (live (tag attr k n)) (step_end k n b) s y (λ t x. attr_front u t x)
        (λ g z. tag_blank k n u (back_end b s z)))
    back_tag attr b s r =
        picked (is_name b) (live (tag attr k n)) (pick (is_blank b) (live (tag attr_gap k n)) (pick (eqb b 61) (live (tag equal k n)) dead)) s
        r
        (λ t x. attr_more t x)
        (λ f y. picked (is_blank b) (live (tag attr_gap k n)) (pick (eqb b 61) (live (tag equal k n)) dead) s y
        (λ t x. attrs Run.none (upto_more t x))
        (λ g z. must (eqb b 61) (live (tag equal k n)) s z (λ t x. attrs Run.none (upto_here 61 b t x))))
    back_tag attr_gap b s r = picked (is_blank b) (live (tag attr_gap k n)) (pick (eqb b 61) (live (tag equal k n)) dead) s r
        (λ t x. upto_more t x) (λ g z. must (eqb b 61) (live (tag equal k n)) s z (λ t x. upto_here 61 b t x))
    back_tag equal b s r = picked (is_blank b) (live (tag equal k n)) (pick (eqb b 34) (live (tag value k n)) dead) s r
        (λ t x. upto_more t x) (λ g z. must (eqb b 34) (live (tag value k n)) s z (λ t x. upto_here 34 b t x))
    back_tag value b s r = picked (is_value b) (live (tag value k n)) (pick (eqb b 34) (live (tag valued k n)) dead) s r
        (λ t x. upto_more t x) (λ g z. must (eqb b 34) (live (tag valued k n)) s z (λ t x. upto_here 34 b t x))
    back_tag valued b s r = picked (is_blank b) (live (tag gap k n)) (step_end k n b) s r (λ t x. x b t) (λ g z. back_end b s z)

  -- the declaration
  of_before : {s : List ℕ} → Before s → File s
  of_before (rooted m e n) = filed Prolog.none m e n

  of_dcl : {s : List ℕ} → Dcl s → File ("<?xml" ▹ s)
  of_dcl (dcl d (rooted m e n)) = filed (Prolog.declared d) m e n

  dcl_more : {b : ℕ} {s : List ℕ} → is_decl b ≡ true → Dcl s → Dcl (b ∷ s)
  dcl_more t (dcl d x) = dcl (Run.more t d) x

  dcl_end : {s : List ℕ} → Gt Before s → Dcl ("?" ▹ s)
  dcl_end (gt x) = dcl Run.none x

  back_decl : (p : DeclPart) (b : ℕ) (s : List ℕ) → RemN (step_decl p b) s → RemDecl p (b ∷ s)
  back_decl mark b s r = must (eqb b 120) (live (decl mark_x)) s r (λ t x. put (λ (c : ℕ). File ("<?" ▹ c ∷ s)) b 120 t x)
  back_decl mark_x b s r = must (eqb b 109) (live (decl mark_xm)) s r (λ t x. put (λ (c : ℕ). File ("<?x" ▹ c ∷ s)) b 109 t x)
  back_decl mark_xm b s r = must (eqb b 108) (live (decl declared)) s r (λ t x. put (λ (c : ℕ). File ("<?xm" ▹ c ∷ s)) b 108 t (of_dcl x))
  back_decl declared b s r = picked (is_decl b) (live (decl declared)) (pick (eqb b 63) (live (decl closing)) dead) s r (λ t x. dcl_more t x)
      (λ f y. must (eqb b 63) (live (decl closing)) s y (λ t x. put (λ (c : ℕ). Dcl (c ∷ s)) b 63 t (dcl_end x)))
  back_decl closing b s r = must (eqb b 62) (live (idle before)) s r (λ t x. put (λ (c : ℕ). Gt Before (c ∷ s)) b 62 t (gt x))

  -- comments
  module _ (z : Zone) where
    rmk_front : {s : List ℕ} → Rmk (RemZ z) s → RemZ z ("<!--" ▹ s)
    rmk_front (rmk m x) = front_comment z (Comment.comment m) x

    rmk_more : {b : ℕ} {s : List ℕ} → is_any b ≡ true → among "-" b ≡ false → Rmk (RemZ z) s → Rmk (RemZ z) (b ∷ s)
    rmk_more t n (rmk m x) = rmk (Remark.more t n m) x

    rmk_dash : {b : ℕ} {s : List ℕ} → is_any b ≡ true → among "-" b ≡ false → Rmk (RemZ z) s → Rmk (RemZ z) ("-" ▹ b ∷ s)
    rmk_dash t n (rmk m x) = rmk (Remark.dash t n m) x

    rmk_end : {s : List ℕ} → Gt (RemZ z) s → Rmk (RemZ z) ("--" ▹ s)
    rmk_end (gt x) = rmk Remark.none x

    back_com : (p : ComPart) (b : ℕ) (s : List ℕ) → RemN (step_com p z b) s → RemCom p z (b ∷ s)
    back_com bang b s r = must (eqb b 45) (live (comment dash z)) s r (λ t x. put (λ (c : ℕ). RemZ z ("<!" ▹ c ∷ s)) b 45 t x)
    back_com dash b s r = must (eqb b 45) (live (comment text z)) s r (λ t x. put (λ (c : ℕ). RemZ z ("<!-" ▹ c ∷ s)) b 45 t (rmk_front x))
    back_com text b s r = picked (eqb b 45) (live (comment text_dash z)) (pick (is_any b) (live (comment text z)) dead) s r
        (λ t x. put (λ (c : ℕ). Rmk (RemZ z) (c ∷ s)) b 45 t x)
        (λ f y. must (is_any b) (live (comment text z)) s y (λ t x. rmk_more t f x))
    back_com text_dash b s r = picked (eqb b 45) (live (comment text_end z)) (pick (is_any b) (live (comment text z)) dead) s r
        (λ t x. put (λ (c : ℕ). Rmk (RemZ z) ("-" ▹ c ∷ s)) b 45 t (rmk_end x))
        (λ f y. must (is_any b) (live (comment text z)) s y (λ t x. rmk_dash t f x))
    back_com text_end b s r = must (eqb b 62) (live (idle z)) s r (λ t x. put (λ (c : ℕ). Gt (RemZ z) (c ∷ s)) b 62 t (gt x))

  -- end tags
  back_gap : (k : List (List ℕ)) (b : ℕ) (s : List ℕ) → RemN (step_gap k b) s → Upto is_blank 62 (After k) (b ∷ s)
  back_gap k b s r = picked (is_blank b) (live (close_gap k)) (pick (eqb b 62) (live (idle (zone_of k))) dead) s r (λ t x. upto_more t x)
      (λ f y. must (eqb b 62) (live (idle (zone_of k))) s y (λ t x. upto_here 62 b t (after_zone k s x)))

  close_none : {k : List (List ℕ)} {s : List ℕ} → Upto is_blank 62 (After k) s → Closing k [] s
  close_none (upto m x) = closes m x

  close_more : {k : List (List ℕ)} {a : ℕ} {m s : List ℕ} → Closing k m s → Closing k (a ∷ m) (a ∷ s)
  close_more (closes m x) = closes m x

  -- a step taken back
  back : (q : State) (b : ℕ) (s : List ℕ) → RemN (step_byte q b) s → Rem q (b ∷ s)
  back start b s r =
      picked (eqb b 60) (live start_lt) (step_idle before b) s r (λ t x. put (λ (c : ℕ). File (c ∷ s)) b 60 t x)
      (λ f y. of_before (back_idle before b s y))
  back start_lt b s r =
      picked (eqb b 63) (live (decl mark)) (step_lt before b) s r (λ t x. put (λ (c : ℕ). File ("<" ▹ c ∷ s)) b 63 t x)
      (λ f y. of_before (back_lt before b s y))
  back (decl p) b s r = back_decl p b s r
  back (idle z) b s r = back_idle z b s r
  back (lt z) b s r = back_lt z b s r
  back (tag p k n) b s r = back_tag k n p b s r
  back (slash k) b s r =
      must (eqb b 62) (live (idle (zone_of k))) s r (λ t x. put (λ (c : ℕ). Gt (After k) (c ∷ s)) b 62 t (gt (after_zone k s x)))
  back (close k []) b s r = close_none (back_gap k b s r)
  back (close k (a ∷ m)) b s r =
      must (eqb b a) (live (close k m)) s r (λ t x. put (λ (c : ℕ). Closing k (a ∷ m) (c ∷ s)) b a t (close_more x))
  back (close_gap k) b s r = back_gap k b s r
  back (comment p z) b s r = back_com z p b s r

  done : (q : State) → Done (live q) → Rem q []
  done start x = absurd x
  done start_lt x = absurd x
  done (decl p) x = absurd x
  done (idle before) x = absurd x
  done (idle (inside n k)) x = absurd x
  done (idle after) x = Misc.none
  done (lt z) x = absurd x
  done (tag p k n) x = absurd x
  done (slash k) x = absurd x
  done (close k m) x = absurd x
  done (close_gap k) x = absurd x
  done (comment p z) x = absurd x

  onward : (s : List ℕ) → ((q : State) → Done (go q s) → Rem q s) → (n : Next) → Done (elim n [ live q' ↦ go q' s | dead ↦ dead ])
      → RemN n s
  onward s f (live q) x = f q x
  onward s f dead x = absurd x

  ends : (s : List ℕ) (q : State) → Done (go q s) → Rem q s
  unfolding go
  ends [] q x = done q x
  ends (b ∷ s) q x = back q b s (onward s (ends s) (step_byte q b) x)

of_file : {s : List ℕ} → File (length s) s → (x : Node) × WellShaped s x
of_file (filed {x} p m e n) = (x, WellShaped.file p m e n)

pub sound : (s : List ℕ) → go start s ≡ live (idle after) → (x : Node) × WellShaped s x
sound s e = of_file (ends (length s) s start (subst Done (sym e) tt))
