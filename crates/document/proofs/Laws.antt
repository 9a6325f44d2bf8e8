-- The index of a well-shaped file: its first fault, or all its known elements. The answer of `index` is the only one of its contract.
use Prim.Native.Nat.{ℕ, suc, ◌+◌, ◌≤◌}
use native.Mathlib.Omega.{arith}
use mathlib.Core.Path.{◌≡◌, refl, sym, ap, ◌∙◌, subst}
use mathlib.Core.List.{List, [], ◌∷◌, ◌++◌, map, map-append, append_assoc, append-nil}
use mathlib.Core.Option.{Option, none, some}
use mathlib.Core.Bool.{true, false}
use lib.Dec.{eqb}
use Rattle.std.specs.Prelude.{Ok, Err}
use lib.ListN.{length, get_or, length-append}
use borrow.Author.Tests.{ne_eqb, le-leb}
use Rattle.text.specs.Texts.{bytes, same}
use Rattle.lists.proofs.Cases.{by_cases}
use Rattle.lists.proofs.BitLaws.{bit_none}
use Rattle.std.specs.Prelude.{Ok, Err}
use Rattle.shape.specs.declared.Unshaped.TheVariants.{TooLong, Broken}
use Rattle.shape.specs.Shape.{Shape, Attribute, Node, node, Items, WellShaped, Shaped, shape_refusal}
use Rattle.shape.proofs.OneAnswer.{one_answer}
use Rattle.walk.specs.WalkCode as walk
use Rattle.walk.specs.StandsCode.{ElementAt}
use Rattle.walk.proofs.WalkLaws.{root_law, element_law}
use Rattle.schema.specs.Schema.{one_of, under, parent_in, parents}
use Rattle.schema.specs.SchemaCode.{names, name_in, kind_name, is_carried}
use Rattle.schema.proofs.Laws.{kind_carried}
use Rattle.file_rules.specs.Element.{Known, Fault, ◌at◌if◌, own_faults}
use Rattle.file_rules.specs.declared.Breach.TheVariants.{Long, Shapeless}
use Rattle.file_rules.specs.RefusalCode.{refused_at, breach_at}
use Rattle.document.specs.EntriesCode.{Entry, entry_of, written, entry_most}
use Rattle.file_rules.specs.Document.{known_elements, known_in, known_at, lacks, element_faults}
use Rattle.document.specs.DocumentCode.{Index, absorbed, absorb, entered, FoundSoFar, index_of, none_seen, is_over, child_at, visit_from, none_found, index_at, indexed, Indexes}
use Rattle.document.proofs.Absorbs.{absorb_still}
use Rattle.document.proofs.Seens.{seen_none}
use Rattle.document.proofs.Visits.{Agrees, child_kind, visits}
use Rattle.document.proofs.Few.{Clean, clean_first, few}
use Rattle.lists.specs.Lists.{any, gathered}

-- ---- the fold, if there is no fault
absorb_one : (done : List Known) (k : Known) → own_faults k ≡ [] → length (written (map entry_of done)) ≤ entry_most
    → absorbed k (index_of done) ≡ index_of (done ++ (k ∷ []))
unfolding absorbed entered index_of
absorb_one done k e h = rw (e, le-leb (length (written (map entry_of done))) entry_most h, map-append entry_of done (k ∷ []))

written_some : (done ks : List Known)
    → length (written (map entry_of (done ++ ks))) ≡ length (written (map entry_of done)) + length (written (map entry_of ks))
unfolding gathered
written_some [] ks = omega arith
written_some (d ∷ done) ks =
    let h = written_some done ks in
    let a = length-append (entry_of d).row (written (map entry_of (done ++ ks))) in
    let b = length-append (entry_of d).row (written (map entry_of done)) in
    omega (arith, h, a, b)

absorb_all : (done ks : List Known) → Clean ks → length (written (map entry_of (done ++ ks))) ≤ entry_most
    → absorb ks (index_of done) ≡ index_of (done ++ ks)
unfolding absorb
absorb_all done [] c h = ap index_of (sym (append-nil done))
absorb_all done (k ∷ ks) c h =
    let g = clean_first k ks c in
    let n = written_some done (k ∷ ks) in
    let a : (done ++ (k ∷ [])) ++ ks ≡ done ++ (k ∷ ks) = append_assoc done (k ∷ []) ks in
    ap (absorb ks) (absorb_one done k g.0 (omega (arith, n)))
    ∙ (absorb_all (done ++ (k ∷ [])) ks g.1 (rw a h) ∙ ap index_of a)

-- the index x says what the faults gs say, or else the known elements ks
abbrev pub Settles : List Fault → List Known → Index → Type 0
Settles [] ks x = x ≡ index_of ks
Settles (a ∷ l) ks x = x ≡ Err (refused_at a.number a.place)

-- ---- the fold, if there is one
head_of : {X : Type 0} {a b : X} {l m : List X} → a ∷ l ≡ b ∷ m → a ≡ b
head_of {a = a} e = ap (λ l. get_or l 0 a) e

absorb_at : (k : Known) (ks : List Known) (es : List Entry) (a : Fault) (l fs : List Fault) → own_faults k ≡ fs
    → fs ++ gathered own_faults ks ≡ a ∷ l
    → ((es : List Entry) → gathered own_faults ks ≡ a ∷ l → absorb ks (Ok es) ≡ Err (refused_at a.number a.place))
    → absorb ks (absorbed k (Ok es)) ≡ Err (refused_at a.number a.place)
unfolding absorbed entered
absorb_at k ks es a l [] e g rec = rw e (rec _ g)
absorb_at k ks es a l (b ∷ fs) e g rec =
    rw e (absorb_still ks (refused_at b.number b.place) ∙ ap (λ (f : Fault). Err (refused_at f.number f.place)) (head_of g))

absorb_fault : (ks : List Known) (es : List Entry) (a : Fault) (l : List Fault) → gathered own_faults ks ≡ a ∷ l
    → absorb ks (Ok es) ≡ Err (refused_at a.number a.place)
unfolding absorb gathered
absorb_fault [] es a l g = absurd (omega (arith, ap length g))
absorb_fault (k ∷ ks) es a l g = absorb_at k ks es a l (own_faults k) refl g (λ ds h. absorb_fault ks ds a l h)

-- ---- the answer, for what the visit of the root gave
module _ (i : ℕ) (ks : List Known) (r : FoundSoFar) (s : Agrees ks r none_found) where
  settled : (fs : List Fault) → gathered own_faults ks ≡ fs → (Clean ks → length (written (map entry_of ks)) ≤ entry_most) → (gs : List Fault)
      → gs ≡ fs ++ 8 at i if any lacks ks → Settles gs ks (index_at i r)
  unfolding index_at index_of
  settled (a ∷ l) g h gs e = rw (e, s.index ∙ absorb_fault ks [] a l g) refl
  settled [] g h gs e =
      let x : r.index ≡ index_of ks = s.index ∙ absorb_all [] ks g (h g) in
      let t : r.lacking ≡ any lacks ks = s.lacking (map entry_of ks) x in
      by_cases (any lacks ks) (λ b. rw (e, x, t, b) refl) (λ b. rw (e, x, t, b) refl)

-- ---- a well-shaped file
over_first : (k : ℕ) → is_over 0 k none_seen ≡ false
unfolding is_over parent_in parents names name_in bytes same
over_first k = bit_none k

module _ (f : List ℕ) (short : length f ≤ 32768) (x : Node) (e : ℕ) (y : ElementAt f 8 (walk.root_at f) x e) where
  abbrev root_kind : ℕ
  root_kind = child_at f (walk.root_at f) 0

  root_visit : Agrees (known_elements x) (visit_from f 8 (walk.root_at f) root_kind false none_found) none_found
  unfolding names name_in bytes
  root_visit =
      rw (over_first root_kind) at (visits f short 8 (omega arith) (walk.root_at f) x e y 0 [] none_seen (seen_none 0) none_found)

module _ (f : List ℕ) (short : length f ≤ 32768) (p : ℕ) (n : List ℕ) (l : List Attribute) (t : Items) (e : ℕ)
    (y : ElementAt f 8 (walk.root_at f) (node p n l t) e) where
  abbrev X : Node
  X = node p n l t

  root_place : p ≡ walk.root_at f
  root_place = (element_law f 7 (walk.root_at f) X e y).0

  root_carried : is_carried (kind_name (child_at f (walk.root_at f) 0)) ≡ one_of (under []).carried n
  unfolding names name_in bytes
  root_carried = ap (λ (k : ℕ). is_carried (kind_name k)) (child_kind f 8 (walk.root_at f) X e y 0) ∙ kind_carried 0 n

  -- the root is KVASER
  root_known : one_of (under []).carried n ≡ true → Settles (element_faults X) (known_elements X) (indexed f)
  unfolding element_faults indexed known_at
  root_known c =
      let z : eqb (length (known_elements X)) 0
      ≡ false = rw c (ne_eqb (suc (length (known_in (under n) [] t))) 0 (λ g. absurd (omega (arith, g)))) in
      rw (root_carried ∙ c)
      (settled (walk.root_at f) (known_elements X) (visit_from f 8 (walk.root_at f) (root_kind f short X e y) false none_found)
      (root_visit f short X e y)
      (gathered own_faults (known_elements X)) refl (few X) (element_faults X) (rw (z, root_place) refl))

  -- it is not
  root_other : one_of (under []).carried n ≡ false → Settles (element_faults X) (known_elements X) (indexed f)
  unfolding element_faults indexed known_at parent_in parents any bytes same
  root_other c = rw (root_carried ∙ c, c, root_place) refl

-- the index is what the file's faults say, and else its known elements
pub index_law : (f : List ℕ) (x : Node) → length f ≤ 32768 → WellShaped f x → Settles (element_faults x) (known_elements x) (indexed f)
index_law f (node p n l t) short w =
    let r = root_law f (node p n l t) w in
    by_cases (one_of (under []).carried n) (root_known f short p n l t r.0 r.1)
    (root_other f short p n l t r.0 r.1)

-- ---- the contract of `read_index`
indexes_by : (f : List ℕ) (x : Node) → length f ≤ 32768 → WellShaped f x → (gs : List Fault) → element_faults x ≡ gs → (i : Index)
    → Settles gs (known_elements x) i → Indexes f i
indexes_by f x short w [] e i s = rw s (Indexes.faultless x short w e)
indexes_by f x short w (a ∷ l) e i s = rw s (Indexes.faulty x a l short w e)

pub indexes_whole : (f : List ℕ) → Shaped f (Ok tt) → Indexes f (indexed f)
indexes_whole f s =
    (indexes_by f s.1.0 s.0 s.1.1 (element_faults s.1.0) refl (indexed f) (index_law f s.1.0 s.0 s.1.1))

pub indexes_long : (f : List ℕ) → Shaped f (Err TooLong) → Indexes f (Err (breach_at Long 32768))
indexes_long f s = Indexes.shapeless (Err TooLong) 1 32768 s refl

pub indexes_broken : (f : List ℕ) (p : ℕ) → Shaped f (Err (Broken p)) → Indexes f (Err (breach_at Shapeless p))
indexes_broken f p s = Indexes.shapeless (Err (Broken p)) 2 p s refl

-- ---- it determines the index: that of the file's shape
abbrev by_shape : List ℕ → Option (ℕ × ℕ) → Index
by_shape f none = indexed f
by_shape f (some r) = Err (refused_at r.0 r.1)

index_is : (f : List ℕ) (i : Index) → Indexes f i → (a : Shape) × Shaped f a × (by_shape f (shape_refusal a) ≡ i)
index_is f i (Indexes.shapeless a n p s e) = (a, s, ap (by_shape f) e)
index_is f i (Indexes.faulty x a l short w e) =
    (Ok tt, (short, (x, w)), subst (λ gs. Settles gs (known_elements x) (indexed f)) e (index_law f x short w))
index_is f i (Indexes.faultless x short w e) =
    (Ok tt, (short, (x, w)), subst (λ gs. Settles gs (known_elements x) (indexed f)) e (index_law f x short w))

pub one_index : (f : List ℕ) (i j : Index) → Indexes f i → Indexes f j → i ≡ j
one_index f i j x y =
    let a = index_is f i x in
    let b = index_is f j y in
    sym a.2 ∙ (ap (λ (c : Shape). by_shape f (shape_refusal c)) (one_answer f a.0 b.0 a.1 b.1) ∙ b.2)
