-- Turns of the loop over what an element holds, and the ways through `visit`.
use Prim.Native.Nat.{ℕ, zero, suc, ◌-◌, ◌<◌}
use native.Mathlib.Omega.{arith}
use mathlib.Core.Path.{◌≡◌, refl, sym, ap, ◌∙◌}
use mathlib.Core.List.{List}
use mathlib.Core.Bool.{Bool, true, false, not, cond, ◌&&◌, ◌||◌}
use Rattle.std.specs.Prelude.{Option, Some, None, Err, is_some, is_none, is_ok, unwrap_or}
use lib.ListN.{length}
use borrow.Author.Tests.{not-true, not-false}
use Rattle.lists.proofs.Parts.{and_right}
use Rattle.walk.specs.declared.Item.{Item}
use Rattle.walk.specs.declared.Body.{Body}
use Rattle.walk.specs.WalkCode.{item_at, name_at, content_behind, content_at, skipped, root_at, text_in, text_at, stray}
use Rattle.walk.proofs.Bounds.{item_from, skipped_bounds}
use Rattle.walk.proofs.Turns.{Turn, start, next, done}
use Rattle.schema.specs.SchemaCode.{kind_name, kind_count, is_carried, is_barred}
use Rattle.schema.proofs.Laws.{known_low}
use Rattle.file_rules.specs.declared.Breach.{Breach}
use Rattle.file_rules.specs.declared.Breach.TheVariants.{Rootless, Misvalued}
use Rattle.file_rules.specs.RefusalCode.{breach_at}
use Rattle.element.specs.declared.Gathered.{Gathered}
use Rattle.element.specs.ElementCode.{rules_for, gathered_behind, gathered_at, short_in, said, said_at, worded, bad_in, bad_text, own_fault, tag_fault}
use Rattle.element.proofs.Wordings.{fault_some, fault_text}
use Rattle.document.specs.declared.Seen.{Seen}
use Rattle.document.specs.declared.Walk.{Walk}
use Rattle.document.specs.DocumentCode.{Index, FoundSoFar, entry_at, entry_by, none_seen, marked, is_over, closed_walk, child_at, looked, first_fault, fault_at, tag_fault_at, entered_found, refused_found, visit_items, visit_body, visit_from, none_found, index_at, indexed, found}

-- the steps of the loop, by what stands next
module _ (visit : ℕ → ℕ → Bool → FoundSoFar → FoundSoFar) (f : List ℕ) (q j : ℕ) (s : Seen) (r : FoundSoFar) where
  module _ (n : ℕ) where
    pub visit_text : (k : ℕ) → Item.Text k ≡ item_at f j → visit_items visit f q (suc n) j s r ≡ visit_items visit f q n k s r
    unfolding visit_items
    visit_text k e = rw (← e, visit_items)

    pub visit_remark : (k : ℕ) → Item.Remark k ≡ item_at f j → visit_items visit f q (suc n) j s r ≡ visit_items visit f q n k s r
    unfolding visit_items
    visit_remark k e = rw (← e, visit_items)

    pub visit_child : Item.Child ≡ item_at f j
        → visit_items visit f q (suc n) j s r
        ≡ visit_items visit f q n (skipped f j) (marked s (child_at f j q)) (visit j (child_at f j q) (is_over q (child_at f j q) s) r)
    unfolding visit_items
    visit_child e = rw (← e, visit_items)

    pub visit_close : (k : ℕ) → Item.Close k ≡ item_at f j → visit_items visit f q (suc n) j s r ≡ closed_walk r q s
    unfolding visit_items
    visit_close k e = rw (← e, visit_items)

-- the loop's invariant: from here the answer is the whole one
abbrev pub VisitTurn : List ℕ → ℕ → ℕ → ℕ → Seen → FoundSoFar → FoundSoFar → Type 0
VisitTurn f left q j s r whole = Turn (λ n m. visit_items (visit_from f left) f q n m s r) (length f) j whole

module _ (f : List ℕ) (left q j : ℕ) (s : Seen) (r whole : FoundSoFar) (t : VisitTurn f left q j s r whole)
    (h : j < length f) where
  abbrev items : ℕ → ℕ → FoundSoFar
  items n m = visit_items (visit_from f left) f q n m s r

  pub on_text : (k : ℕ) → Item.Text k ≡ item_at f j → VisitTurn f left q k s r whole
  on_text k e =
      next items (length f) j whole items k t h (item_from f j (Item.Text k) e).0 (λ n. visit_text (visit_from f left) f q j s r n k e)

  pub on_remark : (k : ℕ) → Item.Remark k ≡ item_at f j → VisitTurn f left q k s r whole
  on_remark k e =
      next items (length f) j whole items k t h (item_from f j (Item.Remark k) e).0
      (λ n. visit_remark (visit_from f left) f q j s r n k e)

  -- c is the child's kind, o whether it is one too many, v what its visit gave, m the marks then, k behind it
  pub on_child : (c : ℕ) (o : Bool) (v : FoundSoFar) (m : Seen) (k : ℕ) → Item.Child ≡ item_at f j → c ≡ child_at f j q → o ≡ is_over q c s
      → v ≡ visit_from f left j c o r → m ≡ marked s c → k ≡ skipped f j → VisitTurn f left q k m v whole
  on_child c o v m k e x₁ x₂ x₃ x₄ x₅ =
      next items (length f) j whole (λ n i. visit_items (visit_from f left) f q n i m v) k t h (rw x₅ (skipped_bounds f j h).0)
      (λ n. visit_child (visit_from f left) f q j s r n e ∙ rw (x₅, x₄, x₃, x₂, x₁))

  pub on_close : (k : ℕ) (v : FoundSoFar) → Item.Close k ≡ item_at f j → v ≡ closed_walk r q s → v ≡ whole
  on_close k v e x = done items (length f) j whole v t h (λ n. visit_close (visit_from f left) f q j s r n k e ∙ sym x)

-- the ways through `visit`: not looked at, a fault, and inside
module _ (f : List ℕ) (i k : ℕ) (o : Bool) (r : FoundSoFar) where
  pub visit_past : (left : ℕ) (b : Bool) → b ≡ looked r k → not b ≡ true → r ≡ visit_from f left i k o r
  unfolding visit_from
  visit_past zero b e t = refl
  visit_past (suc d) b e t = rw (sym e ∙ not-true b t)

  module _ (b : Bool) (e : b ≡ looked r k) (t : not b ≡ false) where
    pub visit_fault : (m : Breach) → Some m ≡ fault_at f i k o → (left : ℕ) → (left ≡ 0 → ⊥) → (v : FoundSoFar) → v ≡ refused_found r m i
        → v ≡ visit_from f left i k o r
    unfolding visit_from
    visit_fault m g zero h v y = absurd (h refl)
    visit_fault m g (suc d) h v y = y ∙ rw (sym e ∙ not-false b t, ← g)

    pub visit_good : None ≡ fault_at f i k o → (left : ℕ) → (left ≡ 0 → ⊥) → (v w : FoundSoFar) → w ≡ entered_found r (entry_at f i k)
        → v ≡ visit_body (visit_from f (left - 1)) f k w (content_at f i) → v ≡ visit_from f left i k o r
    unfolding visit_from
    visit_good g zero h v w y z = absurd (h refl)
    visit_good g (suc d) h v w y z =
        let l : suc d - 1 ≡ d = omega arith in
        z ∙ (rw (y, l) (rw (sym e ∙ not-false b t, ← g)))

-- an element that is looked at has a kind
pub looked_low : (r : FoundSoFar) (k : ℕ) (b : Bool) → b ≡ looked r k → not b ≡ false → k < kind_count
unfolding looked
looked_low r k b e t =
    known_low k (and_right (is_ok r.index) (is_carried (kind_name k) || is_barred (kind_name k)) (sym e ∙ not-false b t))

-- the fault of an element, by what its tag tells, m
module _ (f : List ℕ) (i k : ℕ) (m : Option Breach) where
  fault_split : (a over : Bool) → a ≡ is_barred (kind_name k) → m ≡ tag_fault_at f i k over → m ≡ None
      → (tag_fault k f i ≡ None) × (fault_at f i k over ≡ own_fault k f i)
  unfolding first_fault tag_fault own_fault
  fault_split true over a e z = cc (rw (← a) at e)
  fault_split false true a e z = cc (rw (← a) at e)
  fault_split false false a e z = (sym (rw (← a) at e) ∙ z, rw (← a))

  fault_kept : (a over : Bool) → a ≡ is_barred (kind_name k) → m ≡ tag_fault_at f i k over → (m ≡ None → ⊥) → fault_at f i k over ≡ None → ⊥
  unfolding first_fault tag_fault own_fault
  fault_kept true over a e h z = cc (rw (← a) at z)
  fault_kept false true a e h z = cc (rw (← a) at z)
  fault_kept false false a e h z = fault_some f i k (λ y. h (e ∙ rw (← a) y)) (rw (← a) at z)

some_is : (n : Option Breach) (d a : Breach) → (n ≡ None → ⊥) → a ≡ unwrap_or n d → Some a ≡ n
some_is None d a h w = absurd (h refl)
some_is (Some x) d a h w = ap Some w

pub none_of : (n : Option Breach) → ((b : Breach) → n ≡ Some b → ⊥) → n ≡ None
none_of None h = refl
none_of (Some b) h = absurd (h b refl)

-- what was read of the element at i, of the kind k: its attributes, its content, whether its text is misspelt, and the number in it
pub record Read (f : List ℕ) (i k : ℕ) (g : Gathered) (b : Body) (s : Bool) (n : ℕ) : Type 0 where
  pub attributes : g ≡ gathered_at (rules_for k) f i
  pub content : b ≡ content_at f i
  pub text : s ≡ is_none (said_at k f i)
  pub number : n ≡ unwrap_or (said_at k f i) 0

not_back : (s t : Bool) → t ≡ not s → s ≡ not t
not_back true t e = rw e
not_back false t e = rw e

pub read_here : (f : List ℕ) (i to k : ℕ) (g : Gathered) (b : Body) (a : Option ℕ) → to ≡ (name_at f i).to
    → g ≡ gathered_behind (rules_for k) f to
    → b ≡ content_behind f to → a ≡ said k (short_in f b) → (s : Bool) → is_some a ≡ not s → (n : ℕ) → n ≡ unwrap_or a 0 → Read f i k g b s n
unfolding gathered_at content_at text_at
read_here f i to k g b a e x y z s u n v =
    let c : b ≡ content_at f i = y ∙ ap (content_behind f) e in
    let w : a ≡ said_at k f i = z ∙ ap (λ (o : Body). said k (short_in f o)) c in
    record {
      attributes = x ∙ ap (gathered_behind (rules_for k) f) e;
      content = c;
      text = not_back s (is_some a) u ∙ ap is_none w;
      number = v ∙ ap (λ (o : Option ℕ). unwrap_or o 0) w;
    }

module _ (f : List ℕ) (i k : ℕ) (g : Gathered) (b : Body) (s : Bool) (n : ℕ) (x : Read f i k g b s n) where
  -- what the code entered is what is kept of it
  pub entered_is : (v r : FoundSoFar) → v ≡ entered_found r (entry_by k i n g) → v ≡ entered_found r (entry_at f i k)
  unfolding entry_at
  entered_is v r z =
      z ∙ (ap (λ (t : ℕ). entered_found r (entry_by k i t g)) x.number
      ∙ ap (λ (h : Gathered). entered_found r (entry_by k i (unwrap_or (said_at k f i) 0) h)) x.attributes)

  -- the fault that its tag tells
  module _ (over : Bool) (m : Option Breach) (told : m ≡ first_fault k over s g) where
    judged_is : (t u : Bool) → t ≡ u → first_fault k over t g ≡ first_fault k over u (gathered_at (rules_for k) f i)
    judged_is t u e = ap (λ (v : Bool). first_fault k over v g) e ∙ ap (first_fault k over u) x.attributes

    tag_fault_lem : m ≡ tag_fault_at f i k over
    tag_fault_lem = told ∙ judged_is s (is_none (said_at k f i)) x.text

    -- with its whole text there is one too
    pub refuses : (d : Breach) → m ≡ Some d → (t : Bool) → t ≡ bad_in k s (text_in f b) → (o : Option Breach)
        → o ≡ first_fault k over t g → (a : Breach) → a ≡ unwrap_or o d → Some a ≡ fault_at f i k over
    unfolding text_at
    refuses d h t y o z a w =
        let u : t ≡ bad_text k f i =
        y ∙ (ap (λ (r : Bool). bad_in k r (text_in f b)) x.text
        ∙ ap (λ (c : Body). bad_in k (is_none (said_at k f i)) (text_in f c)) x.content) in
        let e : o ≡ fault_at f i k over = z ∙ judged_is t (bad_text k f i) u in
        some_is o d a (λ v. fault_kept f i k m (is_barred (kind_name k)) over refl tag_fault_lem (λ q. cc) (sym e ∙ v)) w ∙ e

    module _ (z : m ≡ None) (w a : Bool) (hw : w ≡ worded k) (ha : a ≡ stray (text_at f i)) where
      text_fault : fault_at f i k over ≡ cond (not w && a) (Some Misvalued) None
      text_fault =
          let t = fault_split f i k m (is_barred (kind_name k)) over refl tag_fault_lem z in
          t.1 ∙ rw (hw, ha) (fault_text f i k t.0)

      pub stray_fault : not w && a ≡ true → Some Misvalued ≡ fault_at f i k over
      stray_fault t = sym (text_fault ∙ rw t)

      pub no_fault : not w && a ≡ false → None ≡ fault_at f i k over
      no_fault t = sym (text_fault ∙ rw t)

-- behind a fault the words tell nothing
pub refused_same : (w : Walk) (ms ms' : List ℕ) (b : Breach) (p : ℕ) → refused_found (found w ms) b p ≡ refused_found (found w ms') b p
unfolding found
refused_same w ms ms' b p = refl

-- the ways through `visit_inside`
module _ (f : List ℕ) (i left k : ℕ) (r : FoundSoFar) (b : Body) (e : b ≡ content_at f i) where
  abbrev whole : FoundSoFar
  whole = visit_body (visit_from f left) f k r (content_at f i)

  pub inside_open : (o : ℕ) (s : Seen) → b ≡ Body.Open o → s ≡ none_seen → VisitTurn f left k o s r whole
  unfolding visit_body
  inside_open o s x y =
      start (λ n m. visit_items (visit_from f left) f k n m s r) (length f) o whole
      (rw y (ap (visit_body (visit_from f left) f k r) (sym x ∙ e)))

  pub inside_empty : (o : ℕ) (s : Seen) (v : FoundSoFar) → b ≡ Body.Empty o → s ≡ none_seen → v ≡ closed_walk r k s → v ≡ whole
  unfolding visit_body
  inside_empty o s v x y z = z ∙ (rw y (ap (visit_body (visit_from f left) f k r) (sym x ∙ e)))

-- the ways through `index_whole`
module _ (f : List ℕ) (root k : ℕ) (b : Bool) (e₁ : root ≡ root_at f) (e₂ : k ≡ child_at f root 0) (e₃ : b ≡ is_carried (kind_name k)) where
  root_carried : is_carried (kind_name (child_at f (root_at f) 0)) ≡ b
  root_carried = rw (e₃, e₂, e₁)

  pub whole_known : b ≡ true → (n v : FoundSoFar) (r : Index) → n ≡ none_found → (i : ℕ) → i ≡ root → v ≡ visit_from f 8 i k false n
      → r ≡ index_at root v → r ≡ indexed f
  unfolding indexed
  whole_known t n v r x i p y z = z ∙ rw (y, x, p, e₂, e₁) (rw (root_carried ∙ t))

  pub whole_other : b ≡ false → (r : Index) → r ≡ Err (breach_at Rootless root) → r ≡ indexed f
  unfolding indexed
  whole_other t r z = z ∙ rw (e₁, root_carried ∙ t)
