-- A visit of an element of a well-shaped file folds its known elements into the index, and sees whether something lacks.
use Prim.Native.Nat.{ℕ, zero, suc, ◌+◌, ◌≤◌, ◌<◌}
use native.Mathlib.Omega.{arith}
use mathlib.Core.Path.{◌≡◌, refl, sym, ap, ◌∙◌, subst}
use mathlib.Core.List.{List, [], ◌∷◌}
use mathlib.Core.Bool.{Bool, true, false, ◌||◌, or_assoc, or_comm, or-false}
use Rattle.std.specs.Prelude.{Option, Some, None, Ok, Err, is_ok, option_map}
use lib.ListN.{length}
use lib.Seq.{slice}
use Rattle.lists.proofs.Cases.{by_cases, le_or_lt}
use Rattle.shape.specs.Shape.{Attribute, Node, node, Items}
use Rattle.walk.specs.declared.Item.{Item}
use Rattle.walk.specs.declared.Body.{Body}
use Rattle.walk.specs.WalkCode as walk
use Rattle.walk.specs.StandsCode.{ElementAt, ContentStands, texted}
use Rattle.walk.proofs.Bounds.{item_over}
use Rattle.walk.proofs.WalkLaws.{element_law, element_deep, ItemTold, item_law, BodyTold, content_law, skip_law}
use Rattle.schema.specs.Schema.{Parent, one_of, under, rules_of}
use Rattle.schema.specs.SchemaCode.{kind_name, kind_under}
use Rattle.schema.proofs.Laws.{carried_held, carried_not_barred, barred_not_carried, kind_is, kind_named, kind_carried, kind_barred}
use Rattle.file_rules.specs.Element.{Known, own_faults, too_many}
use Rattle.file_rules.specs.declared.Refusal.{Refusal}
use Rattle.file_rules.specs.declared.Breach.{Breach}
use Rattle.file_rules.specs.declared.Breach.TheVariants.{Uncarried}
use Rattle.file_rules.specs.RefusalCode.{number_of, breach_at}
use Rattle.element.specs.declared.Gathered.{Gathered}
use Rattle.element.specs.ElementCode.{rules_for, nothing_gathered, gathered_at, gathered_list, own_fault, first_number}
use Rattle.element.proofs.Laws.{fault_law, over_law, barred_law, gather_law, channel_law}
use Rattle.document.specs.EntriesCode.{Entry, row_from, gathered_of, entry_of}
use Rattle.document.specs.declared.Seen.{Seen}
use Rattle.file_rules.specs.Document.{also_named, held, known_in, known_at, unmet, lacks}
use Rattle.document.specs.DocumentCode.{Index, absorb, entered, entry_at, FoundSoFar, entered_found, refused_found, none_seen, marked, is_over, closed_walk, child_at, looked, first_fault, fault_at, visit_items, visit_body, visit_from}
use Rattle.document.proofs.Absorbs.{absorb_append, absorb_still, absorb_none, absorb_enter, absorb_refuse, any_append}
use Rattle.document.proofs.Seens.{SeenIs, seen_none, seen_on, over_is, lack_is}
use Rattle.document.proofs.Turns.{visit_text, visit_remark, visit_child, visit_close}
use Rattle.lists.specs.Lists.{any}

or_turn : (a b c : Bool) → ((a || b) || c) ≡ (a || (c || b))
or_turn a b c = or_assoc a b c ∙ ap (λ (t : Bool). a || t) (or_comm b c)

-- ---- text before items changes nothing
pub known_texted : (q : Parent) (earlier : List (List ℕ)) (w : List ℕ) (i : Items) → known_in q earlier (texted w i) ≡ known_in q earlier i
unfolding known_in texted
known_texted q earlier [] i = refl
known_texted q earlier (b ∷ w) i = known_texted q earlier w i

held_texted : (q : Parent) (earlier : List (List ℕ)) (w : List ℕ) (i : Items) → held q earlier (texted w i) ≡ held q earlier i
unfolding held texted
held_texted q earlier [] i = refl
held_texted q earlier (b ∷ w) i = held_texted q earlier w i

-- ---- v is what r becomes by the known elements ks; inside an element also u, whether it lacks something itself
pub record Agrees (ks : List Known) (v r : FoundSoFar) : Type 0 where
  pub index : v.index ≡ absorb ks r.index
  pub lacking : (es : List Entry) → v.index ≡ Ok es → v.lacking ≡ (r.lacking || any lacks ks)

record AgreesIn (ks : List Known) (u : Bool) (v r : FoundSoFar) : Type 0 where
  pub index : v.index ≡ absorb ks r.index
  pub lacking : (es : List Entry) → v.index ≡ Ok es → v.lacking ≡ ((r.lacking || any lacks ks) || u)

-- an index has entries, or is refused; there is a fault, or none
by_index : {A : Type 0} (x : Index) → ((es : List Entry) → x ≡ Ok es → A) → ((q : Refusal) → x ≡ Err q → A) → A
by_index (Ok es) a b = a es refl
by_index (Err q) a b = b q refl

by_fault : {A : Type 0} (x : Option Breach) → (x ≡ None → A) → ((b : Breach) → x ≡ Some b → A) → A
by_fault None a b = a refl
by_fault (Some c) a b = b c refl

abbrev pub name_in : Node → List ℕ
name_in (node p n l i) = n

abbrev pub known_of : ℕ → List (List ℕ) → ℕ → List ℕ → List Attribute → Items → Known
known_of q earlier p n l i = record { parent = under (kind_name q); earlier = earlier; place = p; name = n; attributes = l; items = i }

module _ (f : List ℕ) where
  -- the kind of a child
  pub child_kind : (d j : ℕ) (x : Node) (m : ℕ) → ElementAt f d j x m → (q : ℕ) → child_at f j q ≡ kind_under q (name_in x)
  unfolding child_at
  child_kind zero j x m y q = absurd (element_deep f j x m y)
  child_kind (suc d) j (node p n l i) m y q = ap (kind_under q) (sym (element_law f d j (node p n l i) m y).1)

  seen_child : (d j : ℕ) (x : Node) (m : ℕ) → ElementAt f d j x m → (q : ℕ) (earlier : List (List ℕ)) (s : Seen) → SeenIs q earlier s
      → SeenIs q (also_named (under (kind_name q)) earlier x) (marked s (child_at f j q))
  seen_child d j (node p n l i) m y q earlier s z = rw (child_kind d j (node p n l i) m y q) (seen_on q earlier s z n p l i)

  pub content_inside : (d j : ℕ) (i : Items) (e : ℕ) → ContentStands f d j i e → j < length f
  content_inside d j i e c = le_or_lt (length f) j (λ h. absurd (item_law f d j i e c Item.Broken (sym (item_over f j h)))) (λ h. h)

  -- what is held at depth d, where visits at that depth are right
  module _ (d : ℕ) (deep : d ≤ 8)
      (go : (i : ℕ) (x : Node) (e : ℕ) → ElementAt f d i x e → (q : ℕ) (earlier : List (List ℕ)) (s : Seen) → SeenIs q earlier s
      → (r : FoundSoFar) → Agrees (known_at (under (kind_name q)) earlier x) (visit_from f d i (child_at f i q) (is_over q (child_at f i q) s) r)
      r) (q : ℕ) where
    abbrev Q : Parent
    Q = under (kind_name q)

    abbrev Turns : ℕ → ℕ → Items → ℕ → Type 0
    Turns n j i e = (earlier : List (List ℕ)) (s : Seen) → SeenIs q earlier s → (r : FoundSoFar)
        → AgreesIn (known_in Q earlier i) (unmet Q (held Q earlier i)) (visit_items (visit_from f d) f q n j s r) r

    closes : (earlier : List (List ℕ)) (s : Seen) → SeenIs q earlier s → (r : FoundSoFar)
        → AgreesIn [] (unmet Q earlier) (closed_walk r q s) r
    unfolding closed_walk absorb any
    closes earlier s y r =
        let n = sym (or-false r.lacking) in
        record { index = refl; lacking = λ es z. rw (lack_is q earlier s y) (ap (λ (b : Bool). b || unmet Q earlier) n) }

    turn : (n j : ℕ) (i : Items) (e : ℕ) → length f < suc n + j
        → ((k : ℕ) (i : Items) → ContentStands f d k i e → length f < n + k → Turns n k i e) → (p : Item) → p ≡ walk.item_at f j
        → ItemTold f d j i e p → Turns (suc n) j i e
    unfolding known_in held
    turn n j i e h rec (Item.Text k) t x earlier s y r =
        rw (
          visit_text (visit_from f d) f q j s r n k t,
          x.1,
          known_texted Q earlier (slice j k f) x.0,
          held_texted Q earlier
              (slice j k f) x.0,
        )
        (rec k x.0 x.2 (omega (arith, h, x.3)) earlier s y r)
    turn n j i e h rec (Item.Remark k) t x earlier s y r =
        rw (visit_remark (visit_from f d) f q j s r n k t, x.1) (rec k x.0 x.2 (omega (arith, h, x.3)) earlier s y r)
    turn n j i e h rec Item.Child t x earlier s y r =
        let v = visit_from f d j (child_at f j q) (is_over q (child_at f j q) s) r in
        let c = also_named Q earlier x.0 in
        let g = go j x.0 x.2 x.4 q earlier s y r in
        let a =
        rec x.2 x.1 x.5 (omega (arith, h, x.4.before)) c (marked s (child_at f j q))
        (seen_child d j x.0 x.2 x.4 q earlier s y) v in
        rw (visit_child (visit_from f d) f q j s r n t, x.3, skip_law f d j x.0 x.2 x.4 deep)
        (record {
          index = a.index
              ∙ (ap (absorb (known_in Q c x.1)) g.index
              ∙ sym (absorb_append (known_at Q earlier x.0) (known_in Q c x.1) r.index));
          lacking = λ es z.
              let w = absorb_none (known_in Q c x.1) v.index es (sym a.index ∙ z) in
              a.lacking es z
              ∙ rw (
                g.lacking w.0 w.1,
                any_append lacks (known_at Q earlier x.0) (known_in Q c x.1),
                or_assoc r.lacking
                    (any lacks (known_at Q earlier x.0)) (any lacks (known_in Q c x.1)),
              );
        })
    turn n j i e h rec (Item.Close k) t x earlier s y r =
        rw (visit_close (visit_from f d) f q j s r n k t, x.0) (closes earlier s y r)
    turn n j i e h rec Item.Broken t x earlier s y r = absurd x

    items : (n j : ℕ) (i : Items) (e : ℕ) → ContentStands f d j i e → length f < n + j → Turns n j i e
    items zero j i e c h = absurd (omega (arith, content_inside d j i e c, h))
    items (suc n) j i e c h =
        turn n j i e h (λ k m z g. items n k m e z g) (walk.item_at f j) refl (item_law f d j i e c (walk.item_at f j) refl)

    body : (i : Items) (e : ℕ) (b : Body) → BodyTold f d i e b → (r : FoundSoFar)
        → AgreesIn (known_in Q [] i) (unmet Q (held Q [] i)) (visit_body (visit_from f d) f q r b) r
    unfolding visit_body known_in held
    body i e (Body.Open o) c r = items (suc (length f)) o i e c (omega arith) [] none_seen (seen_none q) r
    body i e (Body.Empty o) x r = rw x.0 (closes [] none_seen (seen_none q) r)
    body i e Body.Broken x r = absurd x

  -- ---- one element
  module _ (short : length f ≤ 32768) (d : ℕ) where
    -- behind a refusal nothing changes
    past : (ks : List Known) (r : FoundSoFar) (q : Refusal) → r.index ≡ Err q → Agrees ks r r
    past ks r q h = record { index = h ∙ sym (ap (absorb ks) h ∙ absorb_still ks q); lacking = λ es z. cc }

    -- a fault of its own
    faulty : (k : Known) (ks : List Known) (r : FoundSoFar) (b : Breach) (es : List Entry) → r.index ≡ Ok es
        → Some (number_of b) ≡ first_number (own_faults k) → Agrees (k ∷ ks) (refused_found r b k.place) r
    unfolding absorb
    faulty k ks r b es o e = record {
      index = sym (ap (absorb ks) (absorb_refuse k r.index es o (number_of b) e) ∙ absorb_still ks (breach_at b k.place));
      lacking = λ ds z. cc;
    }

    module _ (deep : suc d ≤ 8)
        (go : (i : ℕ) (x : Node) (e : ℕ) → ElementAt f d i x e → (q : ℕ) (earlier : List (List ℕ)) (s : Seen) → SeenIs q earlier s
        → (r : FoundSoFar) → Agrees (known_at (under (kind_name q)) earlier x)
        (visit_from f d i (child_at f i q) (is_over q (child_at f i q) s) r) r) (i : ℕ) (n : List ℕ) (l : List Attribute) (t : Items) (e : ℕ)
        (y : ElementAt f (suc d) i (node i n l t) e) (q : ℕ) (earlier : List (List ℕ)) (s : Seen) (z : SeenIs q earlier s)
        (r : FoundSoFar) where
      abbrev K : Known
      K = known_of q earlier i n l t

      -- a carried element
      module _ (c : one_of (under (kind_name q)).carried n ≡ true) where
        not_barred : one_of (under (kind_name q)).barred n ≡ false
        not_barred = carried_not_barred (kind_name q) n c

        named : kind_name (kind_under q n) ≡ n
        named = kind_named q n (carried_held (kind_name q) n c)

        abbrev own : Option Breach
        own = fault_at f i (kind_under q n) (is_over q (kind_under q n) s)

        fault_first : option_map number_of own ≡ first_number (own_faults K)
        unfolding first_fault own_fault
        fault_first =
            rw (kind_barred q n ∙ not_barred, over_is q earlier s z n c i l t)
            (by_cases (too_many K) (λ o. rw o (sym (over_law K not_barred o)))
            (λ o. rw o (fault_law K f d e y deep short (kind_under q n) (sym named) not_barred o)))

        -- what is kept of it
        kept : entry_at f i (kind_under q n) ≡ entry_of K
        unfolding entry_at
        kept =
            let a = kind_is q n (carried_held (kind_name q) n c) in
            let b = channel_law K f d e y deep short (kind_under q n) (sym named) in
            let g : gathered_at (rules_for (kind_under q n)) f i ≡ gathered_of K =
            gather_law f d i i n l t e y (rules_for (kind_under q n))
            ∙ ap (λ (m : List ℕ). gathered_list (rules_of m) l nothing_gathered) named in
            let w : row_from (kind_name (kind_under q n)) (gathered_at (rules_for (kind_under q n)) f i) ≡ row_from n (gathered_of K) =
            ap (λ (x : Gathered). row_from (kind_name (kind_under q n)) x) g ∙ ap (λ (m : List ℕ). row_from m (gathered_of K)) named in
            λ j. record { kind = a j; place = i; number = b j; row = w j }

        -- without a fault it is entered, and what it holds is visited
        enters : (es : List Entry) → r.index ≡ Ok es → first_number (own_faults K) ≡ None → (v : FoundSoFar)
            → AgreesIn (known_in (under (kind_name (kind_under q n))) [] t)
            (unmet (under (kind_name (kind_under q n))) (held (under (kind_name (kind_under q n))) [] t)) v
            (entered_found r (entry_at f i (kind_under q n)))
            → Agrees (K ∷ known_in (under n) [] t) v r
        unfolding absorb lacks any
        enters es o h v a =
            let m = named in
            let b : AgreesIn (known_in (under n) [] t) (unmet (under n) (held (under n) [] t)) v
            (entered_found r (entry_at f i (kind_under q n))) = rw m at a in
            record {
              index = b.index
                  ∙ ap (absorb (known_in (under n) [] t))
                  (ap (entered r.index) kept ∙ sym (absorb_enter K r.index es o h));
              lacking = λ ds g. b.lacking ds g
                  ∙ or_turn r.lacking (any lacks (known_in (under n) [] t)) (unmet (under n) (held (under n) [] t));
            }

        carried : Agrees (K ∷ known_in (under n) [] t) (visit_from f (suc d) i (kind_under q n) (is_over q (kind_under q n) s) r) r
        unfolding visit_from looked
        carried =
            by_index r.index
            (λ es o. rw (ap is_ok o, kind_carried q n ∙ c)
            (by_fault own
            (λ h. rw h (enters es o (sym fault_first ∙ ap (option_map number_of) h) _
            (body d (omega arith) go (kind_under q n) t e (walk.content_at f i) (content_law f d i i n l t e y (walk.content_at f i) refl)
            (entered_found r (entry_at f i (kind_under q n))))))
            (λ b h. rw h (faulty K (known_in (under n) [] t) r b es o (ap (option_map number_of) (sym h) ∙ fault_first)))))
            (λ p o. rw (ap is_ok o) (past (K ∷ known_in (under n) [] t) r p o))

      -- an element that is not carried
      barred : one_of (under (kind_name q)).barred n ≡ true
          → Agrees (K ∷ known_in (under n) [] t) (visit_from f (suc d) i (kind_under q n) (is_over q (kind_under q n) s) r) r
      unfolding visit_from looked first_fault
      barred b =
          rw (kind_carried q n ∙ barred_not_carried (kind_name q) n b, kind_barred q n ∙ b)
          (by_index r.index
          (λ es o. rw (ap is_ok o) (faulty K (known_in (under n) [] t) r Uncarried es o (sym (barred_law K b))))
          (λ p o. rw (ap is_ok o) (past (K ∷ known_in (under n) [] t) r p o)))

      -- an element that is not known
      unknown : one_of (under (kind_name q)).carried n ≡ false → one_of (under (kind_name q)).barred n ≡ false
          → Agrees [] (visit_from f (suc d) i (kind_under q n) (is_over q (kind_under q n) s) r) r
      unfolding visit_from looked absorb any
      unknown c b =
          rw (kind_carried q n ∙ c, kind_barred q n ∙ b)
          (by_cases (is_ok r.index)
          (λ o. rw o (record { index = refl; lacking = λ es g. sym (or-false r.lacking) }))
          (λ o. rw o (record { index = refl; lacking = λ es g. sym (or-false r.lacking) })))

      one : Agrees (known_at (under (kind_name q)) earlier (node i n l t))
          (visit_from f (suc d) i (child_at f i q) (is_over q (child_at f i q) s) r) r
      unfolding known_at
      one =
          rw (child_kind (suc d) i (node i n l t) e y q)
          (by_cases (one_of (under (kind_name q)).carried n)
          (λ c. rw c (carried c))
          (λ c. by_cases (one_of (under (kind_name q)).barred n) (λ b. rw (c, b) (barred b))
          (λ b. rw (c, b) (unknown c b))))

  -- ---- every element
  pub visits : length f ≤ 32768 → (d : ℕ) → d ≤ 8 → (i : ℕ) (x : Node) (e : ℕ) → ElementAt f d i x e
      → (q : ℕ) (earlier : List (List ℕ)) (s : Seen) → SeenIs q earlier s → (r : FoundSoFar)
      → Agrees (known_at (under (kind_name q)) earlier x) (visit_from f d i (child_at f i q) (is_over q (child_at f i q) s) r) r
  visits short zero h i x e y q earlier s z r = absurd (element_deep f i x e y)
  visits short (suc d) h i (node p n l t) e y q earlier s z r =
      let g = (element_law f d i (node p n l t) e y).0 in
      rw g
      (one short d h (visits short d (omega arith)) i n l t e (subst (λ (m : ℕ). ElementAt f (suc d) i (node m n l t) e) g y) q earlier
      s z r)
