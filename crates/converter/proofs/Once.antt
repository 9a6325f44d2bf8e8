-- The contract of `convert` settles its answer and the buffer: the rules give one answer to a file.
use Prim.Native.Nat.{ℕ, ◌≤◌, ◌<◌}
use native.Mathlib.Omega.{arith}
use mathlib.Core.Path.{◌≡◌, refl, sym, ap, subst, ◌∙◌}
use mathlib.Core.Option.{some, none-ne-some}
use mathlib.Core.List.{List, [], ◌∷◌, ◌++◌, head-eq_of_cons-eq}
use lib.ListN.{length, drop}
use Rattle.std.specs.Prelude.{Ok, Err}
use Rattle.shape.specs.declared.Unshaped.TheVariants.{TooLong, Broken}
use Rattle.shape.specs.Shape.{Shape, Node, WellShaped, Shaped, shape_refusal}
use Rattle.shape.proofs.OneDoc.{one_doc}
use Rattle.shape.proofs.OneAnswer.{one_answer}
use Rattle.records.specs.Records.{PlanStatement}
use Rattle.loader.specs.Plan.{words_of}
use Rattle.grammar.proofs.Ruled.{becomes_once}
use Rattle.file_rules.specs.Element.{Known, Fault, value_of}
use Rattle.file_rules.specs.Reading.{is}
use Rattle.file_rules.specs.Document.{known_elements, element_faults}
use Rattle.file_rules.specs.Tables.{kept, actions_of, expressions_of, names_of, table_faults}
use Rattle.std.specs.Prelude.{Ok, Err}
use Rattle.file_rules.specs.RefusalCode.{refused_at}
use Rattle.converter.specs.Converter.{plan_for, fault_of, Composes, Judged, Meets, Refuses, Converts, Converted}
use Rattle.lists.specs.Lists.{gathered}
use Rattle.lists.proofs.Cases.{same_pair}

composes_once : (names : List (List ℕ)) (ks : List Known) (fs gs : List Fault) (ss ts : List PlanStatement) → Composes names ks fs ss
    → Composes names ks gs ts → (fs ≡ gs) × (ss ≡ ts)
composes_once names [] fs gs ss ts Composes.over Composes.over = (refl, refl)
composes_once names (k ∷ ks) fs gs ss ts (Composes.next k₁ r c ks₁ fs₁ ss₁ b m) (Composes.next k₂ q e ks₂ gs₁ ts₁ g n) =
    let o = becomes_once b g in
    let p = composes_once names ks fs₁ gs₁ ss₁ ts₁ m n in (
      λ i. gathered (λ y. fault_of (o.0 i) y.place) (expressions_of k) ++ p.0 i,
      λ i. record { post = value_of k "posttrigger"; actions = actions_of k; code = o.1 i } ∷ p.1 i,
    )

judged_once : (x : Node) (fs gs : List Fault) (ss ts : List PlanStatement) → Judged x fs ss → Judged x gs ts → (fs ≡ gs) × (ss ≡ ts)
judged_once x fs gs ss ts a b =
    let ks = known_elements x in
    let p = composes_once (names_of ks) (kept (is "STATEMENT") ks) a.late b.late ss ts a.composed b.composed in
    (a.in_order ∙ (ap (λ (l : List Fault). element_faults x ++ (table_faults ks ++ l)) p.0 ∙ sym b.in_order), p.1)

judged_same : (s : List ℕ) (x y : Node) → WellShaped s x → WellShaped s y → (fs gs : List Fault) (ss ts : List PlanStatement)
    → Judged x fs ss → Judged y gs ts → (fs ≡ gs) × (ss ≡ ts)
judged_same s x y w v fs gs ss ts a b =
    judged_once x fs gs ss ts a (subst (λ (z : Node). Judged z gs ts) (sym (one_doc s x y w v)) b)

pub meets_once : (s ws vs : List ℕ) → Meets s ws → Meets s vs → ws ≡ vs
meets_once s ws vs a b =
    let x = one_doc s a.document b.document a.spells b.spells in
    let p = judged_same s a.document b.document a.spells b.spells [] [] a.statements b.statements a.faultless
    b.faultless in
    a.words ∙ ((λ i. words_of (plan_for (p.1 i) (known_elements (x i)))) ∙ sym b.words)

-- a file is not both of good shape and refused for its shape
shapeless_shaped : (s : List ℕ) (a : Shape) (n p : ℕ) (x : Node) → length s ≤ 32768 → WellShaped s x → Shaped s a
    → shape_refusal a ≡ some (n, p) → ⊥
shapeless_shaped s (Ok u) n p x short w h e = absurd (none-ne-some (n, p) e)
shapeless_shaped s (Err TooLong) n p x short w h e = absurd (omega (arith, h, short))
shapeless_shaped s (Err (Broken q)) n p x short w h e = h.1.0 x w

-- what meets the rules is refused for want of room only
pub refused_short : (s ws : List ℕ) (room n p : ℕ) → Meets s ws → Refuses s room n p → room < length ws
refused_short s ws room n p m (Refuses.by_shape a h e) = absurd (shapeless_shaped s a n p m.document m.short m.spells h e)
refused_short s ws room n p m (Refuses.by_fault x l ss short w j) =
    absurd
    (omega (
      arith,
      ap length (judged_same s x m.document w m.spells (record { number = n; place = p } ∷ l) [] ss m.statements j
          m.faultless).0,
    ))
refused_short s ws room n p m (Refuses.by_room vs k r e g) = omega (arith, r, ap length (meets_once s ws vs m k))

abbrev Same : ℕ → ℕ → ℕ → ℕ → Type 0
Same n p m q = (n ≡ m) × (p ≡ q)

turned : {n p m q : ℕ} → Same n p m q → Same m q n p
turned o = (sym o.0, sym o.1)

by_room_once : (s ws : List ℕ) (room n p m q : ℕ) → Meets s ws → room < length ws → n ≡ 13 → p ≡ length ws → Refuses s room m q
    → Same n p m q
by_room_once s ws room n p m q k r e g (Refuses.by_shape a h t) =
    absurd (shapeless_shaped s a m q k.document k.short k.spells h t)
by_room_once s ws room n p m q k r e g (Refuses.by_fault x l ss short w j) =
    absurd
    (omega (
      arith,
      ap length (judged_same s x k.document w k.spells (record { number = m; place = q } ∷ l) [] ss k.statements j
          k.faultless).0,
    ))
by_room_once s ws room n p m q k r e g (Refuses.by_room vs o t u v) =
    (e ∙ sym u, g ∙ (ap length (meets_once s ws vs k o) ∙ sym v))

pub refuses_once : (s : List ℕ) (room n p m q : ℕ) → Refuses s room n p → Refuses s room m q → Same n p m q
refuses_once s room n p m q (Refuses.by_shape a h e) (Refuses.by_shape b g t) =
    same_pair (shape_refusal a) e (ap shape_refusal (one_answer s a b h g) ∙ t)
refuses_once s room n p m q (Refuses.by_shape a h e) (Refuses.by_fault x l ss short w j) =
    absurd (shapeless_shaped s a n p x short w h e)
refuses_once s room n p m q (Refuses.by_fault x l ss short w j) (Refuses.by_shape a h e) =
    absurd (shapeless_shaped s a m q x short w h e)
refuses_once s room n p m q (Refuses.by_fault x l ss short w j) (Refuses.by_fault y k ts long v i) =
    let a : Fault = record { number = n; place = p } in
    let b : Fault = record { number = m; place = q } in
    let o = head-eq_of_cons-eq (judged_same s x y w v (a ∷ l) (b ∷ k) ss ts j i).0 in
    (ap (λ (z : Fault). z.number) o, ap (λ (z : Fault). z.place) o)
refuses_once s room n p m q (Refuses.by_shape a h t) (Refuses.by_room ws k r e g) =
    turned (by_room_once s ws room m q n p k r e g (Refuses.by_shape a h t))
refuses_once s room n p m q (Refuses.by_fault x l ss short w j) (Refuses.by_room ws k r e g) =
    turned (by_room_once s ws room m q n p k r e g (Refuses.by_fault x l ss short w j))
refuses_once s room n p m q (Refuses.by_room ws k r e g) (Refuses.by_shape a h t) =
    by_room_once s ws room n p m q k r e g (Refuses.by_shape a h t)
refuses_once s room n p m q (Refuses.by_room ws k r e g) (Refuses.by_fault x l ss short w j) =
    by_room_once s ws room n p m q k r e g (Refuses.by_fault x l ss short w j)
refuses_once s room n p m q (Refuses.by_room ws k r e g) (Refuses.by_room vs o t u v) =
    by_room_once s ws room n p m q k r e g (Refuses.by_room vs o t u v)

pub one_converted : (s d : List ℕ) (r r' : Converted) (e e' : List ℕ) → Converts s d r e → Converts s d r' e' → (r ≡ r') × (e ≡ e')
one_converted s d r r' e e' (Converts.refuses t a) (Converts.refuses u b) =
    let o = refuses_once s (length d) t.number t.place u.number u.place a b in
    ((λ i. Err (refused_at (o.0 i) (o.1 i))), refl)
one_converted s d r r' e e' (Converts.refuses t a) (Converts.converts ws m l) =
    absurd (omega (arith, l, refused_short s ws (length d) t.number t.place m a))
one_converted s d r r' e e' (Converts.converts ws m l) (Converts.refuses t a) =
    absurd (omega (arith, l, refused_short s ws (length d) t.number t.place m a))
one_converted s d r r' e e' (Converts.converts ws m l) (Converts.converts vs n k) =
    let z = meets_once s ws vs m n in
    (ap (λ (l : List ℕ). Ok (length l)) z, ap (λ (l : List ℕ). l ++ drop (length l) d) z)
