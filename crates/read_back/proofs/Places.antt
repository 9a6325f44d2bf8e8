-- Every number and place that `convert` answers fits in 32 bits: a place is an offset in the file or a number of words.
use Prim.Native.Nat.{ℕ, ◌*◌, ◌^◌, ◌≤◌, ◌<◌}
use native.Mathlib.Omega.{arith}
use native.Mathlib.Nat.{suc-mul}
use mathlib.Core.Path.{◌≡◌, refl, ap}
use mathlib.Core.Option.{Option, some, none-ne-some}
use mathlib.Core.List.{List, [], ◌∷◌, ◌++◌, map}
use mathlib.Core.Bool.{Bool, true, false, ◌&&◌, ◌||◌}
use lib.Dec.{leb, eqb}
use lib.ListN.{length, length-append, length-map}
use borrow.Author.Tests.{leb-true}
use Rattle.text.specs.Texts.{same}
use Rattle.lists.proofs.Cases.{by_cases, same_pair}
use Rattle.std.specs.Prelude.{Ok, Err}
use Rattle.shape.specs.declared.Unshaped.TheVariants.{TooLong, Broken}
use Rattle.shape.specs.Shape.{Shape, Node, node, WellShaped, Shaped, shape_refusal}
use Rattle.walk.specs.WalkCode.{root_at}
use Rattle.walk.proofs.WalkLaws.{root_law, element_law}
use Rattle.records.specs.Records.{PlanStatement, trigger_words, filter_words, action_word, statement_words, timeout_word, trigger_in, filter_in}
use Rattle.code.specs.HeightsCode.{sound_code}
use Rattle.loader.specs.Plan.{Plan, words_of, statement_in, in_range}
use Rattle.loader.proofs.RecordLaws.{cause_long}
use Rattle.schema.specs.Schema.{one_of, rules_of}
use Rattle.grammar.specs.Outcome.{Becomes}
use Rattle.file_rules.specs.Element.{Known, Fault, ◌at◌if◌, worth_by, is_bad, is_not_carried, too_many, misfit, crossed, misworded, own_faults}
use Rattle.file_rules.specs.Reading.{is}
use Rattle.file_rules.specs.Document.{known_elements, place_of, lacks, element_faults}
use Rattle.document.proofs.Stood.{Stood, All, all_stood}
use Rattle.file_rules.specs.Tables.{kept, is_in, within, name_of, expressions_of, expression_of, names_of, used_names, gap, channel_named, channels_in, table_faults}
use Rattle.tables.proofs.Nested.{all_mapped, all_within, all_kept}
use Rattle.std.specs.Prelude.{Ok, Err}
use Rattle.file_rules.specs.RefusalCode.{refused_at}
use Rattle.converter.specs.Converter.{plan_for, fault_of, Composes, Judged, Meets, Refuses, Converts}
use Rattle.read_back.proofs.Takes.{is_in_range, no_faults}
use Rattle.lists.specs.Lists.{any, all, gathered}
use Rattle.lists.proofs.Parts.{and_left, and_right}

-- ---- faults of the numbers 1 to 13, at a place up to t
abbrev pub Low : ℕ → Fault → Type 0
Low t a = (1 ≤ a.number) × (a.number ≤ 13) × (a.place ≤ t)

abbrev pub Lows : ℕ → List Fault → Type 0
Lows t [] = Unit {0}
Lows t (a ∷ l) = Low t a × Lows t l

module _ (t : ℕ) where
  low_if : (n p : ℕ) (b : Bool) → 1 ≤ n → n ≤ 13 → p ≤ t → Lows t (n at p if b)
  low_if n p true o h g = ((o, h, g), tt)
  low_if n p false o h g = tt

  low_both : (l m : List Fault) → Lows t l → Lows t m → Lows t (l ++ m)
  low_both [] m h g = g
  low_both (a ∷ l) m h g = (h.0, low_both l m h.1 g)

  low_all : (f : Known → List Fault) (ks : List Known) → All (λ k. Lows t (f k)) ks → Lows t (gathered f ks)
  unfolding gathered
  low_all f [] y = tt
  low_all f (k ∷ ks) y = low_both (f k) (gathered f ks) y.0 (low_all f ks y.1)

  abbrev Placed : Known → Type 0
  Placed k = k.place ≤ t

  own_low : (k : Known) → Placed k → Lows t (own_faults k)
  unfolding own_faults
  own_low k h =
      let bad = any (λ a. is_bad (worth_by (rules_of k.name) a)) k.attributes || crossed k || misworded k in
      let odd = any (λ a. is_not_carried (worth_by (rules_of k.name) a)) k.attributes in
      by_cases (one_of k.parent.barred k.name)
      (λ b. rw b (low_if 7 k.place true (omega arith) (omega arith) h))
      (λ b. rw b
      (low_both (4 at k.place if too_many k) (5 at k.place if misfit k ++ (6 at k.place if bad ++ 7 at k.place if odd))
      (low_if 4 k.place (too_many k) (omega arith) (omega arith) h)
      (low_both (5 at k.place if misfit k) (6 at k.place if bad ++ 7 at k.place if odd)
      (low_if 5 k.place (misfit k) (omega arith) (omega arith) h)
      (low_both (6 at k.place if bad) (7 at k.place if odd) (low_if 6 k.place bad (omega arith) (omega arith) h)
      (low_if 7 k.place odd (omega arith) (omega arith) h)))))

  used_low : (earlier : List (List ℕ)) (ks : List Known) → All Placed ks → Lows t (used_names earlier ks)
  unfolding used_names
  used_low earlier [] y = tt
  used_low earlier (k ∷ ks) y =
      let b = any (same (name_of k)) earlier in
      low_both (9 at k.place if b) (used_names (earlier ++ (name_of k ∷ [])) ks) (low_if 9 k.place b (omega arith) (omega arith) y.0)
      (used_low (earlier ++ (name_of k ∷ [])) ks y.1)

  placed_kept : (p : Known → Bool) (ks : List Known) → All Placed ks → All Placed (kept p ks)
  placed_kept p ks y = all_mapped (λ k. (p k ≡ true) × Placed k) Placed (λ k z. z.1) (kept p ks) (all_kept Placed p ks y)

  -- ---- all faults of a document whose elements stand up to t
  module _ (x : Node) (root : place_of x ≤ t) (placed : All Placed (known_elements x)) where
    abbrev ks : List Known
    ks = known_elements x

    pub element_low : Lows t (element_faults x)
    unfolding element_faults
    element_low =
        low_both (3 at place_of x if eqb (length ks) 0) (gathered own_faults ks ++ 8 at place_of x if any lacks ks)
        (low_if 3 (place_of x) (eqb (length ks) 0) (omega arith) (omega arith) root)
        (low_both (gathered own_faults ks) (8 at place_of x if any lacks ks)
        (low_all own_faults ks (all_mapped Placed (λ k. Lows t (own_faults k)) own_low ks placed))
        (low_if 8 (place_of x) (any lacks ks) (omega arith) (omega arith) root))

    pub table_low : Lows t (table_faults ks)
    unfolding table_faults
    table_low =
        let cs = channels_in ks in
        let bus : Known → List Fault = λ k. 10 at k.place if gap (length cs) cs in
        let channel : Known → List Fault = λ k. 10 at k.place if any (leb (length cs)) (channel_named k) in
        let triggers = kept (is_in "TRIGGERS") ks in
        let can = kept (is "CAN_BUS") ks in
        low_both (used_names [] triggers) (gathered bus can ++ gathered channel ks)
        (used_low [] triggers (placed_kept (is_in "TRIGGERS") ks placed))
        (low_both (gathered bus can) (gathered channel ks)
        (low_all bus can (all_mapped Placed (λ k. Lows t (bus k))
        (λ k z. low_if 10 k.place (gap (length cs) cs) (omega arith) (omega arith) z) can (placed_kept (is "CAN_BUS") ks placed)))
        (low_all channel ks (all_mapped Placed (λ k. Lows t (channel k))
        (λ k z. low_if 10 k.place (any (leb (length cs)) (channel_named k)) (omega arith) (omega arith) z) ks placed)))

    pub expressions_low : All (λ k. All Placed (expressions_of k)) (kept (is "STATEMENT") ks)
    expressions_low =
        let h : All (λ k. All Placed (within k)) ks = all_within Placed x placed in
        all_mapped (λ k. (is "STATEMENT" k ≡ true) × All Placed (within k)) (λ k. All Placed (expressions_of k))
        (λ k z. placed_kept (is "EXPRESSION") (within k) z.1) (kept (is "STATEMENT") ks)
        (all_kept (λ k. All Placed (within k)) (is "STATEMENT") ks h)

  -- ---- an expression is refused by 11 or 12
  refusal_low : (names : List (List ℕ)) (text : List ℕ) (r : Option ℕ) (code : List ℕ) → Becomes names text r code → (p : ℕ) → p ≤ t
      → Lows t (fault_of r p)
  refusal_low names text r code (Becomes.breaks h) p g = ((omega arith, omega arith, g), tt)
  refusal_low names text r code (Becomes.unnamed e h n) p g = ((omega arith, omega arith, g), tt)
  refusal_low names text r code (Becomes.compiles e h n) p g = tt

  composed_low : (names : List (List ℕ)) (ks : List Known) (fs : List Fault) (ss : List PlanStatement) → Composes names ks fs ss
      → All (λ k. All Placed (expressions_of k)) ks → Lows t fs
  composed_low names [] fs ss Composes.over y = tt
  composed_low names (k ∷ ks) fs ss (Composes.next k₁ r code ks₁ gs ts b m) y =
      low_both (gathered (λ e. fault_of r e.place) (expressions_of k)) gs
      (low_all (λ e. fault_of r e.place) (expressions_of k)
      (all_mapped Placed (λ e. Lows t (fault_of r e.place)) (λ e g. refusal_low names (expression_of k) r code b e.place g)
      (expressions_of k) y.0))
      (composed_low names ks gs ts m y.1)

-- ---- the elements of a file stand in it
root_place : (s : List ℕ) (x : Node) → WellShaped s x → place_of x ≤ length s
root_place s (node p n l i) w =
    let r = root_law s (node p n l i) w in
    let g = (element_law s 7 (root_at s) (node p n l i) r.0 r.1).0 in
    omega (arith, g, r.1.before, r.1.within)

known_places : (s : List ℕ) (x : Node) → WellShaped s x → All (λ k. k.place ≤ length s) (known_elements x)
known_places s x w =
    all_mapped (Stood s) (λ k. k.place ≤ length s) (λ k z. let b = z.element.before in let e = z.element.within in omega (arith, b, e))
    (known_elements x) (all_stood s x w)

-- every fault of the elements, the tables and the expressions stands in the file
pub in_file : (s : List ℕ) (x : Node) → WellShaped s x → (fs : List Fault) (ss : List PlanStatement) → Judged x fs ss → Lows (length s) fs
in_file s x w fs ss j =
    let t = length s in
    let ks = known_elements x in
    let root = root_place s x w in
    let placed = known_places s x w in
    rw j.in_order
    (low_both t (element_faults x) (table_faults ks ++ j.late) (element_low t x root placed)
    (low_both t (table_faults ks) j.late (table_low t x root placed)
    (composed_low t (names_of ks) (kept (is "STATEMENT") ks) j.late ss j.composed (expressions_low t x root placed))))

low_up : (t u : ℕ) → t ≤ u → (l : List Fault) → Lows t l → Lows u l
low_up t u h [] y = tt
low_up t u h (a ∷ l) y = ((y.0.0, y.0.1, let g = y.0.2 in omega (arith, g, h)), low_up t u h l y.1)

-- ---- a plan in range has at most 1,590 words
row_top : {X : Type 0} (words : X → List ℕ) (ok : X → Bool) (k : ℕ) → ((x : X) → ok x ≡ true → length (words x) ≤ k) → (xs : List X)
    → all ok xs ≡ true → length (gathered words xs) ≤ length xs * k
unfolding gathered all
row_top words ok k h [] e = omega arith
row_top words ok k h (x ∷ xs) e =
    let g = h x (and_left (ok x) (all ok xs) e) in
    let r = row_top words ok k h xs (and_right (ok x) (all ok xs) e) in
    omega (arith, length-append (words x) (gathered words xs), g, r, suc-mul (length xs) k)

statement_top : (n : ℕ) (s : PlanStatement) → statement_in n s ≡ true → length (statement_words s) ≤ 73
unfolding statement_in
statement_top n s h =
    let a =
    and_left (leb s.post 1000000000 && leb (length s.actions) 6 && leb 1 (length s.code) && leb (length s.code) 64)
    (sound_code n s.code) h in
    let b = and_right (leb s.post 1000000000 && leb (length s.actions) 6 && leb 1 (length s.code)) (leb (length s.code) 64) a in
    let c = and_left (leb s.post 1000000000 && leb (length s.actions) 6 && leb 1 (length s.code)) (leb (length s.code) 64) a in
    let d =
    and_right (leb s.post 1000000000) (leb (length s.actions) 6)
    (and_left (leb s.post 1000000000 && leb (length s.actions) 6) (leb 1 (length s.code)) c) in
    let code = leb-true (length s.code) 64 b in
    let actions = leb-true (length s.actions) 6 d in
    omega (arith, length-append (map action_word s.actions) s.code, length-map s.actions action_word, code, actions)

-- the parts of the loader's test
abbrev Ranges : Plan → Type 0
Ranges p =
    (length p.triggers ≤ 32) × (length p.filters ≤ 32) × (length p.statements ≤ 16)
    × (all (trigger_in p.channels) p.triggers ≡ true)
    × (all (filter_in (2 ^ p.channels)) p.filters ≡ true) × (all (statement_in (length p.triggers)) p.statements ≡ true)

last_six : (a b c d e f g h : Bool) → (a && b && c && d && e && f && g && h) ≡ true
    → (c ≡ true) × (d ≡ true) × (e ≡ true) × (f ≡ true) × (g ≡ true) × (h ≡ true)
last_six a b c d e f g h q =
    let r = and_left (a && b && c && d && e && f && g) h q in
    let s = and_left (a && b && c && d && e && f) g r in
    let t = and_left (a && b && c && d && e) f s in
    let u = and_left (a && b && c && d) e t in (
      and_right (a && b) c (and_left (a && b && c) d u),
      and_right (a && b && c) d u,
      and_right (a && b && c && d) e t,
      and_right (a && b && c && d && e) f s,
      and_right (a && b && c && d && e && f) g r,
      and_right (a && b && c && d && e && f && g) h q,
    )

ranges : (p : Plan) → in_range p ≡ true → Ranges p
unfolding in_range
ranges p h =
    let r =
    last_six (leb 1 p.channels) (leb p.channels 5) (leb (length p.triggers) 32) (leb (length p.filters) 32)
    (leb (length p.statements) 16)
    (all (trigger_in p.channels) p.triggers) (all (filter_in (2 ^ p.channels)) p.filters)
    (all (statement_in (length p.triggers)) p.statements) h in (
      leb-true (length p.triggers) 32 r.0,
      leb-true (length p.filters) 32 r.1,
      leb-true (length p.statements) 16 r.2,
      r.3,
      r.4,
      r.5,
    )

pub plan_top : (p : Plan) → in_range p ≡ true → length (words_of p) ≤ 1590
unfolding words_of
plan_top p h =
    let r = ranges p h in
    let triggers = gathered trigger_words p.triggers in
    let filters = gathered filter_words p.filters in
    let statements = gathered statement_words p.statements in
    let a =
    row_top trigger_words (trigger_in p.channels) 6
    (λ t z. let g = cause_long (timeout_word t.timeout) t.cause in omega (arith, g)) p.triggers r.3 in
    let b = row_top filter_words (filter_in (2 ^ p.channels)) 7 (λ f z. omega arith) p.filters r.4 in
    let c = row_top statement_words (statement_in (length p.triggers)) 73 (statement_top (length p.triggers)) p.statements r.5 in
    omega (arith, length-append triggers (filters ++ statements), length-append filters statements, a, b, c, r.0, r.1, r.2)

-- ---- the plan of a file that meets the rules
pub meets_top : (s ws : List ℕ) → Meets s ws → length ws ≤ 1590
meets_top s ws m =
    let f = no_faults m.document m.statements m.faultless in
    let p = plan_top (plan_for m.statements (known_elements m.document))
    (is_in_range m.document f.0 f.1 m.statements f.2) in
    omega (arith, p, ap length m.words)

-- ---- refusals 1 and 2
shape_low : (s : List ℕ) (a : Shape) (n p : ℕ) → Shaped s a → shape_refusal a ≡ some (n, p) → (1 ≤ n) × (n ≤ 13) × (p ≤ 32768)
shape_low s (Ok u) n p h e = absurd (none-ne-some (n, p) e)
shape_low s (Err TooLong) n p h e =
    let g = same_pair _ refl e in
    (omega (arith, g.0), omega (arith, g.0), omega (arith, g.1))
shape_low s (Err (Broken q)) n p h e =
    let g = same_pair _ refl e in
    (omega (arith, g.0), omega (arith, g.0), omega (arith, g.1, h.0, h.1.1.within))

-- ---- what `convert` answers: refusals 1 to 13, at a place of a file or the length of a plan
pub refusal_top : (s : List ℕ) (room n p : ℕ) → Refuses s room n p → (1 ≤ n) × (n ≤ 13) × (p ≤ 32768)
refusal_top s room n p (Refuses.by_shape a h e) = shape_low s a n p h e
refusal_top s room n p (Refuses.by_fault x l ss short w j) =
    (low_up (length s) 32768 short (record { number = n; place = p } ∷ l) (in_file s x w (record { number = n; place = p } ∷ l) ss j)).0
refusal_top s room n p (Refuses.by_room ws m r e g) =
    let t = meets_top s ws m in
    (omega (arith, e), omega (arith, e), omega (arith, g, t))

pub places : (s d : List ℕ) (n p : ℕ) (e : List ℕ) → Converts s d (Err (refused_at n p)) e → (1 ≤ n) × (n ≤ 13) × (p ≤ 32768)
places s d n p e (Converts.refuses u h) = refusal_top s (length d) n p h

pub lengths : (s d : List ℕ) (n : ℕ) (e : List ℕ) → Converts s d (Ok n) e → n ≤ 1590
lengths s d n e (Converts.converts ws m l) = meets_top s ws m

pub fits : (s d : List ℕ) (n p : ℕ) (e : List ℕ) → Converts s d (Err (refused_at n p)) e → (n ≤ 13) × (p < 4294967296)
fits s d n p e h = let g = places s d n p e h in (g.1, omega (arith, g.2))

pub words_fit : (s d : List ℕ) (n : ℕ) (e : List ℕ) → Converts s d (Ok n) e → n < 4294967296
words_fit s d n e h = let g = lengths s d n e h in omega (arith, g)
