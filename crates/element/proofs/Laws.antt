-- What the answers are on a file of good shape: the faults and values of crates/file_rules/specs/Element.antt.
use Prim.Native.Nat.{ℕ, suc, ◌≤◌}
use Prim.Native.String.{String}
use native.Mathlib.Omega.{arith}
use mathlib.Core.Path.{◌≡◌, refl, sym, ap, ◌∙◌, subst}
use mathlib.Core.List.{List, [], ◌∷◌, ◌++◌, map, append-nil}
use mathlib.Core.Bool.{Bool, true, false, not, cond, ◌&&◌, ◌||◌, or-false, or_assoc}
use lib.ListN.{length}
use Rattle.std.specs.Bool.{then_some}
use Rattle.std.specs.Prelude.{Option, Some, None, is_none, option_map, unwrap_or}
use Rattle.text.proofs.Equal.{same_equal}
use Rattle.std.specs.Prelude.{Result, Ok, Err}
use Rattle.values.specs.declared.Unfit.{Unfit}
use Rattle.values.specs.declared.Unfit.TheVariants.{BadValue, NotCarried}
use lib.Seq.{slice}
use Rattle.text.specs.Texts.{bytes, same}
use Rattle.lists.proofs.Cases.{by_cases}
use Rattle.values.specs.Values.{worth_of}
use Rattle.shape.specs.Shape.{Attribute, node, Items}
use Rattle.shape.specs.Text.{joined, trimmed}
use Rattle.walk.specs.StandsCode.{ElementAt}
use Rattle.walk.specs.WalkCode as walk
use Rattle.walk.proofs.WalkLaws.{element_law}
use Rattle.schema.specs.Schema.{Rule, ◌to◌, one_of, rules_of}
use Rattle.schema.specs.SchemaCode.{attributes, kind_name, knows}
use Rattle.schema.proofs.Laws.{Listed, listed}
use Rattle.file_rules.specs.Element.{Known, Fault, ◌at◌if◌, is_bad, is_not_carried, good_of, worth_by, given_value, given, has, value_of, channel_of, too_many, misfit, crossed, misworded, own_faults}
use Rattle.file_rules.specs.declared.Breach.TheVariants.{Misfit, Misvalued, Uncarried}
use Rattle.file_rules.specs.RefusalCode as refusals
use Rattle.element.specs.declared.Gathered.{Gathered}
use Rattle.element.specs.ElementCode.{nothing_gathered, spelt, placed_behind, gathered_at, gathered_list, flag_of, number_of, is_kind, lacks_required, unpaired, lacking, bounds_crossed, short_text, worth_said, channel_said, version_said, said, said_at, worded, bad_text, verdict, own_fault, first_number, value_at}
use Rattle.lists.proofs.Parts.{neither}
use Rattle.element.proofs.Gathers.{five_is, bad_is, not_carried_is, given_is, spelled_is}
use Rattle.element.proofs.Required.{lacks_by, lacks_is}
use Rattle.element.proofs.Texts.{short_law, stray_law}
use Rattle.element.proofs.Tags.{placed_law, spells}
use Rattle.lists.specs.Lists.{any, Every}

-- ---- the faults of an element
first_at : (n p : ℕ) (b : Bool) (fs : List Fault) → first_number (n at p if b ++ fs) ≡ cond b (Some n) (first_number fs)
unfolding first_number
first_at n p true fs = refl
first_at n p false fs = refl

abbrev bad_in : Known → Bool
bad_in k = any (λ a. is_bad (worth_by (rules_of k.name) a)) k.attributes

abbrev barred_in : Known → Bool
barred_in k = any (λ a. is_not_carried (worth_by (rules_of k.name) a)) k.attributes

first_is : (k : Known) → one_of k.parent.barred k.name ≡ false
    → first_number (own_faults k)
    ≡ cond (too_many k) (Some 4)
    (cond (misfit k) (Some 5) (cond (bad_in k || crossed k || misworded k) (Some 6) (cond (barred_in k) (Some 7) None)))
unfolding own_faults first_number
first_is k h =
    let p = k.place in
    let seven = 7 at p if barred_in k in
    let six = 6 at p if (bad_in k || crossed k || misworded k) ++ seven in
    rw h
    (first_at 4 p (too_many k) (5 at p if misfit k ++ six) ∙ ap (cond (too_many k) (Some 4))
    (first_at 5 p (misfit k) six ∙ ap (cond (misfit k) (Some 5))
    (first_at 6 p (bad_in k || crossed k || misworded k) seven
    ∙ ap (cond (bad_in k || crossed k || misworded k) (Some 6)) (ap first_number (sym (append-nil seven)) ∙ first_at 7 p (barred_in k) []))))

pub over_law : (k : Known) → one_of k.parent.barred k.name ≡ false → too_many k ≡ true → first_number (own_faults k) ≡ Some 4
over_law k h t = rw t at (first_is k h)

pub barred_law : (k : Known) → one_of k.parent.barred k.name ≡ true → first_number (own_faults k) ≡ Some 7
unfolding own_faults first_number
barred_law k h = rw h

-- every fault is at the element
abbrev Own : Known → Fault → Type 0
Own k x = x.place ≡ k.place

module _ (k : Known) where
  own_if : (n : ℕ) (b : Bool) (l : List Fault) → Every (Own k) l → Every (Own k) (n at k.place if b ++ l)
  unfolding Every
  own_if n true l y = (refl, y)
  own_if n false l y = y

  all_own : Every (Own k) (own_faults k)
  unfolding own_faults Every
  all_own =
      by_cases (one_of k.parent.barred k.name) (λ t. rw t (refl, tt))
      (λ t. rw (t, ← append-nil (7 at k.place if barred_in k))
      (own_if 4 (too_many k) _ (own_if 5 (misfit k) _
      (own_if 6 (bad_in k || crossed k || misworded k) _ (own_if 7 (barred_in k) [] tt)))))

  pub fault_place : (x : Fault) (fs : List Fault) → own_faults k ≡ x ∷ fs → x.place ≡ k.place
  unfolding Every
  fault_place x fs e = (subst (Every (Own k)) e all_own).0

-- an element without a fault: no test finds one
pub record Clean (k : Known) : Type 0 where
  pub barred : one_of k.parent.barred k.name ≡ false
  pub over : too_many k ≡ false
  pub fits : misfit k ≡ false
  pub good : any (λ a. is_bad (worth_by (rules_of k.name) a)) k.attributes ≡ false
  pub bounds : crossed k ≡ false
  pub words : misworded k ≡ false
  pub carried : any (λ a. is_not_carried (worth_by (rules_of k.name) a)) k.attributes ≡ false

none_if : (b : Bool) (n : ℕ) (x : Option ℕ) → cond b (Some n) x ≡ None → (b ≡ false) × (x ≡ None)
none_if true n x e = cc
none_if false n x e = (refl, e)

pub clean_law : (k : Known) → first_number (own_faults k) ≡ None → Clean k
clean_law k e =
    let seven : Option ℕ = cond (barred_in k) (Some 7) None in
    let six : Option ℕ = cond (bad_in k || crossed k || misworded k) (Some 6) seven in
    by_cases (one_of k.parent.barred k.name)
    (λ t. cc (barred_law k t))
    (λ t.
    let a = none_if (too_many k) 4 (cond (misfit k) (Some 5) six) (sym (first_is k t) ∙ e) in
    let b = none_if (misfit k) 5 six a.1 in
    let c = none_if (bad_in k || crossed k || misworded k) 6 seven b.1 in
    let u = neither (bad_in k || crossed k) (misworded k) c.0 in
    let v = neither (bad_in k) (crossed k) u.0 in
    record
    { barred = t; over = a.0; fits = b.0; good = v.0; bounds = v.1; words = u.1; carried = (none_if (barred_in k) 7 None c.1).0 })

-- the numbers of 5, 6 and 7 for a value
numbered : (a b c : Bool)
    → option_map refusals.number_of (cond a (Some Misfit) (cond b (Some Misvalued) (cond c (Some Uncarried) None)))
    ≡ cond a (Some 5) (cond b (Some 6) (cond c (Some 7) None))
numbered true b c = refl
numbered false true c = refl
numbered false false true = refl
numbered false false false = refl

-- ---- what is gathered of an element
abbrev pub glean : Known → Gathered
glean k = gathered_list (rules_of k.name) k.attributes nothing_gathered

module _ (k : Known) where
  abbrev rs : List Rule
  rs = rules_of k.name

  abbrev lists : (n : List ℕ) → knows rs n ≡ true → Listed n
  lists = listed k.name

  -- where no attribute misfits, each by its name
  module _ (fit : (glean k).five ≡ false) where
    has_here : (n : String) → Listed (bytes n) → flag_of (glean k).has n ≡ has k n
    has_here n = given_is rs lists k.attributes fit (bytes n)

    value_here : (n : String) → Listed (bytes n) → number_of (glean k).values n ≡ value_of k n
    value_here n = spelled_is rs lists k.attributes fit (bytes n)

    odd_is : unpaired (glean k).has ≡ (has k "dlc" && not (has k "dlc_min") || has k "dlc_min" && not (has k "dlc"))
    unfolding unpaired attributes any same bytes
    odd_is = rw (has_here "dlc" refl, has_here "dlc_min" refl)

    crossed_is : bounds_crossed (glean k).has (glean k).values ≡ crossed k
    unfolding bounds_crossed crossed attributes any same bytes
    crossed_is =
        rw (has_here "can_ext" refl, value_here "can_ext" refl)
        (rw (value_here "msgid" refl, value_here "msgid_min" refl, value_here "dlc" refl, value_here "dlc_min" refl))

  misfit_is : misfit k ≡ ((glean k).five || lacking rs (glean k).has)
  unfolding misfit lacking knows
  misfit_is =
      let got : List ℕ → Bool = λ n. given n k.attributes in
      let o = has k "dlc" && not (has k "dlc_min") in
      let u = has k "dlc_min" && not (has k "dlc") in
      let v = (glean k).five in
      ap (λ (b : Bool). b || lacks_by got rs || o || u) (sym (five_is rs lists k.attributes))
      ∙ (or_assoc (v || lacks_by got rs) o u ∙ or_assoc v (lacks_by got rs) (o || u) ∙ by_cases v (λ t. rw t)
      (λ t.
      ap (λ (b : Bool). v || (b || (o || u))) (lacks_is rs lists got (glean k).has (given_is rs lists k.attributes t))
      ∙ ap (λ (b : Bool). v || (lacks_required rs (glean k).has || b)) (sym (odd_is t))))

  module _ (m : misfit k ≡ false) where
    fits : (glean k).five ≡ false
    fits = (neither (glean k).five (lacking rs (glean k).has) (sym misfit_is ∙ m)).0

    pub value_law : (n : String) → Listed (bytes n) → number_of (glean k).values n ≡ value_of k n
    value_law = value_here fits

    pub has_law : (n : String) → Listed (bytes n) → flag_of (glean k).has n ≡ has k n
    has_law = has_here fits

  verdict_is : one_of k.parent.barred k.name ≡ false → too_many k ≡ false
      → option_map refusals.number_of (verdict rs (misworded k) (glean k)) ≡ first_number (own_faults k)
  unfolding verdict
  verdict_is h m =
      let g = glean k in
      let rest : Option ℕ = cond (bad_in k || crossed k || misworded k) (Some 6) (cond (barred_in k) (Some 7) None) in
      numbered (g.five || lacking rs g.has) (g.six || bounds_crossed g.has g.values || misworded k) g.seven
      ∙ sym (first_is k h ∙ ap (λ (b : Bool). cond b (Some 4) (cond (misfit k) (Some 5) rest)) m
      ∙ ap (λ (b : Bool). cond b (Some 5) rest) misfit_is
      ∙ by_cases (g.five || lacking rs g.has)
      (λ t. rw t)
      (λ t.
      let v = (neither g.five (lacking rs g.has) t).0 in
      ap (cond (g.five || lacking rs g.has) (Some 5))
      (rw (← crossed_is v, ← bad_is rs lists k.attributes v, ← not_carried_is rs lists k.attributes v))))

-- ---- an element that stands in a file
module _ (f : List ℕ) (d i p : ℕ) (n : List ℕ) (l : List Attribute) (its : Items) (e : ℕ) (y : ElementAt f (suc d) i (node p n l its) e)
  where
    placed_are : map (spelt f) (placed_behind f (walk.name_at f i).to) ≡ l
    placed_are = placed_law f d its e (suc (length f)) (walk.name_at f i).to l (element_law f d i (node p n l its) e y).2 (omega arith)

    -- what is gathered from its start tag is gathered from the list of its attributes
    pub gather_law : (rs : List Rule) → gathered_at rs f i ≡ gathered_list rs l nothing_gathered
    unfolding gathered_at
    gather_law rs = ap (λ (m : List Attribute). gathered_list rs m nothing_gathered) placed_are

    -- the value of an attribute, where it is given; that the part lies in the file is `value_bounds`
    pub spelled_law : (m : List ℕ) → given m l ≡ true → slice (value_at m f i).from (value_at m f i).to f ≡ given_value m l
    unfolding value_at
    spelled_law m t =
        spells m f (placed_behind f (walk.name_at f i).to) (ap (given m) placed_are ∙ t) ∙ ap (given_value m) placed_are

-- is the text t, or stray text, wrong in the element n
abbrev wording : List ℕ → List ℕ → Bool → Bool
wording n t s =
    cond (same n (bytes "VERSION")) (not (same t (bytes "2.0")))
    (cond (same n (bytes "CHANNEL")) (is_bad (worth_of (0 to 4) t)) (not (same n (bytes "EXPRESSION")) && s))

wrong : (v c e p q s : Bool) → (cond v p (cond c q false) || (not (v || c || e) && s)) ≡ cond v p (cond c q (not e && s))
wrong true c e p q s = or-false p
wrong false true e p q s = or-false q
wrong false false e p q s = refl

-- is a text misspelt, by whether it is that of a VERSION, the version that is carried, that of a CHANNEL, bad as such, and its number
misspelt_by : (v a c b : Bool) (x : ℕ)
    → is_none (cond v (then_some {T = ℕ} a 0) (cond c (cond b None (Some x)) (Some 0))) ≡ cond v (not a) (cond c b false)
misspelt_by true true c b x = refl
misspelt_by true false c b x = refl
misspelt_by false a true true x = refl
misspelt_by false a true false x = refl
misspelt_by false a false b x = refl

-- the number that a text gives
worth_number : (w : Result ℕ Unfit) → unwrap_or (worth_said w) 0 ≡ good_of w
worth_number (Ok v) = refl
worth_number (Err BadValue) = refl
worth_number (Err NotCarried) = refl

said_number : (n t : List ℕ)
    → unwrap_or (cond (same n (bytes "VERSION")) (version_said t) (cond (same n (bytes "CHANNEL")) (channel_said t) (Some 0))) 0
    ≡ cond (same n (bytes "CHANNEL")) (good_of (worth_of (0 to 4) t)) 0
unfolding bytes same
said_number n t =
    by_cases (same n (bytes "VERSION"))
    (λ v. rw (same_equal n (bytes "VERSION") v) (by_cases (same t (bytes "2.0")) (λ a. rw a) (λ a. rw a)))
    (λ v. rw v (by_cases (same n (bytes "CHANNEL")) (λ c. rw c (worth_number (worth_of (0 to 4) t))) (λ c. rw c)))

-- a known element that stands in a file
module _ (k : Known) (f : List ℕ) (d e : ℕ) (y : ElementAt f (suc d) k.place (node k.place k.name k.attributes k.items) e)
    (deep : suc d ≤ 8) (room : length f ≤ 32768) where
  short : short_text f k.place ≡ trimmed (joined k.items)
  short = short_law f (suc d) k.place k.place k.name k.attributes k.items e y deep room

  pub channel_law : (kind : ℕ) → k.name ≡ kind_name kind
      → unwrap_or (said_at kind f k.place) 0 ≡ cond (same k.name (bytes "CHANNEL")) (good_of (channel_of k)) 0
  unfolding said
  channel_law kind named = rw (short, named) (said_number (kind_name kind) (trimmed (joined k.items)))

  -- its text
  words_law : (kind : ℕ) → k.name ≡ kind_name kind → bad_text kind f k.place ≡ misworded k
  unfolding said worded misworded
  words_law kind named =
      let tx = trimmed (joined k.items) in
      let s = not (worded kind) && walk.stray (walk.text_at f k.place) in
      ap (λ (b : Bool). b || s) (misspelt_by (is_kind kind "VERSION") _ (is_kind kind "CHANNEL") _ _)
      ∙ wrong (is_kind kind "VERSION") (is_kind kind "CHANNEL") (is_kind kind "EXPRESSION") _ _ _
      ∙ ap (λ (t : List ℕ). wording (kind_name kind) t (walk.stray (walk.text_at f k.place))) short
      ∙ ap (wording (kind_name kind) tx) (stray_law f (suc d) k.place k.place k.name k.attributes k.items e y deep)
      ∙ ap (λ (n : List ℕ). wording n tx (not (same tx []))) (sym named)

  pub fault_law : (kind : ℕ) → k.name ≡ kind_name kind → one_of k.parent.barred k.name ≡ false → too_many k ≡ false
      → option_map refusals.number_of (own_fault kind f k.place) ≡ first_number (own_faults k)
  unfolding own_fault
  fault_law kind named h m =
      let i = k.place in
      let numbers = option_map refusals.number_of in
      ap (λ (b : Bool). numbers (verdict (rules_of (kind_name kind)) b (gathered_at (rules_of (kind_name kind)) f i))) (words_law kind named)
      ∙ (ap (λ (n : List ℕ). numbers (verdict (rules_of n) (misworded k) (gathered_at (rules_of n) f i))) (sym named)
      ∙ (ap (λ (g : Gathered). numbers (verdict (rules_of k.name) (misworded k) g))
      (gather_law f d i i k.name k.attributes k.items e y (rules_of k.name)) ∙ verdict_is k h m))
