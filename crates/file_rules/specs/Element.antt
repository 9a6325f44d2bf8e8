-- Paper 01, "Values" and "Refusal numbers": a known element, its values, its own faults, and what its numbers are read from.
use Rattle.std.specs.Prelude.{Result, Ok, Err, ℕ, ◌≡◌, ◌⊎◌, List, [], ◌∷◌, ◌++◌, Bool, true, false, not, cond, ◌&&◌, ◌||◌, leb, ltb, eqb, length}
use Prim.Native.String.{String}
use Rattle.text.specs.Texts.{bytes, same}
use Rattle.values.specs.declared.Sort.TheVariants.{Numeric, Timeout}
use Rattle.values.specs.declared.Unfit.{Unfit}
use Rattle.values.specs.Values.{refusal_of, worth_of}
use Rattle.values.specs.Numbers.{IsNumber}
use Rattle.shape.specs.Shape.{Attribute, Items}
use Rattle.shape.specs.Text.{joined, trimmed}
use Rattle.schema.specs.declared.Times.TheVariants.{Once, OneTo, UpTo}
use Rattle.schema.specs.Schema.{Parent, Rule, ◌to◌, one_of, rules_of}
use Rattle.lists.specs.Lists.{any}

-- a known element: what its parent may hold, the names of the carried elements before it under that parent, and itself
pub record Known : Type 0 where
  pub parent : Parent
  pub earlier : List (List ℕ)
  pub place : ℕ
  pub name : List ℕ
  pub attributes : List Attribute
  pub items : Items

-- ---- its values
-- what a value is worth by the rule for its attribute; an attribute that no rule names has given 5 before this is asked
unfoldable pub worth_by : List Rule → Attribute → Result ℕ Unfit
worth_by [] a = Ok 0
worth_by (r ∷ rs) a = cond (same a.name (bytes r.name)) (worth_of r.sort a.value) (worth_by rs a)

abbrev pub is_bad : Result ℕ Unfit → Bool
is_bad w = elim w [ Ok v ↦ false | Err u ↦ eqb (refusal_of u) 6 ]

abbrev pub is_not_carried : Result ℕ Unfit → Bool
is_not_carried w = elim w [ Ok v ↦ false | Err u ↦ eqb (refusal_of u) 7 ]

-- the number that it gives. 0 where it gives none is never seen: such a value has given 6 or 7 before the number is asked for
abbrev pub good_of : Result ℕ Unfit → ℕ
good_of w = elim w [ Ok v ↦ v | Err u ↦ 0 ]

-- the value of the attribute n, and the number that it gives; 0 where it gives none
unfoldable pub given_value : List ℕ → List Attribute → List ℕ
given_value n [] = []
given_value n (a ∷ l) = cond (same a.name n) a.value (given_value n l)

abbrev pub value_of : Known → String → ℕ
value_of k n = good_of (worth_by (rules_of k.name) (record { name = bytes n; value = given_value (bytes n) k.attributes }))

unfoldable pub given : List ℕ → List Attribute → Bool
given n l = any (λ a. same a.name n) l

abbrev pub has : Known → String → Bool
has k n = given (bytes n) k.attributes

abbrev pub text_of : Known → List ℕ
text_of k = trimmed (joined k.items)

-- "CHANNEL: text a number 0 to 4"
abbrev pub channel_of : Known → Result ℕ Unfit
channel_of k = worth_of (0 to 4) (text_of k)

-- ---- its faults: a number and a place
pub record Fault : Type 0 where
  pub number : ℕ
  pub place : ℕ

infix 80 ◌at◌if◌
abbrev pub ◌at◌if◌ : ℕ → ℕ → Bool → List Fault
◌at◌if◌ n p b = cond b (record { number = n; place = p } ∷ []) []

-- 4 "over a limit or given twice"
unfoldable pub too_many : Known → Bool
too_many k =
    elim k.parent.times
    [ Once ↦ any (same k.name) k.earlier | OneTo m ↦ leb m (length k.earlier) | UpTo m ↦ leb m (length k.earlier) ]

-- 5 "attribute unknown, repeated or lacking"; dlc and dlc_min "both or neither (else 5)"
unfoldable pub repeated : List Attribute → Bool
repeated [] = false
repeated (a ∷ l) = given a.name l || repeated l

unfoldable pub misfit : Known → Bool
misfit k =
    any (λ a. not (any (λ r. same a.name (bytes r.name)) (rules_of k.name))) k.attributes || repeated k.attributes
    || any (λ r. r.required && not (has k r.name)) (rules_of k.name) || (has k "dlc" && not (has k "dlc_min"))
    || (has k "dlc_min" && not (has k "dlc"))

-- 6 "0 to 2047 if can_ext is NO"; "No lower bound is above its upper."
unfoldable pub crossed : Known → Bool
crossed k =
    (has k "can_ext" && eqb (value_of k "can_ext") 0 && (ltb 2047 (value_of k "msgid") || ltb 2047 (value_of k "msgid_min")))
    || ltb (value_of k "msgid") (value_of k "msgid_min") || ltb (value_of k "dlc") (value_of k "dlc_min")

-- "VERSION: text `2.0`. CHANNEL: text a number 0 to 4 .. Only VERSION, CHANNEL and EXPRESSION may have text."
unfoldable pub misworded : Known → Bool
misworded k =
    cond (same k.name (bytes "VERSION")) (not (same (text_of k) (bytes "2.0")))
    (cond (same k.name (bytes "CHANNEL")) (is_bad (channel_of k)) (not (same k.name (bytes "EXPRESSION")) && not (same (text_of k) [])))

-- "each 4, 7 for its kind, 5, 6, 7 for a value"; what is not carried is "counted for no limit"
unfoldable pub own_faults : Known → List Fault
own_faults k =
    cond (one_of k.parent.barred k.name) (7 at k.place if true)
    (4 at k.place if too_many k
    ++ (5 at k.place if misfit k
    ++ (6 at k.place if (any (λ a. is_bad (worth_by (rules_of k.name) a)) k.attributes || crossed k || misworded k)
    ++ 7 at k.place if any (λ a. is_not_carried (worth_by (rules_of k.name) a)) k.attributes)))

-- ---- "No mark inside a number is ever skipped": where k gives the attribute of the rule r, its number is that of the whole value. "Only a
-- timeout may also be `-1`."
pub record ReadWhole (r : Rule) (s : List ℕ) (v : ℕ) : Type 0 where
  pub number : (lo hi most : ℕ) → r.sort ≡ Numeric lo hi most → IsNumber s v
  pub timeout : r.sort ≡ Timeout → (same s (bytes "-1") ≡ true) ⊎ IsNumber s v

abbrev pub ReadsWhole : Known → Rule → Type 0
ReadsWhole k r = has k r.name ≡ true → ReadWhole r (given_value (bytes r.name) k.attributes) (value_of k r.name)
