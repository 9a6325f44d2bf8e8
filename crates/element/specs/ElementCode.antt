-- What the functions answer, for every input. Code-shaped; proofs/Laws.antt ties it to the definitions. Nothing here has to be believed.
use Rattle.std.specs.Prelude.{ℕ, zero, suc, ◌+◌, List, [], ◌∷◌, map, Bool, true, false, not, cond, ◌&&◌, ◌||◌, ltb, eqb, length, get_or, replicate, set, take, Option, Some, None, is_none, Result}
use Rattle.std.specs.Bool.{then_some}
use Prim.Native.String.{String}
use Rattle.std.proofs.Math.Seq.{slice}
use Rattle.text.specs.Texts.{bytes, same}
use Rattle.values.specs.declared.Unfit.{Unfit}
use Rattle.values.specs.Values.{worth_of}
use Rattle.shape.specs.Shape.{Attribute}
use Rattle.walk.specs.declared.TagPart.{TagPart}
use Rattle.walk.specs.declared.Part.{Part}
use Rattle.walk.specs.declared.Body.{Body}
use Rattle.walk.specs.WalkCode as walk
use Rattle.shape.specs.Text.{trimmed}
use Rattle.schema.specs.Schema.{Rule, ◌to◌, rules_of}
use Rattle.schema.specs.SchemaCode.{attribute_count, kind_name, attribute_name, attribute_of, knows, demands}
use Rattle.file_rules.specs.Element.{worth_by, is_bad, is_not_carried, good_of, Fault}
use Rattle.file_rules.specs.declared.Breach.{Breach}
use Rattle.file_rules.specs.declared.Breach.TheVariants.{Misfit, Misvalued, Uncarried}
use Rattle.element.specs.declared.Gathered.{Gathered}
use Rattle.lists.specs.Lists.{any}
use Rattle.lists.specs.BitsCode.{upto, has_bit, with_bit}

-- nothing gathered
unfoldable pub nothing_gathered : Gathered
nothing_gathered = record { five = false; six = false; seven = false; has = 0; values = replicate attribute_count 0 }

abbrev pub put_worth : Gathered → ℕ → Result ℕ Unfit → Gathered
put_worth g a w =
    record {
      five = g.five;
      six = is_bad w || g.six;
      seven = is_not_carried w
          || g.seven;
      has = with_bit g.has a;
      values = set g.values a (good_of w);
    }

abbrev pub unfitted : Gathered → Gathered
unfitted g = record { five = true; six = g.six; seven = g.seven; has = g.has; values = g.values }

abbrev pub rules_for : ℕ → List Rule
rules_for kind = rules_of (kind_name kind)

-- an attribute that has no rule or was there before does not fit
unfoldable pub judged : List Rule → Gathered → Attribute → Gathered
judged rs g a =
    cond (knows rs a.name)
    (cond (has_bit g.has (attribute_of a.name)) (unfitted g) (put_worth g (attribute_of a.name) (worth_by rs a))) (unfitted g)

unfoldable pub gathered_list : List Rule → List Attribute → Gathered → Gathered
gathered_list rs [] g = g
gathered_list rs (a ∷ l) g = gathered_list rs l (judged rs g a)

-- an attribute as it stands in a file, and those from j on; n is more than there can be
pub record Placed : Type 0 where
  pub name : Part
  pub value : Part

abbrev pub placed : ℕ → ℕ → ℕ → ℕ → Placed
placed a e c k = record { name = record { from = a; to = e }; value = record { from = c; to = k } }

abbrev pub spelt : List ℕ → Placed → Attribute
spelt f p = record { name = slice p.name.from p.name.to f; value = slice p.value.from p.value.to f }

unfoldable pub placed_from : List ℕ → ℕ → ℕ → List Placed
placed_from f zero j = []
placed_from f (suc n) j =
    elim (walk.part_at f j) [
      | TagPart.Attribute a e c k ↦ placed a e c k ∷ placed_from f n (k + 1)
      | TagPart.Open o ↦ []
      | TagPart.Empty e ↦ []
      | TagPart.Broken ↦ []
    ]

abbrev pub placed_behind : List ℕ → ℕ → List Placed
placed_behind f j = placed_from f (suc (length f)) j

-- the attributes behind a name that ends at j, and of the element at i, which has these rules
abbrev pub gathered_behind : List Rule → List ℕ → ℕ → Gathered
gathered_behind rs f j = gathered_list rs (map (spelt f) (placed_behind f j)) nothing_gathered

unfoldable pub gathered_at : List Rule → List ℕ → ℕ → Gathered
gathered_at rs f i = gathered_behind rs f (walk.name_at f i).to

-- an attribute by its name
abbrev pub flag_of : ℕ → String → Bool
flag_of h n = has_bit h (attribute_of (bytes n))

abbrev pub number_of : List ℕ → String → ℕ
number_of v n = get_or v (attribute_of (bytes n)) 0

-- a required attribute lacks, or one of dlc and dlc_min
unfoldable pub lacks_required : List Rule → ℕ → Bool
lacks_required rs h = any (λ a. demands rs (attribute_name a) && not (has_bit h a)) (upto 64)

unfoldable pub unpaired : ℕ → Bool
unpaired h = flag_of h "dlc" && not (flag_of h "dlc_min") || flag_of h "dlc_min" && not (flag_of h "dlc")

unfoldable pub lacking : List Rule → ℕ → Bool
lacking rs h = lacks_required rs h || unpaired h

-- the bounds of identifiers and lengths
unfoldable pub bounds_crossed : ℕ → List ℕ → Bool
bounds_crossed h v =
    (flag_of h "can_ext" && eqb (number_of v "can_ext") 0 && (ltb 2047 (number_of v "msgid") || ltb 2047 (number_of v "msgid_min")))
    || ltb (number_of v "msgid") (number_of v "msgid_min") || ltb (number_of v "dlc") (number_of v "dlc_min")

abbrev pub is_kind : ℕ → String → Bool
is_kind kind n = same (kind_name kind) (bytes n)

-- the text of an element with that content, of which there is room for 32,768 bytes, and of the element at i
abbrev pub short_in : List ℕ → Body → List ℕ
short_in f b = trimmed (take 32768 (walk.text_in f b))

abbrev pub short_text : List ℕ → ℕ → List ℕ
short_text f i = trimmed (take 32768 (walk.text_at f i))

-- what a text says as a channel, and as the version that is carried: its number (0 for a version); none, if it is misspelt
abbrev pub worth_said : Result ℕ Unfit → Option ℕ
worth_said w = cond (is_bad w) None (Some (good_of w))

abbrev pub channel_said : List ℕ → Option ℕ
channel_said t = worth_said (worth_of (0 to 4) t)

abbrev pub version_said : List ℕ → Option ℕ
version_said t = then_some {T = ℕ} (same t (bytes "2.0")) 0

-- the same in an element of the kind; stray text aside
unfoldable pub said : ℕ → List ℕ → Option ℕ
said kind t = cond (is_kind kind "VERSION") (version_said t) (cond (is_kind kind "CHANNEL") (channel_said t) (Some 0))

abbrev pub said_at : ℕ → List ℕ → ℕ → Option ℕ
said_at kind f i = said kind (short_text f i)

-- the kinds that read a text of their own; in every other only blanks may stand
unfoldable pub worded : ℕ → Bool
worded kind = is_kind kind "VERSION" || is_kind kind "CHANNEL" || is_kind kind "EXPRESSION"

-- a text t is bad, if it is misspelt where it is read, and else if it is there
abbrev pub bad_in : ℕ → Bool → List ℕ → Bool
bad_in kind misspelt t = misspelt || (not (worded kind) && walk.stray t)

abbrev pub bad_text : ℕ → List ℕ → ℕ → Bool
bad_text kind f i = bad_in kind (is_none (said_at kind f i)) (walk.text_at f i)

-- the first of 5, 6, 7 for a value
unfoldable pub verdict : List Rule → Bool → Gathered → Option Breach
verdict rs t g =
    cond (g.five || lacking rs g.has) (Some Misfit)
    (cond (g.six || bounds_crossed g.has g.values || t) (Some Misvalued) (cond g.seven (Some Uncarried) None))

unfoldable pub own_fault : ℕ → List ℕ → ℕ → Option Breach
own_fault kind f i = verdict (rules_for kind) (bad_text kind f i) (gathered_at (rules_for kind) f i)

-- the same, stray text aside
unfoldable pub tag_fault : ℕ → List ℕ → ℕ → Option Breach
tag_fault kind f i = verdict (rules_for kind) (is_none (said_at kind f i)) (gathered_at (rules_for kind) f i)

-- the number of the first fault
unfoldable pub first_number : List Fault → Option ℕ
first_number [] = None
first_number (x ∷ l) = Some x.number

-- the value of the first attribute n, as a part of the file; nothing at 0 if there is none
unfoldable pub value_in : List ℕ → List ℕ → List Placed → Part
value_in n f [] = record { from = 0; to = 0 }
value_in n f (p ∷ ps) = cond (same (spelt f p).name n) p.value (value_in n f ps)

unfoldable pub value_at : List ℕ → List ℕ → ℕ → Part
value_at n f i = value_in n f (placed_behind f (walk.name_at f i).to)
