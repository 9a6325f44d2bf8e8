-- Numbers for the elements and the attributes that the tables name, and what the tables say of these numbers: the code's own tables.
-- Nothing here has to be believed.
use Rattle.std.specs.Prelude.{◌≡◌, refl, Option, Some, None, map, leb, ltb, ℕ, ◌+◌, ◌*◌, ◌-◌, ◌/◌, ◌%◌, List, [], ◌∷◌, ◌++◌, Bool, true, not, cond, ◌&&◌, ◌||◌, length, get_or, set, replicate, take, drop}
use Prim.Native.String.{String}
use Rattle.text.specs.Texts.{bytes, same}
use Rattle.values.specs.declared.Sort.{Sort}
use Rattle.values.specs.declared.Sort.TheVariants.{Unread}
use Rattle.schema.specs.Schema.{Rule, ElementRules, one_of, parents, under, elements, rules_of}
use Rattle.lists.specs.Lists.{any}
use Rattle.lists.specs.BitsCode.{from, upto}

-- names by number
abbrev pub Names : Type 0
Names = List String

-- an element's number, its kind, is where its name stands here: 0 is the file
unfoldable pub names : List String
names =
    "" ∷ "KVASER" ∷ "VERSION" ∷ "SETTINGS" ∷ "MODE" ∷ "CAN_BUS" ∷ "PARAMETERS" ∷ "TRIGGERBLOCK" ∷ "TRIGGERS" ∷ "TRIGGER_MSG_ID"
    ∷ "TRIGGER_MSG_DLC" ∷ "TRIGGER_MSG_ERROR_FRAME" ∷ "TRIGGER_STARTUP" ∷ "STATEMENTS" ∷ "STATEMENT" ∷ "EXPRESSION" ∷ "ACTIONS"
    ∷ "ACTION_START_LOG" ∷ "ACTION_STOP_LOG" ∷ "ACTION_STOP_LOG_COMPLETELY" ∷ "FILTERS" ∷ "MESSAGE_PASS" ∷ "MESSAGE_STOP" ∷ "CHANNEL"
    ∷ "PARAMETERS_FD" ∷ "TRIGGER_SIGVAL" ∷ "TRIGGER_EXTERNAL" ∷ "TRIGGER_TIMER" ∷ "TRIGGER_DISK_FULL" ∷ "ACTION_EXTERNAL_PULSE"
    ∷ "EXTERNAL_PULSE" ∷ "ACTION_ACTIVATE_AUTO_TRANSMIT_LIST" ∷ "ACTION_DEACTIVATE_AUTO_TRANSMIT_LIST" ∷ "SIGNAL_PASS" ∷ "SIGNAL_STOP"
    ∷ "FLAG_PASS" ∷ "FLAG_STOP" ∷ "FLAGS_PASS" ∷ "FLAGS_STOP" ∷ "MESSAGE_COUNTING_PASS" ∷ "SIGNAL_COUNTING_PASS" ∷ "FLAG_COUNTING_PASS"
    ∷ []

-- an attribute's number likewise
unfoldable pub attributes : List String
attributes =
    "log_all" ∷ "fifo_mode" ∷ "channel" ∷ "bitrate" ∷ "tseg1" ∷ "tseg2" ∷ "sjw" ∷ "silent" ∷ "bitrate_brs" ∷ "tseg1_brs" ∷ "tseg2_brs"
    ∷ "sjw_brs" ∷ "iso" ∷ "name" ∷ "timeout" ∷ "msgid" ∷ "msgid_min" ∷ "can_ext" ∷ "can_fd" ∷ "protocol" ∷ "msg_field" ∷ "dlc" ∷ "dlc_min"
    ∷ "pretrigger" ∷ "posttrigger" ∷ []

abbrev pub kind_count : ℕ
kind_count = 42

abbrev pub attribute_count : ℕ
attribute_count = 25

-- the name with a number; `?` is no name
unfoldable pub name_in : List String → ℕ → List ℕ
name_in xs k = bytes (get_or xs k "?")

abbrev pub kind_name : ℕ → List ℕ
kind_name k = name_in names k

abbrev pub attribute_name : ℕ → List ℕ
attribute_name a = name_in attributes a

-- where the name n stands in a list of names; behind the last if it does not
unfoldable pub position_of : List ℕ → List String → ℕ
position_of n [] = 0
position_of n (x ∷ xs) = cond (same n (bytes x)) 0 (1 + position_of n xs)

-- the number of the name n, if it stands in the list
unfoldable pub number_in : List String → List ℕ → Option ℕ
number_in xs n = cond (one_of xs n) (Some (position_of n xs)) None

abbrev pub kind_of : List ℕ → ℕ
kind_of n = position_of n names

abbrev pub attribute_of : List ℕ → ℕ
attribute_of n = position_of n attributes

-- ---- elements
unfoldable pub is_carried : List ℕ → Bool
is_carried n = any (λ p. one_of p.carried n) parents

unfoldable pub is_barred : List ℕ → Bool
is_barred n = any (λ p. one_of p.barred n) parents

-- the kind of the element n in an element of the kind q
unfoldable pub held_in : List ℕ → List ℕ → Bool
held_in q n = one_of (under q).carried n || one_of (under q).barred n

unfoldable pub kind_under : ℕ → List ℕ → ℕ
kind_under q n = cond (held_in (kind_name q) n) (kind_of n) kind_count

-- ---- attributes
-- is there a rule for the attribute n, and one that requires it
unfoldable pub knows : List Rule → List ℕ → Bool
knows rs n = any (λ r. same n (bytes r.name)) rs

unfoldable pub demands : List Rule → List ℕ → Bool
demands rs n = any (λ r. r.required && same n (bytes r.name)) rs

-- may the element n have attributes
unfoldable pub is_ruled : List ℕ → Bool
is_ruled n = any (λ r. true) (rules_of n)

-- the number of the attribute n of an element of the kind k, if it may have one of that name
unfoldable pub attribute_in : ℕ → List ℕ → Option ℕ
attribute_in k n = cond (knows (rules_of (kind_name k)) n) (Some (attribute_of n)) None

-- what is asked of the value of the attribute n, by rules and in every element that has it
unfoldable pub sort_in : List Rule → List ℕ → Sort
sort_in [] n = Unread
sort_in (r ∷ rs) n = cond (same n (bytes r.name)) r.sort (sort_in rs n)

unfoldable pub all_rules : List ElementRules → List Rule
all_rules [] = []
all_rules (e ∷ es) = e.rules ++ all_rules es

unfoldable pub sort_of : List ℕ → Sort
sort_of n = sort_in (all_rules elements) n

-- no two rules have one name
unfoldable pub apart : List Rule → Bool
apart [] = true
apart (r ∷ rs) = not (knows rs (bytes r.name)) && apart rs

-- ---- names by a key
-- all names in a row, and where each starts
unfoldable pub in_row : List String → List ℕ
in_row [] = []
in_row (x ∷ xs) = bytes x ++ in_row xs

abbrev pub start_of : List String → ℕ → ℕ
start_of xs k = length (in_row (take k xs))

abbrev pub part : List String → ℕ → List ℕ
part xs k = take (start_of xs (k + 1) - start_of xs k) (drop (start_of xs k) (in_row xs))

-- a number below 128 by which names are told apart, w being the weight of the last letter; and by that number, which name it may be
unfoldable pub key_of : ℕ → List ℕ → ℕ
key_of w n = (length n % 128 * 4 + get_or n 0 0 + get_or n (length n - 1) 0 * w + get_or n (length n / 2) 0) % 128

unfoldable pub keys_from : ℕ → ℕ → List String → List ℕ → List ℕ
keys_from w k [] t = t
keys_from w k (x ∷ xs) t = keys_from w (k + 1) xs (set t (key_of w (bytes x)) k)

abbrev pub keyed : ℕ → List String → ℕ → ℕ
keyed w xs key = get_or (keys_from w 0 xs (replicate 128 0)) key 0

-- a list of m names that the weight w tells apart: the key of each leads back to it, each key to one of them; and between its start and
-- the next stands its name
pub record Catalogued (xs : List String) (m w : ℕ) : Type 0 where
  pub size : length xs ≡ m
  pub few : leb m 64 ≡ true
  pub own : map (λ k. position_of (name_in xs k) xs) (upto m) ≡ map (λ k. k) (upto m)
  pub led : map (λ k. keyed w xs (key_of w (name_in xs k))) (upto m) ≡ map (λ k. k) (upto m)
  pub low : map (λ key. ltb (keyed w xs key) m) (upto 128) ≡ map (λ key. true) (upto 128)
  pub rises : map (λ k. leb (start_of xs k) (start_of xs (k + 1)) && leb (start_of xs (k + 1)) (length (in_row xs))) (upto m)
      ≡ map (λ k. true) (upto m)
  pub parts : map (part xs) (upto m) ≡ map (name_in xs) (upto m)

-- the weights by which they all are
abbrev pub element_weight : ℕ
element_weight = 11

abbrev pub attribute_weight : ℕ
attribute_weight = 25

pub elements_catalogued : Catalogued names kind_count element_weight
unfolding bytes same names name_in position_of key_of keys_from in_row from
elements_catalogued = record { size = refl; few = refl; own = refl; led = refl; low = refl; rises = refl; parts = refl }

pub attributes_catalogued : Catalogued attributes attribute_count attribute_weight
unfolding bytes same attributes name_in position_of key_of keys_from in_row from
attributes_catalogued = record { size = refl; few = refl; own = refl; led = refl; low = refl; rises = refl; parts = refl }
