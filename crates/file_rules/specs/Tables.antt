-- Paper 01, "Values", "The plan" and "Refusal numbers": what the known elements of a document say together, and its faults 9 and 10. Both
-- are asked only where there is no fault up to 8: each value is good then, and each STATEMENT has one EXPRESSION.
use Rattle.std.specs.Prelude.{ℕ, zero, suc, List, [], ◌∷◌, ◌++◌, map, Bool, false, not, cond, ◌&&◌, ◌||◌, leb, eqb, length}
use Prim.Native.String.{String}
use Rattle.text.specs.Texts.{bytes, same}
use Rattle.records.specs.declared.Action.{Action}
use Rattle.schema.specs.Schema.{one_of, under}
use Rattle.file_rules.specs.Element.{Known, Fault, ◌at◌if◌, good_of, channel_of, given_value, value_of, text_of}
use Rattle.file_rules.specs.Reading.{is, action_of}
use Rattle.file_rules.specs.Document.{known_in}
use Rattle.lists.specs.Lists.{any, gathered}

unfoldable pub kept : (Known → Bool) → List Known → List Known
kept p [] = []
kept p (k ∷ ks) = cond (p k) (k ∷ kept p ks) (kept p ks)

-- one of those that the parent n carries
abbrev pub is_in : String → Known → Bool
is_in n k = one_of (under (bytes n)).carried k.name

-- the known elements in k
abbrev pub within : Known → List Known
within k = known_in (under k.name) [] k.items

abbrev pub name_of : Known → List ℕ
name_of k = given_value (bytes "name") k.attributes

-- ---- the channels that a filter's CHANNELs name
abbrev pub channels_of : Known → List ℕ
channels_of k = map (λ c. good_of (channel_of c)) (within k)

-- ---- a statement's actions, and its expression's text
abbrev pub actions_of : Known → List Action
actions_of k = map action_of (kept (is_in "ACTIONS") (within k))

abbrev pub expressions_of : Known → List Known
expressions_of k = kept (is "EXPRESSION") (within k)

abbrev pub expression_of : Known → List ℕ
expression_of k = gathered text_of (expressions_of k)

-- ---- all of it
abbrev pub names_of : List Known → List (List ℕ)
names_of ks = map name_of (kept (is_in "TRIGGERS") ks)

unfoldable pub logs_all : List Known → Bool
logs_all ks = any (λ k. eqb (value_of k "log_all") 1) (kept (is "MODE") ks)

-- ---- 9 "trigger name used earlier"
unfoldable pub used_names : List (List ℕ) → List Known → List Fault
used_names earlier [] = []
used_names earlier (k ∷ ks) = 9 at k.place if any (same (name_of k)) earlier ++ used_names (earlier ++ (name_of k ∷ [])) ks

-- ---- 10 "PARAMETERS channels are not exactly 0 to n-1": one of the numbers below n is not there
unfoldable pub gap : ℕ → List ℕ → Bool
gap zero cs = false
gap (suc c) cs = not (any (eqb c) cs) || gap c cs

-- the channel that a trigger or CHANNEL names; "channel 0 to 4, except STARTUP"
unfoldable pub channel_named : Known → List ℕ
channel_named k =
    cond (is "CHANNEL" k) (good_of (channel_of k) ∷ [])
    (cond (is_in "TRIGGERS" k && not (is "TRIGGER_STARTUP" k)) (value_of k "channel" ∷ []) [])

abbrev pub channels_in : List Known → List ℕ
channels_in ks = map (λ k. value_of k "channel") (kept (is "PARAMETERS") ks)

-- "9, 10"; "CAN_BUS; else the first such element"
unfoldable pub table_faults : List Known → List Fault
table_faults ks =
    used_names [] (kept (is_in "TRIGGERS") ks)
    ++ (gathered (λ k. 10 at k.place if gap (length (channels_in ks)) (channels_in ks)) (kept (is "CAN_BUS") ks)
    ++ gathered (λ k. 10 at k.place if any (leb (length (channels_in ks))) (channel_named k)) ks)
