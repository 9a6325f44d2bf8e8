-- Paper 01, "What the converter and the logger cover" and "Values": the known elements with their parents, how many, and their attributes.
use Rattle.std.specs.Prelude.{ℕ, List, [], ◌∷◌, ◌++◌, Bool, true, false, cond}
use Prim.Native.String.{String}
use Rattle.text.specs.Texts.{bytes, same}
use Rattle.values.specs.declared.Sort.{Sort}
use Rattle.values.specs.declared.Sort.TheVariants.{Numeric, Timeout, YesNo, Protocol, TriggerName, Unread, Flexible}
use Rattle.schema.specs.declared.Times.{Times}
use Rattle.schema.specs.declared.Times.TheVariants.{Once, OneTo, UpTo}
use Rattle.lists.specs.Lists.{any}

-- an element, the elements that it holds, how many ("exactly once" each; 1 to n; at most n), and those that are "known but not carried"
-- there
pub record Parent : Type 0 where
  pub name : String
  pub carried : List String
  pub times : Times
  pub barred : List String

infix 90 ◌over◌times◌bars◌
abbrev pub ◌over◌times◌bars◌ : String → List String → Times → List String → Parent
◌over◌times◌bars◌ p c n b = record { name = p; carried = c; times = n; barred = b }

-- the file itself has no name
unfoldable pub parents : List Parent
parents =
    "" over ("KVASER" ∷ []) times Once bars [] ∷
    "KVASER" over ("VERSION" ∷ "SETTINGS" ∷ "CAN_BUS" ∷ "TRIGGERBLOCK" ∷ "FILTERS" ∷ []) times Once bars [] ∷
    "SETTINGS" over ("MODE" ∷ []) times Once bars [] ∷
    "CAN_BUS" over ("PARAMETERS" ∷ []) times OneTo 5 bars ("PARAMETERS_FD" ∷ []) ∷
    "TRIGGERBLOCK" over ("TRIGGERS" ∷ "STATEMENTS" ∷ []) times Once bars [] ∷
    "TRIGGERS" over ("TRIGGER_MSG_ID" ∷ "TRIGGER_MSG_DLC" ∷ "TRIGGER_MSG_ERROR_FRAME" ∷ "TRIGGER_STARTUP" ∷ []) times UpTo 32
    bars ("TRIGGER_SIGVAL" ∷ "TRIGGER_EXTERNAL" ∷ "TRIGGER_TIMER" ∷ "TRIGGER_DISK_FULL" ∷ []) ∷
    "STATEMENTS" over ("STATEMENT" ∷ []) times UpTo 16 bars [] ∷
    "STATEMENT" over ("EXPRESSION" ∷ "ACTIONS" ∷ []) times Once bars [] ∷
    "ACTIONS" over ("ACTION_START_LOG" ∷ "ACTION_STOP_LOG" ∷ "ACTION_STOP_LOG_COMPLETELY" ∷ []) times UpTo 6
    bars ("ACTION_EXTERNAL_PULSE" ∷ "EXTERNAL_PULSE" ∷ "ACTION_ACTIVATE_AUTO_TRANSMIT_LIST" ∷ "ACTION_DEACTIVATE_AUTO_TRANSMIT_LIST" ∷ []) ∷
    "FILTERS" over ("MESSAGE_PASS" ∷ "MESSAGE_STOP" ∷ []) times UpTo 32
    bars ("SIGNAL_PASS" ∷ "SIGNAL_STOP" ∷ "FLAG_PASS" ∷ "FLAG_STOP" ∷ "FLAGS_PASS" ∷ "FLAGS_STOP"
    ∷ "MESSAGE_COUNTING_PASS" ∷ "SIGNAL_COUNTING_PASS" ∷ "FLAG_COUNTING_PASS" ∷ []) ∷
    "MESSAGE_PASS" over ("CHANNEL" ∷ []) times OneTo 5 bars [] ∷
    "MESSAGE_STOP" over ("CHANNEL" ∷ []) times OneTo 5 bars [] ∷
    []

-- an attribute: its name, whether it is required, and what it asks of its value
pub record Rule : Type 0 where
  pub name : String
  pub required : Bool
  pub sort : Sort

infix 90 ◌must◌ ◌may◌
abbrev pub ◌must◌ : String → Sort → Rule
n must s = record { name = n; required = true; sort = s }

abbrev pub ◌may◌ : String → Sort → Rule
n may s = record { name = n; required = false; sort = s }

infix 95 ◌to◌
abbrev pub ◌to◌ : ℕ → ℕ → Sort
lo to hi = Numeric lo hi hi

-- "msgid (upper), msgid_min, can_ext"; "Optional on MSG_ID and filters: can_fd (YES gives 7), protocol NONE or J1939 (J1939 gives 7),
-- msg_field (unread)."
abbrev pub identifier_rules : List Rule
identifier_rules =
    "msgid" must 0 to 536870911 ∷ "msgid_min" must 0 to 536870911 ∷ "can_ext" must YesNo 1
    ∷ "can_fd" may YesNo 0 ∷ "protocol" may Protocol ∷ "msg_field" may Unread ∷ []

-- "Triggers: name; timeout 0 to 1,000,000,000 ms or -1; channel 0 to 4, except STARTUP."
abbrev pub trigger_rules : List Rule
trigger_rules = "name" must TriggerName ∷ "timeout" must Timeout ∷ "channel" must 0 to 4 ∷ []

-- the elements that have attributes. "All others listed are required. No other element has attributes."
pub record ElementRules : Type 0 where
  pub name : String
  pub rules : List Rule

infix 80 ◌has◌
abbrev pub ◌has◌ : String → List Rule → ElementRules
n has r = record { name = n; rules = r }

unfoldable pub elements : List ElementRules
elements =
    "MODE" has ("log_all" must YesNo 1 ∷ "fifo_mode" must YesNo 1 ∷ []) ∷
    "PARAMETERS" has ("channel" must 0 to 4 ∷ "bitrate" must 1 to 1000000
    ∷ "tseg1" must 1 to 255 ∷ "tseg2" must 1 to 255 ∷ "sjw" must 1 to 255 ∷ "silent" must YesNo 1
    ∷ "bitrate_brs" may Flexible ∷ "tseg1_brs" may Flexible ∷ "tseg2_brs" may Flexible ∷ "sjw_brs" may Flexible ∷ "iso" may Flexible ∷ []) ∷
    "TRIGGER_MSG_ID" has (trigger_rules ++ identifier_rules) ∷
    "TRIGGER_MSG_DLC" has (trigger_rules ++ ("dlc" must 0 to 8 ∷ "dlc_min" must 0 to 8 ∷ "can_fd" may YesNo 0 ∷ [])) ∷
    "TRIGGER_MSG_ERROR_FRAME" has trigger_rules ∷
    "TRIGGER_STARTUP" has ("name" must TriggerName ∷ "timeout" must Timeout ∷ []) ∷
    "STATEMENT" has ("pretrigger" must Numeric 0 1000000000 0 ∷ "posttrigger" must 0 to 1000000000 ∷ []) ∷
    "MESSAGE_PASS" has (identifier_rules ++ ("dlc" may 0 to 8 ∷ "dlc_min" may 0 to 8 ∷ [])) ∷
    "MESSAGE_STOP" has (identifier_rules ++ ("dlc" may 0 to 8 ∷ "dlc_min" may 0 to 8 ∷ [])) ∷
    []

-- ---- what the tables say of a name
abbrev pub one_of : List String → List ℕ → Bool
one_of names n = any (λ x. same n (bytes x)) names

unfoldable pub parent_in : List Parent → List ℕ → Parent
parent_in [] n = "" over [] times UpTo 0 bars []
parent_in (p ∷ ps) n = cond (same n (bytes p.name)) p (parent_in ps n)

unfoldable pub rules_in : List ElementRules → List ℕ → List Rule
rules_in [] n = []
rules_in (e ∷ es) n = cond (same n (bytes e.name)) e.rules (rules_in es n)

-- the elements under the element n, and its attributes
abbrev pub under : List ℕ → Parent
under n = parent_in parents n

abbrev pub rules_of : List ℕ → List Rule
rules_of n = rules_in elements n
