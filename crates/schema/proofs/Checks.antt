-- The tables by examples: what is known only under its own parent, what is not carried, what is skipped; attributes and their numbers.
use mathlib.Core.Path.{◌≡◌, refl}
use mathlib.Core.List.{[]}
use mathlib.Core.Bool.{true, false}
use Rattle.text.specs.Texts.{bytes, same}
use Rattle.values.specs.declared.Sort.TheVariants.{Numeric, YesNo}
use Rattle.schema.specs.declared.Times.TheVariants.{OneTo}
use Rattle.schema.specs.Schema.{one_of, parents, parent_in, under, elements, rules_in, rules_of}
use Rattle.schema.specs.SchemaCode.{held_in, knows, demands, sort_in}
use Rattle.lists.specs.Lists.{any}

pub checks : (one_of (under []).carried (bytes "KVASER") ≡ true)
    × (held_in (bytes "KVASER") (bytes "KVASER") ≡ false)
    × (held_in (bytes "KVASER") (bytes "MODE") ≡ false)
    × (one_of (under (bytes "CAN_BUS")).barred (bytes "PARAMETERS_FD") ≡ true)
    × (held_in (bytes "TRIGGERS") (bytes "TRIGGER_SIGNAL") ≡ false)
    × (one_of (under (bytes "ACTIONS")).carried (bytes "ACTION_STOP_LOG") ≡ true)
    × (held_in (bytes "ACTIONS") (bytes "STOP_LOG") ≡ false)
    × (one_of (under (bytes "ACTIONS")).barred (bytes "EXTERNAL_PULSE") ≡ true)
    × (one_of (under (bytes "FILTERS")).barred (bytes "FLAGS_STOP") ≡ true)
    × (held_in (bytes "FILTERS") (bytes "FLAGS_COUNTING_PASS") ≡ false)
    × ((under (bytes "MESSAGE_PASS")).times ≡ OneTo 5)
    × (knows (rules_of (bytes "TRIGGER_STARTUP")) (bytes "channel") ≡ false)
    × (knows (rules_of (bytes "TRIGGER_MSG_DLC")) (bytes "protocol") ≡ false)
    × (sort_in (rules_of (bytes "TRIGGER_MSG_DLC")) (bytes "can_fd") ≡ YesNo 0)
    × (demands (rules_of (bytes "TRIGGER_MSG_DLC")) (bytes "can_fd") ≡ false)
    × (demands (rules_of (bytes "TRIGGER_MSG_DLC")) (bytes "dlc_min") ≡ true)
    × (demands (rules_of (bytes "MESSAGE_PASS")) (bytes "dlc_min") ≡ false)
    × (sort_in (rules_of (bytes "STATEMENT")) (bytes "pretrigger") ≡ Numeric 0 1000000000 0)
    × (knows (rules_of (bytes "PARAMETERS")) (bytes "Bitrate") ≡ false)
unfolding bytes same any parents parent_in elements rules_in held_in knows demands sort_in
checks = (refl, refl, refl, refl, refl, refl, refl, refl, refl, refl, refl, refl, refl, refl, refl, refl, refl, refl, refl)
