-- Paper 01, "Values" and "The plan": what one element says. It is asked only where the element has no fault: each value is good then, and
-- the last of several kinds is the one that is left.
use Rattle.std.specs.Prelude.{ℕ, Bool, cond, eqb}
use Prim.Native.String.{String}
use Rattle.text.specs.Texts.{bytes, same}
use Rattle.records.specs.declared.Cause.TheVariants.{Id, Length, Error, Startup}
use Rattle.records.specs.declared.Timeout.TheVariants.{Forever, Ms}
use Rattle.records.specs.declared.Trigger.{Trigger}
use Rattle.records.specs.declared.Effect.TheVariants.{Pass, Stop}
use Rattle.records.specs.declared.Filter.{Filter}
use Rattle.records.specs.declared.Action.{Action}
use Rattle.records.specs.declared.Action.TheVariants.{StartLog, StopLog, StopLogCompletely}
use Rattle.records.specs.Records.{dlc_top}
use Rattle.file_rules.specs.Element.{Known, given_value, value_of, has}

abbrev pub is : String → Known → Bool
is n k = same k.name (bytes n)

-- a trigger; a timeout of `-1` lasts forever
unfoldable pub trigger_of : Known → Trigger
trigger_of k = record {
  cause =
      cond (is "TRIGGER_MSG_ID" k) (Id (value_of k "channel") (eqb (value_of k "can_ext") 1) (value_of k "msgid_min") (value_of k "msgid"))
      (cond (is "TRIGGER_MSG_DLC" k) (Length (value_of k "channel") (value_of k "dlc_min") (value_of k "dlc"))
      (cond (is "TRIGGER_MSG_ERROR_FRAME" k) (Error (value_of k "channel")) Startup));
  timeout = cond (same (given_value (bytes "timeout") k.attributes) (bytes "-1")) Forever (Ms (value_of k "timeout"));
}

-- a filter's record, but for its channels; "dlc lower, dlc upper (0 and 8 if absent)"
unfoldable pub filter_of : ℕ → Known → Filter
filter_of channels k = record {
  effect = cond (is "MESSAGE_PASS" k) Pass Stop;
  mask = channels;
  ext = eqb (value_of k "can_ext") 1;
  lower = value_of k "msgid_min";
  upper = value_of k "msgid";
  shortest = cond (has k "dlc_min") (value_of k "dlc_min") 0;
  longest = cond (has k "dlc") (value_of k "dlc") dlc_top;
}

unfoldable pub action_of : Known → Action
action_of k = cond (is "ACTION_START_LOG" k) StartLog (cond (is "ACTION_STOP_LOG" k) StopLog StopLogCompletely)
