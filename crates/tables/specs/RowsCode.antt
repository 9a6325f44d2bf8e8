-- What the functions answer, for every input: what one entry says, with those behind it, and what all of them say together. Code-shaped;
-- proofs/ ties it to the definitions. Nothing here has to be believed.
use Rattle.std.specs.Prelude.{ℕ, ◌+◌, ◌≡◌, Option, MatchOption, List, [], ◌∷◌, Bool, true, false, cond, ◌||◌, ltb, eqb, set, drop, replicate}
use Prim.Native.String.{String}
use Rattle.text.specs.Texts.{bytes}
use Rattle.lists.specs.BitsCode.{with_bit}
use Rattle.records.specs.declared.Cause.{Cause}
use Rattle.records.specs.declared.Cause.TheVariants.{Id, Length, Error, Startup}
use Rattle.records.specs.declared.Trigger.{Trigger}
use Rattle.records.specs.declared.Effect.{Effect}
use Rattle.records.specs.declared.Effect.TheVariants.{Pass, Stop}
use Rattle.records.specs.declared.Filter.{Filter}
use Rattle.records.specs.Records.{dlc_top}
use Rattle.records.specs.RecordsCode.{timeout_at}
use Rattle.walk.specs.declared.Part.{Part}
use Rattle.schema.specs.Schema.{one_of, under}
use Rattle.schema.specs.SchemaCode.{kind_name}
use Rattle.element.specs.ElementCode.{is_kind, value_at}
use Rattle.document.specs.EntriesCode.{Entry, flag_in, number_in, row_size, entry_from, entries_in}
use Rattle.tables.specs.declared.cells.Entry.{Entry as Cells}
use Rattle.tables.specs.declared.cells.Entries.{Entries}
use Rattle.tables.specs.declared.rows.Names.{Names}
use Rattle.tables.specs.declared.rows.Head.{Head}
use Rattle.tables.specs.declared.rows.Told.{Told}

unfoldable pub folded : {A : Type 0} → (A → Entry → A) → A → List Entry → A
folded step a [] = a
folded step a (e ∷ es) = folded step (step a e) es

-- the entry that words show, those behind it, and those that are left
abbrev pub shown : Cells → Entry
shown x = entry_from x.words.now

abbrev pub words_behind : Cells → List ℕ
words_behind x = drop (row_size (shown x).kind + 3) x.words.now

abbrev pub behind : Cells → List Entry
behind x = entries_in (words_behind x)

abbrev pub left : Entries → List Entry
left s = entries_in s.words.now

-- a call of `next` from s gives r and leaves t: the words with the first entry and those behind it, or none
abbrev pub Takes : Entries → Option Cells → Entries → Type 0
Takes s r t = MatchOption r ((left s ≡ []) × (t.words.now ≡ s.words.now))
    (λ x. (left s ≡ shown x ∷ left t) × (x.words.now ≡ s.words.now) × (t.words.now ≡ words_behind x))

-- a kind that the parent n carries
abbrev pub is_under : String → ℕ → Bool
is_under n kind = one_of (under (bytes n)).carried (kind_name kind)

-- the entries at the front whose kinds are of a sort
unfoldable pub front : (ℕ → Bool) → List Entry → List Entry
front p [] = []
front p (e ∷ es) = cond (p e.kind) (e ∷ front p es) []

-- how many entries are of kinds that stand in the kind q
unfoldable pub counted : ℕ → List Entry → ℕ
counted q [] = 0
counted q (e ∷ es) = cond (one_of (under (kind_name q)).carried (kind_name e.kind)) (1 + counted q es) (counted q es)

-- ---- triggers and their names
-- the trigger that an entry says
unfoldable pub cause_from : Entry → Cause
cause_from e =
    cond (is_kind e.kind "TRIGGER_MSG_ID")
    (Id (number_in e "channel") (eqb (number_in e "can_ext") 1) (number_in e "msgid_min") (number_in e "msgid"))
    (cond (is_kind e.kind "TRIGGER_MSG_DLC") (Length (number_in e "channel") (number_in e "dlc_min") (number_in e "dlc"))
    (cond (is_kind e.kind "TRIGGER_MSG_ERROR_FRAME") (Error (number_in e "channel")) Startup))

unfoldable pub trigger_from : Entry → Trigger
trigger_from e = record { cause = cause_from e; timeout = timeout_at (number_in e "timeout") }

abbrev pub no_names : Names
no_names = record { starts = replicate 32 0; ends = replicate 32 0; places = replicate 32 0; count = 0 }

unfoldable pub push_name : Names → Part → ℕ → Names
push_name n p place =
    cond (ltb n.count 32)
    (record {
      starts = set n.starts n.count p.from;
      ends = set n.ends n.count p.to;
      places = set n.places n.count place;
      count = n.count + 1;
    }) n

unfoldable pub tell_name : List ℕ → Names → Entry → Names
tell_name f n e = cond (is_under "TRIGGERS" e.kind) (push_name n (value_at (bytes "name") f e.place) e.place) n

-- ---- filters; the CHANNELs of one stand next
-- one channel more in a mask of five
unfoldable pub with_channel : ℕ → ℕ → ℕ
with_channel m c = cond (ltb c 5) (with_bit m c) m

abbrev pub is_channel : ℕ → Bool
is_channel kind = is_kind kind "CHANNEL"

abbrev pub mask_of : List Entry → ℕ
mask_of es = folded (λ m e. with_channel m e.number) 0 es

-- the filter that an entry says, with these channels
abbrev pub effect_of : ℕ → Effect
effect_of kind = cond (is_kind kind "MESSAGE_PASS") Pass Stop

unfoldable pub filter_from : ℕ → Entry → Filter
filter_from channels e = record {
  effect = effect_of e.kind;
  mask = channels;
  ext = eqb (number_in e "can_ext") 1;
  lower = number_in e "msgid_min";
  upper = number_in e "msgid";
  shortest = number_in e "dlc_min";
  longest = cond (flag_in e "dlc") (number_in e "dlc") dlc_top;
}

-- ---- statements; EXPRESSION, ACTIONS and the actions of one stand next
abbrev pub is_inner : ℕ → Bool
is_inner kind = is_under "STATEMENT" kind || is_under "ACTIONS" kind

-- where its EXPRESSION stands
abbrev pub text_of : List Entry → ℕ
text_of es = folded (λ p e. cond (is_kind e.kind "EXPRESSION") e.place p) 0 es

abbrev pub action_from : ℕ → ℕ
action_from kind = cond (is_kind kind "ACTION_START_LOG") 1 (cond (is_kind kind "ACTION_STOP_LOG") 2 3)

-- ---- PARAMETERS and MODE
abbrev pub no_head : Head
no_head = record { channels = 0; present = replicate 5 false; all = false }

unfoldable pub tell_head : Head → Entry → Head
tell_head h e =
    cond (is_kind e.kind "PARAMETERS")
    (record {
      channels = cond (ltb h.channels 5) (h.channels + 1) h.channels;
      present = set h.present (number_in e "channel") true;
      all = h.all;
    })
    (cond (is_kind e.kind "MODE") (record {
      channels = h.channels;
      present = h.present;
      all = h.all
          || eqb (number_in e "log_all") 1;
    }) h)

-- ---- all of it
unfoldable pub told : List ℕ → List Entry → Told
told f es = record { head = folded tell_head no_head es; names = folded (tell_name f) no_names es }
