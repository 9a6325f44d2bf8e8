-- What is kept of a known element, and how it stands in a row of numbers. Code-shaped; nothing here has to be believed.
use Rattle.std.specs.Prelude.{ℕ, zero, suc, ◌+◌, ◌*◌, ◌/◌, ◌%◌, List, [], ◌∷◌, Bool, cond, length, get_or, take, drop}
use Prim.Native.String.{String}
use Rattle.text.specs.Texts.{bytes, same}
use Rattle.schema.specs.Schema.{rules_of}
use Rattle.schema.specs.SchemaCode.{attribute_count, kind_name, kind_of, attribute_of, is_ruled}
use Rattle.file_rules.specs.Element.{Known, good_of, channel_of}
use Rattle.element.specs.declared.Gathered.{Gathered}
use Rattle.element.specs.ElementCode.{nothing_gathered, gathered_list}
use Rattle.lists.specs.Lists.{gathered}
use Rattle.lists.specs.BitsCode.{has_bit}

-- its kind and its place; the number that its text gives, 0 if it gives none; and of an element that may have attributes a row: which are
-- there, as a set in two words, and their numbers
pub record Entry : Type 0 where
  pub kind : ℕ
  pub place : ℕ
  pub number : ℕ
  pub row : List ℕ

abbrev pub row_from : List ℕ → Gathered → List ℕ
row_from n g = cond (is_ruled n) (g.has % 4294967296 ∷ g.has / 4294967296 ∷ g.values) []

-- of the known element k
abbrev pub gathered_of : Known → Gathered
gathered_of k = gathered_list (rules_of k.name) k.attributes nothing_gathered

abbrev pub entry_of : Known → Entry
entry_of k = record {
  kind = kind_of k.name;
  place = k.place;
  number = cond (same k.name (bytes "CHANNEL")) (good_of (channel_of k)) 0;
  row = row_from k.name (gathered_of k);
}

-- an attribute of an entry: is it there, and its number
abbrev pub flag_in : Entry → String → Bool
flag_in e n = has_bit (get_or e.row 0 0 + get_or e.row 1 0 * 4294967296) (attribute_of (bytes n))

abbrev pub number_in : Entry → String → ℕ
number_in e n = get_or e.row (attribute_of (bytes n) + 2) 0

-- ---- entries one behind the other
abbrev pub entry_words : Entry → List ℕ
entry_words e = e.kind ∷ e.place ∷ e.number ∷ e.row

abbrev pub written : List Entry → List ℕ
written es = gathered entry_words es

-- the words of a row; the most that all entries of a document without faults have, of which there are 382, 86 with a row; and so much room
-- that any entry fits behind these
abbrev pub row_width : ℕ
row_width = attribute_count + 2

abbrev pub entry_most : ℕ
entry_most = 382 * 3 + 86 * row_width

abbrev pub entry_room : ℕ
entry_room = entry_most + row_width + 3

-- so many words has the row of a kind
unfoldable pub row_size : ℕ → ℕ
row_size kind = cond (is_ruled (kind_name kind)) row_width 0

-- the entry at the front, and all of them; n is more than there can be
unfoldable pub entry_from : List ℕ → Entry
entry_from ws =
    record { kind = get_or ws 0 0; place = get_or ws 1 0; number = get_or ws 2 0; row = take (row_size (get_or ws 0 0)) (drop 3 ws) }

unfoldable pub entries_from : ℕ → List ℕ → List Entry
entries_from zero ws = []
entries_from (suc n) [] = []
entries_from (suc n) (w ∷ ws) = entry_from (w ∷ ws) ∷ entries_from n (drop (row_size w + 2) ws)

abbrev pub entries_in : List ℕ → List Entry
entries_in ws = entries_from (length ws) ws
