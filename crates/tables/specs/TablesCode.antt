-- What the functions answer, for every input. Code-shaped; proofs/Laws.antt ties it to the definitions. Nothing here has to be believed.
use Rattle.std.specs.Prelude.{ℕ, List, [], ◌∷◌, ◌++◌, Bool, false, not, cond, ◌&&◌, leb, take, Option, Some, None}
use Rattle.std.specs.Option.{option_or}
use Rattle.text.specs.Texts.{same}
use Rattle.grammar.specs.TokensCode.{names_in}
use Rattle.element.specs.ElementCode.{is_kind}
use Rattle.document.specs.EntriesCode.{Entry, number_in}
use Rattle.tables.specs.declared.rows.Names.{Names}
use Rattle.tables.specs.declared.rows.Head.{Head}
use Rattle.tables.specs.declared.rows.Told.{Told}
use Rattle.tables.specs.RowsCode.{is_under, told}
use Rattle.file_rules.specs.declared.Refusal.{Refusal}
use Rattle.file_rules.specs.RefusalCode.{refused_at}
use Rattle.tables.specs.declared.Telling.{Telling}
use Rattle.lists.specs.Lists.{any}
use Rattle.lists.specs.FlagsCode.{lacks_first}

-- ---- 9: a name that one of those before it is
abbrev pub names_at : List ℕ → Names → List (List ℕ)
names_at f n = names_in f (take n.count n.starts) (take n.count n.ends)

unfoldable pub used_from : List (List ℕ) → List (List ℕ) → List ℕ → Option Refusal
used_from earlier [] ps = None
used_from earlier (n ∷ ns) [] = None
used_from earlier (n ∷ ns) (p ∷ ps) = cond (any (same n) earlier) (Some (refused_at 9 p)) (used_from (earlier ++ (n ∷ [])) ns ps)

unfoldable pub name_fault : List ℕ → Names → Option Refusal
name_fault f n = used_from [] (names_at f n) (take n.count n.places)

-- ---- 10: the first entry for which p holds
unfoldable pub first_where : (Entry → Bool) → List Entry → Option Refusal
first_where p [] = None
first_where p (e ∷ es) = cond (p e) (Some (refused_at 10 e.place)) (first_where p es)

-- an entry names a channel that is not below n
unfoldable pub is_beyond : ℕ → Entry → Bool
is_beyond n e =
    cond (is_kind e.kind "CHANNEL") (leb n e.number)
    (cond (is_under "TRIGGERS" e.kind && not (is_kind e.kind "TRIGGER_STARTUP")) (leb n (number_in e "channel")) false)

unfoldable pub bus_fault : Head → List Entry → Option Refusal
bus_fault h es = cond (lacks_first h.channels h.present) (first_where (λ e. is_kind e.kind "CAN_BUS") es) None

unfoldable pub channel_fault : Head → List Entry → Option Refusal
channel_fault h es = first_where (is_beyond h.channels) es

-- ---- the first of them
unfoldable pub table_fault : List ℕ → List Entry → Told → Option Refusal
table_fault f es t = option_or (name_fault f t.names) (option_or (bus_fault t.head es) (channel_fault t.head es))

unfoldable pub tabled : List ℕ → List Entry → Telling
tabled f es = record { fault = table_fault f es (told f es); told = told f es }
