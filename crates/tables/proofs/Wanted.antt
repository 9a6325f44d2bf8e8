-- What has to hold of the known elements of a document without faults, and of what is told of them. The laws beside say that it does.
use Prim.Native.Nat.{ℕ, ◌≤◌}
use mathlib.Core.Path.{◌≡◌}
use mathlib.Core.List.{List, [], ◌∷◌}
use mathlib.Core.Bool.{true}
use lib.ListN.{length}
use Rattle.schema.specs.SchemaCode.{kind_name, kind_of}
use Rattle.file_rules.specs.Element.{Known, Fault, own_faults}
use Rattle.file_rules.specs.Reading.{is}
use Rattle.document.proofs.Stood.{Stood}
use Rattle.tables.specs.declared.Telling.{Telling}
use Rattle.std.specs.Prelude.{Option, Some, None}
use Rattle.file_rules.specs.declared.Refusal.{Refusal}
use Rattle.file_rules.specs.Tables.{kept, is_in, within, expressions_of, names_of, logs_all, table_faults}
use Rattle.tables.specs.TablesCode.{names_at}
use Rattle.file_rules.specs.RefusalCode.{refused_at}

-- a known element without faults, which stands in the file and has the name of a kind
pub record Fit (f : List ℕ) (k : Known) : Type 0 where
  pub named : kind_name (kind_of k.name) ≡ k.name
  pub stood : Stood f k
  pub clean : own_faults k ≡ []

-- a statement has at most six actions and one expression
abbrev pub Formed : Known → Type 0
Formed k = is "STATEMENT" k ≡ true → (length (kept (is_in "ACTIONS") (within k)) ≤ 6) × ((e : Known) × (expressions_of k ≡ e ∷ []))

abbrev pub first_of : List Fault → Option Refusal
first_of [] = None
first_of (a ∷ l) = Some (refused_at a.number a.place)

-- the tables of the known elements ks
pub record Reads (f : List ℕ) (ks : List Known) (t : Telling) : Type 0 where
  pub channels : t.told.head.channels ≡ length (kept (is "PARAMETERS") ks)
  pub log_all_lem : t.told.head.all ≡ logs_all ks
  pub names : names_at f t.told.names ≡ names_of ks
  pub fault : t.fault ≡ first_of (table_faults ks)
