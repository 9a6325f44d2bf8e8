-- What is told of a file of good shape whose elements have no fault: its document's tables.
use Prim.Native.Nat.{ℕ}
use mathlib.Core.Path.{◌≡◌}
use mathlib.Core.List.{List, [], map}
use Rattle.shape.specs.Shape.{Node, WellShaped}
use Rattle.file_rules.specs.Document.{known_elements, element_faults}
use Rattle.file_rules.specs.Tables.{logs_all}
use Rattle.document.specs.EntriesCode.{entry_of}
use Rattle.tables.specs.RowsCode.{told}
use Rattle.tables.specs.TablesCode.{tabled}
use Rattle.tables.proofs.Wanted.{Reads}
use Rattle.tables.proofs.Entries.{all_fit}
use Rattle.tables.proofs.Counts.{few_triggers, few_parameters}
use Rattle.tables.proofs.Tells.{names_law, head_law}
use Rattle.tables.proofs.Faults.{fault_law}

pub reads_well : (f : List ℕ) (x : Node) → WellShaped f x → element_faults x ≡ []
    → Reads f (known_elements x) (tabled f (map entry_of (known_elements x)))
unfolding tabled told logs_all
reads_well f x w e =
    let ks = known_elements x in
    let fits = all_fit f x w e in
    let head = head_law f ks fits (few_parameters x e) in
    record {
      channels = head.channels;
      log_all_lem = head.all;
      names = names_law f ks fits (few_triggers x e);
      fault = fault_law f ks fits (few_triggers x e) (few_parameters x e);
    }
