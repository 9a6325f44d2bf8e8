-- The known elements of a document without faults are fit.
use Prim.Native.Nat.{ℕ}
use mathlib.Core.Path.{◌≡◌, sym}
use mathlib.Core.List.{List, [], ◌∷◌, ◌++◌, nil≢cons}
use mathlib.Core.Bool.{false}
use lib.Dec.{eqb}
use lib.ListN.{length}
use Rattle.lists.proofs.Cases.{by_cases}
use Rattle.shape.specs.Shape.{Node, WellShaped}
use Rattle.file_rules.specs.Element.{Known, ◌at◌if◌, own_faults}
use Rattle.file_rules.specs.Document.{known_elements, place_of, lacks, element_faults}
use Rattle.document.proofs.Few.{Clean, append_none, clean_first}
use Rattle.document.proofs.Stood.{Stood, All, all_stood}
use Rattle.tables.proofs.Wanted.{Fit}
use Rattle.tables.proofs.Nested.{Nested, Named, nested_known, all_named_lem}
use Rattle.lists.specs.Lists.{any, gathered}

pub faultless_parts : (x : Node) → element_faults x ≡ [] → Clean (known_elements x) × (any lacks (known_elements x) ≡ false)
unfolding element_faults
faultless_parts x e =
    let a =
    append_none (3 at place_of x if eqb (length (known_elements x)) 0)
    (gathered own_faults (known_elements x) ++ 8 at place_of x if any lacks (known_elements x)) e in
    let b = append_none (gathered own_faults (known_elements x)) (8 at place_of x if any lacks (known_elements x)) a.1 in
    (b.0, by_cases (any lacks (known_elements x)) (λ t. absurd (nil≢cons (sym (rw t at b.1)))) (λ t. t))

pub all_nested : (x : Node) → element_faults x ≡ [] → Nested [] (known_elements x)
all_nested x e = nested_known x (faultless_parts x e).0

fit_each : (f : List ℕ) (ks : List Known) → All Named ks → All (Stood f) ks → Clean ks → All (Fit f) ks
fit_each f [] n s c = tt
fit_each f (k ∷ ks) n s c =
    let g = clean_first k ks c in
    (record { named = n.0; stood = s.0; clean = g.0 }, fit_each f ks n.1 s.1 g.1)

pub all_fit : (f : List ℕ) (x : Node) → WellShaped f x → element_faults x ≡ [] → All (Fit f) (known_elements x)
all_fit f x w e =
    fit_each f (known_elements x) (all_named_lem [] (known_elements x) (all_nested x e)) (all_stood f x w) (faultless_parts x e).0
