-- A file is good exactly if the converter writes a plan of it into a buffer that has room for every plan. What is read of a good file is
-- its document.
use Prim.Native.Nat.{ℕ}
use native.Mathlib.Omega.{arith}
use mathlib.Core.Path.{◌≡◌, refl, sym, ap, ◌∙◌}
use mathlib.Core.List.{List, [], ◌∷◌, map}
use mathlib.Core.Bool.{Bool, true, false, not, ◌&&◌, true≢false}
use lib.ListN.{length, take, replicate, length-replicate}
use Rattle.lists.specs.Lists.{any}
use Rattle.shape.specs.Shape.{Node, WellShaped, Shaped}
use Rattle.shape.proofs.OneDoc.{one_doc}
use Rattle.file_rules.specs.Element.{Known}
use Rattle.file_rules.specs.Reading.{is}
use Rattle.file_rules.specs.Document.{known_elements, element_faults}
use Rattle.file_rules.specs.Tables.{logs_all}
use Rattle.element.specs.ElementCode.{is_kind}
use Rattle.std.specs.Prelude.{Result, Ok, Err}
use Rattle.file_rules.specs.declared.Refusal.{Refusal}
use Rattle.document.specs.EntriesCode.{Entry, entry_of, entries_in}
use Rattle.document.specs.DocumentCode.{IndexedIn}
use Rattle.document.proofs.Stood.{All}
use Rattle.tables.specs.declared.rows.Told as tables
use Rattle.tables.specs.RowsCode.{told}
use Rattle.tables.specs.TablesCode.{tabled}
use Rattle.tables.proofs.Entries.{all_nested}
use Rattle.tables.proofs.Laws.{reads_well}
use Rattle.tables.proofs.Nested.{Named, all_named_lem}
use Rattle.std.specs.Prelude.{is_ok}
use Rattle.converter.specs.Converter.{Meets, Refuses, Converts, Converted}
use Rattle.converter.proofs.Laws.{plain, index_refused}
use Rattle.converter.proofs.Once.{refused_short}
use Rattle.read_back.proofs.Takes.{no_faults}
use Rattle.read_back.proofs.Places.{meets_top}
use Rattle.omissions.specs.Omissions.{silent, Places, Recordless}
use Rattle.omissions.specs.GoodCode.{GoodIs}
use Rattle.omissions.specs.ToldCode.{Told}

-- ---- what `is_good` answers
refused_bad : (s ws : List ℕ) (room n p : ℕ) → room ≡ 1590 → Refuses s room n p → Meets s ws → ⊥
refused_bad s ws room n p l r m = omega (arith, l, refused_short s ws room n p m r, meets_top s ws m)

pub good_by : (s d e : List ℕ) (r : Converted) → length d ≡ 1590 → Converts s d r e → GoodIs s (is_ok r)
good_by s d e r l (Converts.refuses u h) = GoodIs.bad (λ ws k. refused_bad s ws (length d) u.number u.place l h k)
good_by s d e r l (Converts.converts ws m k) = GoodIs.good ws m

-- ---- what its answer says
pub good_meets : (s : List ℕ) (r : Bool) → GoodIs s r → r ≡ true → (ws : List ℕ) × Meets s ws
good_meets s r (GoodIs.good ws m) e = (ws, m)
good_meets s r (GoodIs.bad h) e = absurd (true≢false (sym e))

pub bad_none : (s : List ℕ) (r : Bool) → GoodIs s r → r ≡ false → (ws : List ℕ) → Meets s ws → ⊥
bad_none s r (GoodIs.good ws m) e = absurd (true≢false e)
bad_none s r (GoodIs.bad h) e = h

pub good_whole : (s : List ℕ) (r : Bool) → GoodIs s r → r ≡ true → Shaped s (Ok tt)
good_whole s r g e = let m = good_meets s r g e in (m.1.short, (m.1.document, m.1.spells))

-- what is told of the document of a good file
pub places_told : (s : List ℕ) (r : Bool) → GoodIs s r → r ≡ true → (l : Node → List ℕ) (d : List ℕ) (n : ℕ) (e : List ℕ)
    → ((x : Node) → WellShaped s x → Told (l x) d n e) → Places (λ x k. k ≡ l x) s d n e
places_told s r g q l d n e t =
    let m = good_meets s r g q in
    let u = t m.1.document m.1.spells in
    rw (u.count, u.places) (Places.accepted m.0 (l m.1.document) m.1 refl)

-- ---- the entries of a good file are those of its document
module _ (f ws : List ℕ) (m : Meets f ws) where
  abbrev pub document : Node
  document = m.document

  abbrev pub elements : List Known
  elements = known_elements m.document

  pub faultless : element_faults document ≡ []
  faultless = (no_faults document m.statements m.faultless).0

  pub named : All Named elements
  named = all_named_lem [] elements (all_nested document faultless)

  module _ (r : Result ℕ Refusal) (ms : List ℕ) (x : IndexedIn f r ms) where
    pub read_there : ((end : ℕ) → r ≡ Ok end → ⊥) → ⊥
    read_there h = by_answer r refl
      where
        by_answer : (a : Result ℕ Refusal) → r ≡ a → ⊥
        by_answer (Ok end) e = h end e
        by_answer (Err q) e =
            let d = replicate 1590 0 in
            let c = index_refused f r ms x d q e in
            bad_none f false (good_by f d d _ (length-replicate {A = ℕ} 1590 0) c) refl ws m

    pub entries_are : (end : ℕ) → r ≡ Ok end → entries_in (take end ms) ≡ map entry_of elements
    entries_are end o =
        let own = plain f r ms x end o in
        own.entries ∙ ap (λ (y : Node). map entry_of (known_elements y)) (one_doc f own.root document own.shaped m.spells)

-- ---- nothing can be recorded
any_entries : (p : Entry → Bool) (q : Known → Bool) (ks : List Known) → All (λ k. p (entry_of k) ≡ q k) ks
    → any p (map entry_of ks) ≡ any q ks
unfolding any
any_entries p q [] h = refl
any_entries p q (k ∷ ks) h = rw (h.0, any_entries p q ks h.1)

starts_are : (ks : List Known) → All Named ks → All (λ k. is_kind (entry_of k).kind "ACTION_START_LOG" ≡ is "ACTION_START_LOG" k) ks
starts_are [] n = tt
starts_are (k ∷ ks) n = (rw n.0, starts_are ks n.1)

module _ (f ws : List ℕ) (m : Meets f ws) (es : List Entry) (e : es ≡ map entry_of (elements f ws m)) (t : tables.Told) (q : t ≡ told f es)
    (b : Bool) (g : b ≡ any (λ y. is_kind y.kind "ACTION_START_LOG") es) where
  abbrev ks : List Known
  ks = elements f ws m

  all_is : t.head.all ≡ logs_all ks
  unfolding tabled
  all_is =
      ap (λ (y : tables.Told). y.head.all) (q ∙ ap (told f) e)
      ∙ (reads_well f m.document m.spells (faultless f ws m)).log_all_lem

  start_is : b ≡ any (is "ACTION_START_LOG") ks
  start_is =
      g ∙ ap (any (λ y. is_kind y.kind "ACTION_START_LOG")) e
      ∙ any_entries (λ y. is_kind y.kind "ACTION_START_LOG") (is "ACTION_START_LOG") ks (starts_are ks (named f ws m))

  pub silent_is : Recordless f (not t.head.all && not b)
  unfolding silent
  silent_is = rw (all_is, start_is) (Recordless.accepted ws m)
