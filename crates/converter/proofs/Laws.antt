-- What `convert` does gives what its contract says.
use Prim.Native.Nat.{ℕ, ◌≤◌, ◌<◌}
use native.Mathlib.Omega.{arith}
use mathlib.Core.Path.{◌≡◌, refl, sym, ap, subst, ◌∙◌}
use mathlib.Core.List.{List, [], ◌∷◌, ◌++◌, map, append_assoc}
use lib.ListN.{length, take, drop, length-take}
use lib.Seq.{take_at}
use Rattle.shape.specs.Shape.{Node, WellShaped}
use Rattle.grammar.proofs.Names.{few_names}
use Rattle.grammar.proofs.Ruled.{becomes}
use Rattle.records.specs.Records.{PlanStatement}
use Rattle.file_rules.specs.Element.{Known, Fault}
use Rattle.file_rules.specs.Document.{known_elements, element_faults}
use Rattle.std.specs.Prelude.{Some, None, Result, Ok, Err}
use Rattle.file_rules.specs.declared.Refusal.{Refusal}
use Rattle.file_rules.specs.RefusalCode.{refused_at}
use Rattle.file_rules.specs.Reading.{is}
use Rattle.file_rules.specs.Tables.{kept, expression_of, names_of, table_faults}
use Rattle.document.specs.EntriesCode as entries
use Rattle.document.specs.EntriesCode.{Entry, entry_of, entry_most, entry_room, entries_in}
use Rattle.document.specs.DocumentCode.{Index, index_of, Indexes, Kept, Holds, IndexedIn}
use Rattle.document.proofs.Entries.{entries_back}
use Rattle.document.proofs.Few.{few}
use Rattle.lists.specs.Lists.{gathered}
use Rattle.tables.specs.declared.rows.Told.{Told}
use Rattle.tables.specs.declared.Telling.{Telling}
use Rattle.tables.specs.TablesCode.{names_at, tabled}
use Rattle.tables.proofs.Entries.{faultless_parts}
use Rattle.tables.proofs.Laws.{reads_well}
use Rattle.tables.proofs.Wanted.{first_of, Reads}
use Rattle.converter.specs.Converter.{Composes, Judged, Meets, Refuses, Converts}
use Rattle.converter.specs.PlanCode.{written, Wrote, WroteOr, late_fault, sheet_words, Plain}
use Rattle.converter.proofs.Lines.{statement_of, faults_of, compile_composes}
use Rattle.converter.proofs.Sheet as sheet

-- the rules give every statement something, whatever the names
pub composes_some : (names : List (List ℕ)) (ks : List Known) → (fs : List Fault) × (ss : List PlanStatement) × Composes names ks fs ss
composes_some names [] = ([], [], Composes.over)
composes_some names (k ∷ ks) =
    let b = becomes names (expression_of k) in
    let r = composes_some names ks in
    (_, _, Composes.next k b.0 b.1 ks r.0 r.1 b.2 r.2)

-- a document with faults up to 10 is refused by the first of them
refuse_early : (s : List ℕ) (room : ℕ) (x : Node) → length s ≤ 32768 → WellShaped s x → (a : Fault) (l : List Fault)
    → element_faults x ++ table_faults (known_elements x) ≡ a ∷ l → Refuses s room a.number a.place
refuse_early s room x short w a l e =
    let r = composes_some (names_of (known_elements x)) (kept (is "STATEMENT") (known_elements x)) in
    Refuses.by_fault x (l ++ r.0) r.1 short w (record {
      late = r.0;
      composed = r.2;
      in_order = ap (λ (fs : List Fault). fs ++ r.0) (sym e) ∙ append_assoc (element_faults x) (table_faults (known_elements x)) r.0;
    })

pub copy_room : (n : ℕ) (e d : List ℕ) → n ≤ length d → length (take n e) ≤ length d
copy_room n e d h = omega (arith, h, length-take n e)

abbrev RefusedBy : List ℕ → List ℕ → Refusal → Type 0
RefusedBy f d r = Converts f d (Err r) d

-- ---- by the index
module _ (f : List ℕ) where
  refused_at_lem : (d : List ℕ) (x : Index) → Indexes f x → (q : Refusal) → x ≡ Err q → RefusedBy f d q
  unfolding index_of
  refused_at_lem d x (Indexes.shapeless a n p s e) q o =
      let z : refused_at n p ≡ q = cc in
      subst (RefusedBy f d) z (Converts.refuses (refused_at n p) (Refuses.by_shape a s e))
  refused_at_lem d x (Indexes.faulty y a l short w e) q o =
      let z : refused_at a.number a.place ≡ q = cc in
      subst (RefusedBy f d) z
      (Converts.refuses (refused_at a.number a.place)
      (refuse_early f (length d) y short w a (l ++ table_faults (known_elements y))
      (ap (λ (fs : List Fault). fs ++ table_faults (known_elements y)) e)))
  refused_at_lem d x (Indexes.faultless y short w e) q o = cc

  plain_at : (x : Index) → Indexes f x → (es : List Entry) → x ≡ Ok es → Plain f es
  unfolding index_of
  plain_at x (Indexes.shapeless a n p s e) es o = cc
  plain_at x (Indexes.faulty y a l short w e) es o = cc
  plain_at x (Indexes.faultless y short w e) es o =
      let z : es ≡ map entry_of (known_elements y) = cc in
      record { root = y; short = short; shaped = w; faultless = e; entries = z }

  -- what was read: refused, or the entries up to an end
  module _ (r : Result ℕ Refusal) (ws : List ℕ) (x : IndexedIn f r ws) where
    pub index_refused : (d : List ℕ) (q : Refusal) → r ≡ Err q → RefusedBy f d q
    index_refused d q o = by_index x.index x.indexes (subst (λ (a : Result ℕ Refusal). Holds a ws x.index) o x.holds)
      where
        by_index : (i : Index) → Indexes f i → Holds (Err q) ws i → RefusedBy f d q
        by_index (Ok es) y h = absurd h
        by_index (Err p) y h = refused_at_lem d (Err p) y q (ap Err (sym h))

    module _ (end : ℕ) (o : r ≡ Ok end) where
      read : (es : List Entry) × Plain f es × Kept end ws es
      read = by_index x.index x.indexes (subst (λ (a : Result ℕ Refusal). Holds a ws x.index) o x.holds)
        where
          by_index : (i : Index) → Indexes f i → Holds (Ok end) ws i → (es : List Entry) × Plain f es × Kept end ws es
          by_index (Ok es) y h = (es, plain_at (Ok es) y es refl, h)
          by_index (Err p) y h = absurd h

      pub end_count : length (take end ws) ≡ end
      end_count = ap length read.2.words ∙ sym read.2.long

      pub end_within : end ≤ length ws
      end_within = omega (arith, end_count, length-take end ws)

      pub plain : Plain f (entries_in (take end ws))
      plain =
          let q : entries_in (take end ws) ≡ read.0 = ap entries_in read.2.words ∙ entries_back read.0 read.2.formed in
          subst (Plain f) (sym q) read.1

      pub few_entries : length (take end ws) ≤ entry_room
      few_entries =
          let q = read.1 in
          let m : length (entries.written read.0) ≤ entry_most = rw q.entries (few q.root (faultless_parts q.root q.faultless).0) in
          omega (arith, ap length read.2.words, m)

-- ---- by the tables
module _ (f d : List ℕ) (es : List Entry) (p : Plain f es) where
  abbrev x : Node
  x = p.root

  abbrev ks : List Known
  ks = known_elements x

  reads_all : Reads f ks (tabled f es)
  reads_all = subst (λ (l : List Entry). Reads f ks (tabled f l)) (sym p.entries) (reads_well f x p.shaped p.faultless)

  refused_by : (a : Refusal) (ts : List Fault) → table_faults ks ≡ ts → first_of ts ≡ Some a → RefusedBy f d a
  refused_by a [] e q = cc
  refused_by a (b ∷ l) e q =
      let o : refused_at b.number b.place ≡ a = cc in
      subst (RefusedBy f d) o
      (Converts.refuses (refused_at b.number b.place) (refuse_early f (length d) x p.short p.shaped b l (rw (p.faultless, e))))

  pub tables_refused : (t : Telling) → t ≡ tabled f es → (a : Refusal) → t.fault ≡ Some a → RefusedBy f d a
  tables_refused t q a z =
      refused_by a (table_faults ks) refl (sym reads_all.fault ∙ (sym (ap (λ (y : Telling). y.fault) q) ∙ z))

  clear_by : (ts : List Fault) → first_of ts ≡ None → ts ≡ []
  clear_by [] q = refl
  clear_by (b ∷ l) q = cc

  module _ (t : Told) (q : t ≡ (tabled f es).told) (h : (tabled f es).fault ≡ None) where
    -- what was told, with no fault
    abbrev telling : Telling
    telling = record { fault = None; told = t }

    tabled_is : tabled f es ≡ telling
    tabled_is = rw (q, ← h) refl

    reads : Reads f ks telling
    reads = subst (Reads f ks) tabled_is reads_all

    pub sheet_room : length (sheet_words f t es) ≤ 1590
    sheet_room = rw p.entries (sheet.sheet_fits f x p.short p.shaped p.faultless telling reads)

    -- ---- by the expressions
    module _ (b : List ℕ) (r : Result ℕ Refusal) (e : List ℕ)
        (c : WroteOr (late_fault f (names_at f t.names) es) (sheet_words f t es) b r e) where
      abbrev codes : List (List ℕ)
      codes = names_of ks

      abbrev lines : List Known
      lines = kept (is "STATEMENT") ks

      abbrev late : List Fault
      late = gathered (faults_of codes) lines

      abbrev ss : List PlanStatement
      ss = map (statement_of codes) lines

      tables_clear : table_faults ks ≡ []
      tables_clear = clear_by (table_faults ks) (sym reads.fault)

      -- all faults are those of the expressions
      judged : (cs : List Fault) → late ≡ cs → Judged x cs ss
      judged cs g =
          let few : length codes ≤ 32 = subst (λ (l : List (List ℕ)). length l ≤ 32) reads.names (few_names f _ _) in
          record { late = late; composed = compile_composes codes few lines; in_order = rw (p.faultless, tables_clear) (sym g) }

      late_first : late_fault f (names_at f t.names) es ≡ first_of late
      late_first =
          ap (late_fault f (names_at f t.names)) p.entries ∙ sheet.late_are f x p.short p.shaped p.faultless telling reads

      late_by : (q : Refusal) (cs : List Fault) → late ≡ cs → first_of cs ≡ Some q → RefusedBy f d q
      late_by q [] g z = cc
      late_by q (a ∷ l) g z =
          let o : refused_at a.number a.place ≡ q = cc in
          subst (RefusedBy f d) o
          (Converts.refuses (refused_at a.number a.place) (Refuses.by_fault x l ss p.short p.shaped (judged (a ∷ l) g)))

      pub late_refused : (q : Refusal) → r ≡ Err q → RefusedBy f d q
      late_refused q z = late_by q late refl (sym late_first ∙ c.refused q z)

      late_clear : (cs : List Fault) → late ≡ cs → first_of cs ≡ None → late ≡ []
      late_clear [] g z = g
      late_clear (a ∷ l) g z = cc

      module _ (n : ℕ) (z : r ≡ Ok n) where
        abbrev words : List ℕ
        words = sheet_words f t es

        wrote : Wrote words b n e
        wrote = (c.wrote n z).1

        meets : Meets f words
        meets = record {
          document = x;
          statements = ss;
          short = p.short;
          spells = p.shaped;
          faultless = judged [] (late_clear late refl (sym late_first ∙ (c.wrote n z).0));
          words = ap (sheet_words f t) p.entries ∙ sheet.sheet_is f x p.short p.shaped p.faultless telling reads;
        }

        pub late_short : length d < n → Converts f d (Err (refused_at 13 n)) d
        late_short k = Converts.refuses (refused_at 13 n) (Refuses.by_room words meets (rw (← wrote.count) k) refl wrote.count)

        -- the copy of the first words of the buffer
        pub late_written : (m : ℕ) (u : List ℕ) → Wrote (take n e) d m u → n ≤ length d → Converts f d (Ok m) u
        late_written m u g k =
            let a : take n e ≡ words =
            ap (take n) wrote.words ∙ take_at words (drop (length words) b) n (sym wrote.count) in
            let i : m ≡ length words = g.count ∙ ap length a in
            let v : u ≡ written words d = g.words ∙ ap (λ (l : List ℕ). written l d) a in
            rw (i, v) (Converts.converts words meets (rw (← wrote.count) k))
