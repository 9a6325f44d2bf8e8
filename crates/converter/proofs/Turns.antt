-- One statement: its words part behind part, and its refusal. The plan: the words before the records, and each kind of records.
use Prim.Native.Nat.{ℕ, ◌+◌, ◌≤◌}
use mathlib.Core.Path.{◌≡◌, refl, sym, ap, ◌∙◌}
use mathlib.Core.List.{List, [], ◌∷◌, ◌++◌, append-nil}
use mathlib.Core.Bool.{Bool, true, false}
use mir.Val.{bool_byte}
use native.Mathlib.Omega.{arith}
use lib.ListN.{length, set}
use Rattle.lists.proofs.Parts.{lent}
use Rattle.records.specs.Records.{flag}
use Rattle.std.specs.Prelude.{Option, Result, Ok, Err}
use Rattle.std.specs.Option.{option_or}
use Rattle.grammar.specs.declared.Unfit.{Unfit}
use Rattle.grammar.specs.declared.Words.{Words}
use Rattle.grammar.specs.GrammarCode.{unfit_number, code_in}
use Rattle.element.specs.ElementCode.{is_kind}
use Rattle.document.specs.EntriesCode.{Entry, number_in}
use Rattle.grammar.specs.TokensCode.{words_in}
use Rattle.tables.specs.declared.rows.Told.{Told}
use Rattle.tables.specs.RowsCode.{front, is_inner, text_of}
use Rattle.tables.specs.TablesCode.{names_at}
use Rattle.file_rules.specs.declared.Refusal.{Refusal}
use Rattle.file_rules.specs.RefusalCode.{refused_at}
use Rattle.converter.specs.PlanCode.{Wrote, WroteOr, rows_of, trigger_row, filter_row, compiled_at, line_words, line_row, verdict_fault, line_fault, late_fault, head_words, sheet_words}
use Rattle.converter.proofs.Writes.{wrote_none, wrote_second, back, Behind, behind_first, behind_all, behind_more, or_words, or_none, or_long}
use Rattle.converter.proofs.Rows.{First, rows_more, rows_all, actions_in}

-- ---- three words, behind them the actions, behind those the code; how many actions there are is set at the end
module _ (post : ℕ) (acts code d : List ℕ) (k : length (line_words post acts code) ≤ length d) where
  abbrev all : List ℕ
  all = post ∷ 0 ∷ length code ∷ (acts ++ code)

  module _ {r : ℕ} {e : List ℕ} (w : Wrote (post ∷ 0 ∷ length code ∷ []) d r e) where
    pub line_begun : Behind all d (acts ++ code) r e
    line_begun = behind_first (acts ++ code) refl k w

    module _ {n : ℕ} {p : List ℕ} (v : Wrote acts (lent e r) n p) where
      pub line_acted : Behind all d code (r + n) (back e r p)
      line_acted = behind_more line_begun acts code refl v

      module _ {j : ℕ} {q : List ℕ} (u : Wrote code (lent (back e r p) (r + n)) j q) where
        pub line_ended : Behind all d [] (r + n + j) (back (back e r p) (r + n) q)
        line_ended = behind_more line_acted code [] (sym (append-nil code)) u

        pub line_written : Wrote (line_words post acts code) d (r + n + j) (set (back (back e r p) (r + n) q) 1 n)
        line_written = rw (← v.count) (wrote_second n (behind_all line_ended refl))

-- ---- an element, as a statement
module _ (f : List ℕ) (names : List (List ℕ)) (x : Entry) (bs : List Entry) where
  abbrev row_here : List ℕ
  row_here = line_row f names x bs

  abbrev fault_here : Option Refusal
  fault_here = line_fault f names x bs

  module _ {kind : ℕ} (own : kind ≡ x.kind) where
    pub no_line : {d : List ℕ} → is_kind kind "STATEMENT" ≡ false → WroteOr fault_here row_here d (Ok 0) d
    unfolding line_row line_fault
    no_line {d} t = rw (← own, t) (or_words refl (wrote_none d) (omega arith))

    module _ (t : is_kind kind "STATEMENT" ≡ true) {es : List Entry} (q : es ≡ bs) {place : ℕ}
        (p : place ≡ text_of (front is_inner es)) {y : Result Words Unfit} (c : y ≡ compiled_at f names place) where
      row_is : {post : ℕ} → post ≡ number_in x "posttrigger" → row_here ≡ line_words post (actions_in es) (code_in y)
      unfolding line_row
      row_is e = rw (e, c, p, q, ← own, t)

      pub line_is : {post : ℕ} {w : Words} {code : List ℕ} → y ≡ Ok w → code ≡ words_in w → post ≡ number_in x "posttrigger"
          → row_here ≡ line_words post (actions_in es) code
      line_is {post} v i e = row_is e ∙ ap (λ (l : List ℕ). line_words post (actions_in es) l) (ap code_in v ∙ sym i)

      fault_is : fault_here ≡ verdict_fault y place
      unfolding line_fault
      fault_is = rw (c, p, q, ← own, t)

      module _ {d : List ℕ} where
        pub line_good : {post n : ℕ} {w : Words} {code e : List ℕ} → y ≡ Ok w → code ≡ words_in w → post ≡ number_in x "posttrigger"
            → Wrote (line_words post (actions_in es) code) d n e → length row_here ≤ length d → WroteOr fault_here row_here d (Ok n) e
        line_good v i l w k =
            or_words (fault_is ∙ ap (λ (u : Result Words Unfit). verdict_fault u place) v) (rw (line_is v i l) w)
            (omega (arith, w.count, ap length (line_is v i l), k))

        pub line_refused : {u : Unfit} → y ≡ Err u → WroteOr fault_here row_here d (Err (refused_at (unfit_number u) place)) d
        line_refused v = or_none (fault_is ∙ ap (λ (u : Result Words Unfit). verdict_fault u place) v) refl

-- ---- no statement before those that are left is refused, and those are written; es are all
module _ (f : List ℕ) (names : List (List ℕ)) (es : List Entry) where
  abbrev pub Lined : List Entry → List ℕ → ℕ → List ℕ → Type 0
  Lined ls d n e = Behind (rows_of (line_row f names) es) d (rows_of (line_row f names) ls) n e × (late_fault f names ls ≡ late_fault f names es)

  module _ {ls : List Entry} {d : List ℕ} {n : ℕ} {e : List ℕ} (b : Lined ls d n e) where
    module _ {x : Entry} {rest bs : List Entry} (g : First ls x rest bs) {y : Result ℕ Refusal} {p : List ℕ}
        (w : WroteOr (fault_here f names x bs) (row_here f names x bs) (lent e n) y p) where
      late_next : option_or (fault_here f names x bs) (late_fault f names rest) ≡ late_fault f names es
      unfolding late_fault
      late_next = ap (λ (l : List Entry). option_or (line_fault f names x l) (late_fault f names rest)) (sym g.1)
          ∙ sym (ap (late_fault f names) g.0) ∙ b.1

      pub lined_refused : (q : Refusal) → y ≡ Err q → WroteOr (late_fault f names es) (rows_of (line_row f names) es) d (Err q) (back e n p)
      lined_refused q z =
          or_none (sym late_next ∙ ap (λ (o : Option Refusal). option_or o (late_fault f names rest)) (w.refused q z)) (or_long b.0 w)

      pub lined_more : (m : ℕ) → y ≡ Ok m → Lined rest d (n + m) (back e n p)
      lined_more m z = (
        rows_more (line_row f names) b.0 g (w.wrote m z).1,
        sym (ap (λ (o : Option Refusal). option_or o (late_fault f names rest)) (w.wrote m z).0) ∙ late_next,
      )

    pub lined_all : ls ≡ [] → WroteOr (late_fault f names es) (rows_of (line_row f names) es) d (Ok n) e
    unfolding late_fault
    lined_all l = or_words (sym b.1 ∙ ap (late_fault f names) l) (rows_all (line_row f names) b.0 l) (omega (arith, b.0.room))

-- ---- the plan
pub flag_is : (b : Bool) → bool_byte b ≡ flag b
flag_is false = refl
flag_is true = refl

module _ (f : List ℕ) (t : Told) (es : List Entry) (d : List ℕ) (k : length (sheet_words f t es) ≤ length d) where
  abbrev lines : List ℕ
  lines = rows_of (line_row f (names_at f t.names)) es

  pub sheet_room : 6 ≤ length d
  unfolding sheet_words
  sheet_room = omega (arith, k)

  module _ {ws : List ℕ} {r : ℕ} {e : List ℕ} (q : ws ≡ head_words t es) (w : Wrote ws d r e) where
    pub sheet_begun : Behind (sheet_words f t es) d (rows_of trigger_row es ++ (rows_of filter_row es ++ lines)) r e
    unfolding sheet_words
    sheet_begun = behind_first (rows_of trigger_row es ++ (rows_of filter_row es ++ lines)) (rw q) k w

    module _ {n : ℕ} {p : List ℕ} (v : Wrote (rows_of trigger_row es) (lent e r) n p) where
      pub sheet_triggers : Behind (sheet_words f t es) d (rows_of filter_row es ++ lines) (r + n) (back e r p)
      sheet_triggers = behind_more sheet_begun (rows_of trigger_row es) (rows_of filter_row es ++ lines) refl v

      module _ {m : ℕ} {o : List ℕ} (u : Wrote (rows_of filter_row es) (lent (back e r p) (r + n)) m o) where
        pub sheet_filters : Behind (sheet_words f t es) d lines (r + n + m) (back (back e r p) (r + n) o)
        sheet_filters = behind_more sheet_triggers (rows_of filter_row es) lines refl u
