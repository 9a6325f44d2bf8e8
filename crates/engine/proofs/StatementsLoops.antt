-- A statement's record as the code takes it apart, and the turns of the loops over actions and over statements.
use Prim.Native.Nat.{ℕ, ◌+◌, ◌*◌, ◌-◌, ◌≤◌, ◌<◌}
use mathlib.Core.Path.{◌≡◌}
use mathlib.Core.List.{List, map}
use mathlib.Core.Bool.{Bool, true, false, not, ◌&&◌, cond}
use native.Mathlib.Nat.{sub-zero}
use native.Mathlib.Numerals.{add-one}
use lib.ListN.{length, get_or, take, drop, set, drop_of_length-le}
use lib.Seq.{drop-cons}
use lib.Dec.{leb}
use Rattle.code.specs.Code.{value_on}
use Rattle.records.specs.RecordsCode.{statement_size, statement_at, actions_at, code_at, action_at}
use Rattle.loader.specs.ScanCode.{records_of}
use Rattle.loader.proofs.Laws.{records_end}
use Rattle.engine.specs.RowsCode.{rows_of}
use Rattle.engine.proofs.RowsLaws.{turn, rows_all, rows_none}
use Rattle.event_rules.specs.declared.Logging.{Logging}
use Rattle.event_rules.specs.Rules.{act, act_all}
use Rattle.event_rules.specs.Calls.{statement_of}
use Rattle.engine.specs.StatementsCode.{evaluate_all, act_risen}
use Rattle.std.proofs.Common.{None, Some}

-- ---- a record
module _ (rec behind lent : List ℕ) (a : ℕ) (ea : a ≡ get_or rec 1 0) where
  pub code_part : (bs : List Bool) (w : ℕ) → w ≡ get_or rec 2 0 → behind ≡ drop (3 + a) rec → lent ≡ take w behind
      → value_on bs lent ≡ value_on bs (code_at rec)
  code_part bs w ew eb el = rw (el, eb, ea, ew)

  pub actions_part : (end : ℕ) (l : Logging) → behind ≡ drop 3 rec → lent ≡ take a behind
      → act_all end (map action_at lent) l ≡ act_all end (map action_at (actions_at rec)) l
  actions_part end l eb el = rw (el, eb, ea)

-- ---- actions
module _ (words : List ℕ) (end i : ℕ) (l : Logging) where
  pub act_turn : i < length words
      → act_all end (map action_at (drop (i + 1) words)) (act end (action_at (get_or words i 0)) l) ≡ act_all end (map action_at (drop i words)) l
  unfolding act_all
  act_turn h = rw (add-one, drop-cons words i 0 h)

  pub act_end : length words ≤ i → l ≡ act_all end (map action_at (drop i words)) l
  unfolding act_all
  act_end h = rw (drop_of_length-le words h)

-- ---- statements
module _ (words : List ℕ) (states : List Bool) (k : ℕ) where
  pub evaluate_none : (r : List Bool) → leb k 16 ≡ false
      → Some r ≡ evaluate_all (map statement_of (rows_of statement_size statement_at 16 k words)) states 0 r
  unfolding evaluate_all
  evaluate_none r h = rw (rows_none statement_size statement_at 16 k words h)

  pub evaluate_start : (r : List Bool) → leb k 16 ≡ true
      → evaluate_all (map statement_of (records_of statement_size statement_at (k - 0) (drop 0 words))) states 0 r
      ≡ evaluate_all (map statement_of (rows_of statement_size statement_at 16 k words)) states 0 r
  evaluate_start r h = rw (rows_all statement_size statement_at 16 k words h, sub-zero k)

  module _ (i at : ℕ) (r : List Bool) where
    module _ (h : i < k) (rest : List ℕ) (q : rest ≡ drop at words) (n : ℕ) (z : n ≡ statement_size rest) where
      pub evaluate_turn : (v : Bool) → (statement_of (statement_at rest)).holds states ≡ Some v
          → evaluate_all (map statement_of (records_of statement_size statement_at (k - (i + 1)) (drop (at + n) words))) states (i + 1)
          (set r i v)
          ≡ evaluate_all (map statement_of (records_of statement_size statement_at (k - i) (drop at words))) states i r
      unfolding evaluate_all
      evaluate_turn v e = rw (turn statement_size statement_at words k i at rest n h q z, e)

      pub evaluate_fault : (statement_of (statement_at rest)).holds states ≡ None
          → None
          ≡ evaluate_all (map statement_of (records_of statement_size statement_at (k - i) (drop at words))) states i r
      unfolding evaluate_all
      evaluate_fault e = rw (turn statement_size statement_at words k i at rest n h q z, e)

    pub evaluate_end : k ≤ i
        → Some r ≡ evaluate_all (map statement_of (records_of statement_size statement_at (k - i) (drop at words))) states i r
    unfolding evaluate_all
    evaluate_end h = rw (records_end statement_size statement_at words k i at h)

module _ (words : List ℕ) (u : ℕ) (was now : List Bool) (k : ℕ) where
  pub risen_none : (l : Logging) → leb k 16 ≡ false
      → l ≡ act_risen (map statement_of (rows_of statement_size statement_at 16 k words)) u was now 0 l
  unfolding act_risen
  risen_none l h = rw (rows_none statement_size statement_at 16 k words h)

  pub risen_start : (l : Logging) → leb k 16 ≡ true
      → act_risen (map statement_of (records_of statement_size statement_at (k - 0) (drop 0 words))) u was now 0 l
      ≡ act_risen (map statement_of (rows_of statement_size statement_at 16 k words)) u was now 0 l
  risen_start l h = rw (rows_all statement_size statement_at 16 k words h, sub-zero k)

  module _ (i at : ℕ) (l : Logging) where
    pub risen_turn : i < k → (rest : List ℕ) → rest ≡ drop at words → (n : ℕ) → n ≡ statement_size rest → (next : Logging)
        → next
        ≡ cond (get_or now i false && not (get_or was i false)) (act_all (u + 1000 * (statement_at rest).post) (statement_at rest).actions l) l
        → act_risen (map statement_of (records_of statement_size statement_at (k - (i + 1)) (drop (at + n) words))) u was now (i + 1) next
        ≡ act_risen (map statement_of (records_of statement_size statement_at (k - i) (drop at words))) u was now i l
    unfolding act_risen
    risen_turn h rest q n z next e = rw (e, turn statement_size statement_at words k i at rest n h q z)

    pub risen_end : k ≤ i → l ≡ act_risen (map statement_of (records_of statement_size statement_at (k - i) (drop at words))) u was now i l
    unfolding act_risen
    risen_end h = rw (records_end statement_size statement_at words k i at h)
