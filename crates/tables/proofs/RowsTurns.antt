-- The entries by their offsets: what stands in one, and a loop over them, for any table: what the rest of them adds to the table so far is
-- the whole.
use Prim.Native.Nat.{ℕ, zero, suc, ◌+◌, ◌≤◌, ◌<◌}
use native.Mathlib.Omega.{arith}
use mathlib.Core.Path.{◌≡◌, refl, sym, ap, ◌∙◌}
use mathlib.Core.List.{List, [], ◌∷◌}
use mathlib.Core.Bool.{Bool, true, false, cond}
use lib.ListN.{length, get_or, take, drop, length-take, length-drop, get_or-eq_default}
use lib.Seq.{get_or-take, get_or-drop}
use Rattle.lists.proofs.Cases.{by_cases}
use Rattle.schema.specs.Schema.{one_of, under}
use Rattle.schema.specs.SchemaCode.{kind_name, is_ruled}
use Rattle.document.specs.EntriesCode.{Entry, row_width, row_size, entry_from, entries_from, entries_in}
use Rattle.std.specs.Prelude.{Some, None, unwrap_or}
use Rattle.std.specs.List.{filter}
use Rattle.std.specs.Iterator.{MakesProgress, item_count}
use Rattle.std.proofs.lemmas.Iterator.{YieldsList}
use Rattle.std.proofs.lemmas.Iterator.Consumers.{YieldsList-from_shown}
use Rattle.tables.specs.declared.cells.Entry.{Entry as Cells}
use Rattle.tables.specs.declared.cells.Entries.{Entries}
use Rattle.tables.specs.RowsCode.{folded, shown, left, Takes, front, counted}

-- ---- an entry's row
module _ (vs : List ℕ) (kind j : ℕ) (own : kind ≡ (entry_from vs).kind) where
  pub row_word : is_ruled (kind_name kind) ≡ true → j < row_width → get_or vs (j + 3) 0 ≡ get_or (entry_from vs).row j 0
  unfolding entry_from row_size
  row_word t h =
      let r : is_ruled (kind_name (get_or vs 0 0)) ≡ true = ap (λ (k : ℕ). is_ruled (kind_name k)) (sym own) ∙ t in
      let q : j + 3 ≡ 3 + j = omega arith in
      rw (r, q) (sym (get_or-take row_width (drop 3 vs) j 0 h ∙ get_or-drop 3 vs j 0))

  pub row_none : is_ruled (kind_name kind) ≡ false → 0 ≡ get_or (entry_from vs).row j 0
  unfolding entry_from row_size
  row_none t =
      let r : is_ruled (kind_name (get_or vs 0 0)) ≡ false = ap (λ (k : ℕ). is_ruled (kind_name k)) (sym own) ∙ t in
      rw r refl

row_short : (kind : ℕ) → row_size kind ≤ row_width
unfolding row_size
row_short kind = by_cases (is_ruled (kind_name kind)) (λ t. rw t (omega arith)) (λ t. rw t (omega arith))

pub row_past : (vs : List ℕ) (j : ℕ) → row_width ≤ j → 0 ≡ get_or (entry_from vs).row j 0
unfolding entry_from
row_past vs j h =
    let n = row_size (get_or vs 0 0) in
    sym (get_or-eq_default (take n (drop 3 vs)) 0 (omega (arith, h, row_short (get_or vs 0 0), length-take n (drop 3 vs))))

pub given_or : {X : Type 0} (b : Bool) (v d : X) → unwrap_or (cond b (Some v) None) d ≡ cond b v d
given_or true v d = refl
given_or false v d = refl

-- ---- the entry at the front, and those behind it
fuel : (n m : ℕ) (ws : List ℕ) → length ws ≤ n → length ws ≤ m → entries_from n ws ≡ entries_from m ws
unfolding entries_from
fuel zero zero ws h g = refl
fuel zero (suc m) [] h g = refl
fuel zero (suc m) (w ∷ ws) h g = absurd (omega arith)
fuel (suc n) zero [] h g = refl
fuel (suc n) zero (w ∷ ws) h g = absurd (omega arith)
fuel (suc n) (suc m) [] h g = refl
fuel (suc n) (suc m) (w ∷ ws) h g =
    let k = row_size w + 2 in
    let l = length-drop k ws in
    ap (λ (es : List Entry). entry_from (w ∷ ws) ∷ es) (fuel n m (drop k ws) (omega (arith, l, h)) (omega (arith, l, g)))

pub entries_front : (vs : List ℕ) → 0 < length vs → entries_in vs ≡ entry_from vs ∷ entries_in (drop (row_size (entry_from vs).kind + 3) vs)
unfolding entries_from entry_from
entries_front [] h = absurd (omega arith)
entries_front (w ∷ ws) h =
    let k = row_size w + 2 in
    let q : row_size w + 3 ≡ suc k = omega arith in
    let l = fuel (length ws) (length (drop k ws)) (drop k ws) (omega (arith, length-drop k ws)) (omega arith) in
    rw q (ap (λ (es : List Entry). entry_from (w ∷ ws) ∷ es) l)

pub entries_none : (vs : List ℕ) → length vs ≡ 0 → entries_in vs ≡ []
unfolding entries_from
entries_none [] h = refl
entries_none (v ∷ vs) h = absurd (omega (arith, h))

-- an entry has a word at least
few : (n : ℕ) (ws : List ℕ) → length (entries_from n ws) ≤ length ws
unfolding entries_from
few zero ws = omega arith
few (suc n) [] = omega arith
few (suc n) (w ∷ ws) = let k = row_size w + 2 in omega (arith, few n (drop k ws), length-drop k ws)

pub entries_few : (ws : List ℕ) → length (entries_in ws) ≤ length ws
entries_few ws = few (length ws) ws

-- one was taken of those that are left
pub went_on : (s t : Entries) (x : Cells) → left s ≡ shown x ∷ left t → MakesProgress (λ u. Unit {0}) (item_count left) s (Some x) t
went_on s t x e = let l = ap length e in record { on = λ f. (tt, tt, omega (arith, l)); keeps = tt; rests = λ f. tt }

pub left_is : (s : Entries) → YieldsList Takes shown s (left s)
left_is s = YieldsList-from_shown Takes shown left (λ u v h. ap length h.0) (λ u x v h. h.0) s

-- ---- the front of the entries: those up to the first whose kind is of another sort
module _ (p : ℕ → Bool) {es : List Entry} where
  module _ {e : Entry} {rest : List Entry} (s : es ≡ e ∷ rest) {kind : ℕ} (own : kind ≡ e.kind) where
    pub front_next : p kind ≡ true → front p es ≡ e ∷ front p rest
    unfolding front
    front_next k = rw (s, ← own, k)

    pub front_stop : p kind ≡ false → front p es ≡ []
    unfolding front
    front_stop k = rw (s, ← own, k)

  pub front_over : es ≡ [] → front p es ≡ []
  unfolding front
  front_over s = rw s

-- ---- the loop: what the entries that are left add to t is the whole
module _ {A : Type 0} (step : A → Entry → A) {all t : A} {es : List Entry} where
  pub told_more : {u : A} {e : Entry} {rest : List Entry} → es ≡ e ∷ rest → folded step t es ≡ all → u ≡ step t e → folded step u rest ≡ all
  unfolding folded
  told_more s c e = rw e (sym (ap (folded step t) s) ∙ c)

  pub told_all : es ≡ [] → folded step t es ≡ all → t ≡ all
  unfolding folded
  told_all s c = sym (ap (folded step t) s) ∙ c

-- ---- those of kinds that stand in the kind q
abbrev pub stands_in : ℕ → Entry → Bool
stands_in q e = one_of (under (kind_name q)).carried (kind_name e.kind)

counted_is : (q : ℕ) (es : List Entry) → length (filter (stands_in q) es) ≡ counted q es
unfolding counted
counted_is q [] = refl
counted_is q (e ∷ es) =
    by_cases (stands_in q e) (λ t. let h = counted_is q es in rw t (omega (arith, h))) (λ t. rw t (counted_is q es))

fewer : (q : ℕ) (es : List Entry) → length (filter (stands_in q) es) ≤ length es
fewer q [] = omega arith
fewer q (e ∷ es) = let h = fewer q es in by_cases (stands_in q e) (λ t. rw t (omega (arith, h))) (λ t. rw t (omega (arith, h)))

pub filter_few : (q : ℕ) (ws : List ℕ) → length (filter (stands_in q) (entries_in ws)) ≤ length ws
filter_few q ws = omega (arith, fewer q (entries_in ws), entries_few ws)

pub counting : (q n : ℕ) (ws : List ℕ) → n ≡ length (filter (stands_in q) (entries_in ws))
    → (n ≡ counted q (entries_in ws)) × (n ≤ length ws)
counting q n ws e = (e ∙ counted_is q (entries_in ws), omega (arith, e, filter_few q ws))
