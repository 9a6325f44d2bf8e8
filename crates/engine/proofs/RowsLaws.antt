-- Turns of a loop over records in a row: i of k are passed, and the next stands in front of `rest`.
use Prim.Native.Nat.{ℕ, ◌+◌, ◌-◌, ◌≤◌, ◌<◌}
use mathlib.Core.Path.{◌≡◌, refl, ◌∙◌}
use mathlib.Core.List.{List, [], ◌∷◌}
use mathlib.Core.Bool.{Bool, true, false, cond}
use native.Mathlib.Omega.{arith}
use lib.ListN.{length, drop}
use lib.Dec.{leb}
use borrow.Author.Tests.{leb-true}
use Rattle.loader.specs.ScanCode.{records_of}
use Rattle.loader.proofs.Laws.{records_turn}
use Rattle.loader.proofs.Rows.{records_number}
use Rattle.engine.specs.RowsCode.{rows_of}

module _ (size : List ℕ → ℕ) {A : Type 0} (read : List ℕ → A) where
  pub turn : (words : List ℕ) (k i at : ℕ) (rest : List ℕ) (n : ℕ) → i < k → rest ≡ drop at words → n ≡ size rest
      → records_of size read (k - i) (drop at words) ≡ read rest ∷ records_of size read (k - (i + 1)) (drop (at + n) words)
  turn words k i at rest n h q s = records_turn size read words k i at h ∙ rw (s, q)

  -- where there may be so many
  pub rows_all : (most k : ℕ) (ws : List ℕ) → leb k most ≡ true → rows_of size read most k ws ≡ records_of size read k ws
  unfolding rows_of
  rows_all most k ws h = rw h

  pub rows_none : (most k : ℕ) (ws : List ℕ) → leb k most ≡ false → rows_of size read most k ws ≡ []
  unfolding rows_of
  rows_none most k ws h = rw h

  pub few_rows : (most k : ℕ) (ws : List ℕ) → length (rows_of size read most k ws) ≤ most
  unfolding rows_of
  few_rows most k ws = go (leb k most) refl
    where
      go : (b : Bool) → leb k most ≡ b → length (cond b (records_of size read k ws) []) ≤ most
      go true e = omega (arith, records_number size read k ws, leb-true k most e)
      go false e = omega arith
