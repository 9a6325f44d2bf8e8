-- The turns of the loops over triggers.
use Prim.Native.Nat.{ℕ, ◌+◌, ◌-◌, ◌≤◌, ◌<◌}
use mathlib.Core.Path.{◌≡◌, refl, sym, ap, ◌∙◌}
use mathlib.Core.List.{List, []}
use mathlib.Core.Bool.{Bool, true, false, cond}
use lib.ListN.{length, get_or, set, drop}
use lib.Dec.{leb}
use native.Mathlib.Omega.{arith}
use native.Mathlib.Nat.{sub-zero}
use lib.Seq.{set-get_or}
use Rattle.records.specs.RecordsCode.{trigger_size, trigger_at}
use Rattle.loader.specs.ScanCode.{records_of}
use Rattle.loader.proofs.Laws.{records_end}
use Rattle.engine.specs.RowsCode.{rows_of}
use Rattle.engine.proofs.RowsLaws.{turn}
use Rattle.event_rules.specs.declared.Event.{Event}
use Rattle.event_rules.specs.declared.Firing.{Firing}
use Rattle.engine.specs.TriggersCode.{never, turn_of, fire_one, fire_all, kept}
use Rattle.engine.specs.declared.triggers.Fired.{Fired}
use Rattle.engine.specs.declared.triggers.Turn.{Turn}
use Rattle.lists.proofs.Fills.{filled, fill_read, fill_more, fill_all, length_zip, zip_at}

few_rows : (words : List ℕ) (k : ℕ) (b : Bool)
    → records_of trigger_size trigger_at (cond b k 0) words ≡ cond b (records_of trigger_size trigger_at k words) []
unfolding records_of
few_rows words k true = refl
few_rows words k false = refl

module _ (words : List ℕ) (k : ℕ) (first : Bool) (e : Event) (ls : List Firing) where
  pub fire_start : (n m : ℕ) (s : Fired) → n ≡ cond (leb k m) k 0 → m ≡ 32
      → fire_all (records_of trigger_size trigger_at (n - 0) (drop 0 words)) first e ls 0 s
      ≡ fire_all (rows_of trigger_size trigger_at 32 k words) first e ls 0 s
  unfolding rows_of
  fire_start n m s q z = rw (sub-zero n, q, z, few_rows words k (leb k 32))

  pub fire_turn : (i at : ℕ) (s : Fired) → i < k → (rest : List ℕ) → rest ≡ drop at words → (n : ℕ) → n ≡ trigger_size rest
      → (l : Firing) → l ≡ get_or ls i never → (r : Turn) → r ≡ turn_of (trigger_at rest) first e l
      → fire_all (records_of trigger_size trigger_at (k - (i + 1)) (drop (at + n) words)) first e ls (i + 1)
      (record { fires = set s.fires i r.fires; states = set s.states i r.on })
      ≡ fire_all (records_of trigger_size trigger_at (k - i) (drop at words)) first e ls i s
  unfolding fire_all fire_one
  fire_turn i at s h rest q n z l e-l r e-r =
      let e_t : r ≡ turn_of (trigger_at rest) first e (get_or ls i never) = e-r ∙ ap (turn_of (trigger_at rest) first e) e-l in
      rw (turn trigger_size trigger_at words k i at rest n h q z, e_t)

  pub fire_end : (i at : ℕ) (s : Fired) → k ≤ i → s ≡ fire_all (records_of trigger_size trigger_at (k - i) (drop at words)) first e ls i s
  unfolding fire_all
  fire_end i at s h = rw (records_end trigger_size trigger_at words k i at h)

-- ---- what is kept of the firings: those of the first i triggers
pub record Keeps (fires : List Bool) (u : ℕ) (ls : List Firing) (i : ℕ) (now : List Firing) : Type 0 where
  pub long_fires : length fires ≡ 32
  pub long : length ls ≡ 32
  pub now_is : now ≡ filled (kept fires u ls) ls i

module _ (fires : List Bool) (u : ℕ) (ls : List Firing) where
  pub keeps_none : length fires ≡ 32 → length ls ≡ 32 → Keeps fires u ls 0 ls
  keeps_none f l = record { long_fires = f; long = l; now_is = refl }

  module _ (i : ℕ) (now : List Firing) (k : Keeps fires u ls i now) where
    like : length (kept fires u ls) ≡ length ls
    unfolding kept
    like = length_zip _ fires ls (k.long_fires ∙ sym k.long)

    module _ (h : i < 32) where
      stands : get_or now i never ≡ get_or ls i never
      stands = rw k.now_is (fill_read never (kept fires u ls) ls like i (omega (arith, k.long)))

      keeps_more : (l : Firing) → l ≡ cond (get_or fires i false) (record { ever = true; at = u }) (get_or ls i never)
          → Keeps fires u ls (i + 1) (set now i l)
      unfolding kept
      keeps_more l q = record {
        long_fires = k.long_fires;
        long = k.long;
        now_is =
            rw k.now_is
            (fill_more never (kept fires u ls) ls like i (omega (arith, k.long)) l
            (q ∙ sym (zip_at (λ b x. cond b (record { ever = true; at = u }) x) fires ls i false never never
            (omega (arith, k.long_fires)) (omega (arith, k.long)))));
      }

      -- a trigger that fires, and one that does not
      pub keeps_fired : get_or fires i false ≡ true → Keeps fires u ls (i + 1) (set now i (record { ever = true; at = u }))
      keeps_fired b = keeps_more (record { ever = true; at = u }) (rw b)

      pub keeps_quiet : get_or fires i false ≡ false → Keeps fires u ls (i + 1) now
      keeps_quiet b = rw (set-get_or now i never) at (keeps_more (get_or now i never) (rw b stands))

    pub keeps_all : 32 ≤ i → now ≡ kept fires u ls
    keeps_all h = k.now_is ∙ fill_all never (kept fires u ls) ls like i (omega (arith, k.long))
