-- Blocks of sixteen bytes, one behind the other: what `chunks_exact` lends, and where a run stands behind those that are of one kind.
use Prim.Native.Nat.{ℕ, zero, suc, ◌+◌, ◌*◌, ◌/◌, ◌≤◌, ◌<◌}
use native.Mathlib.Omega.{arith}
use mathlib.Core.Path.{◌≡◌, sym, ap, ◌∙◌}
use mathlib.Core.List.{List, [], ◌∷◌, ◌++◌}
use mathlib.Core.Bool.{Bool, true, ◌&&◌, true≢false, and-true}
use lib.ListN.{length, take, drop, length-append, length-drop}
use lib.Seq.{take_at, drop_at, drop-drop}
use Rattle.std.specs.Iterator.{AlwaysYields}
use Rattle.std.specs.List.{list_all, prefix_len}
use Rattle.std.specs.Slice.Iter.{chunks_exact_steps, chunks_exact_rest, chunks_exact_size}
use Rattle.std.specs.declared.slice.ChunksExact.{ChunksExact}
use Rattle.std.proofs.lemmas.Iterator.{YieldsList}
use Rattle.std.proofs.lemmas.List.Folds.{length-prefix_len, list_all-append}
use Rattle.text.specs.SpansCode.{span_at}
use Rattle.lists.proofs.Cases.{by_cases}

-- the first n blocks
pub blocks : ℕ → List ℕ → List (List ℕ)
blocks zero s = []
blocks (suc n) s = take 16 s ∷ blocks n (drop 16 s)

blocks_give : (n : ℕ) (c : ChunksExact ℕ) (s : List ℕ) → chunks_exact_rest c ≡ s → chunks_exact_size c ≡ 16 → 16 * n ≤ length s
    → length s < 16 * n + 16 → AlwaysYields chunks_exact_steps (λ x. x.now) c (blocks n s)
unfolding blocks
blocks_give zero c s e z l h = λ x j p. omega (arith, z, p.1.1, ap length (sym e ∙ p.1.0), length-append x.now (chunks_exact_rest j))
blocks_give (suc n) c s e z l h = (
  λ j p. omega (arith, z, p.1.0, ap length e),
  λ x j p.
      let q : s ≡ x.now ++ chunks_exact_rest j = sym e ∙ p.1.0 in
      let m : length x.now ≡ 16 = p.1.1 ∙ z in
      let d : drop 16 s ≡ chunks_exact_rest j = ap (drop 16) q ∙ drop_at x.now (chunks_exact_rest j) 16 m in (
        sym (ap (take 16) q ∙ take_at x.now (chunks_exact_rest j) 16 m),
        blocks_give n j (drop 16 s) (sym d) (p.0 ∙ z) (omega (arith, length-drop 16 s)) (omega (arith, length-drop 16 s)),
      ),
)

pub blocks_lent : {c : ChunksExact ℕ} (s : List ℕ) → chunks_exact_rest c ≡ s → chunks_exact_size c ≡ 16
    → YieldsList chunks_exact_steps (λ x. x.now) c (blocks (length s / 16) s)
blocks_lent {c} s e z = record { runs = blocks_give (length s / 16) c s e z (omega arith) (omega arith) }

module _ (p : ℕ → Bool) where
  -- one byte more
  pub all_one : (ys : List ℕ) (y : ℕ) {a b : Bool} → a ≡ list_all p ys → b ≡ (a && p y) → b ≡ list_all p (ys ++ (y ∷ []))
  all_one ys y {a} {b} e f =
      f ∙ ap (λ (t : Bool). t && p y) e ∙ ap (λ (t : Bool). list_all p ys && t) (sym (and-true (p y)))
      ∙ sym (list_all-append p ys (y ∷ []))

  span_front : (m : ℕ) (s : List ℕ) (i : ℕ) → m ≤ length s → list_all p (take m s) ≡ true → span_at p s i ≡ span_at p (drop m s) (i + m)
  unfolding span_at
  span_front zero s i l e = let q : i ≡ i + 0 = omega arith in ap (span_at p s) q
  span_front (suc m) [] i l e = absurd (omega arith)
  span_front (suc m) (b ∷ s) i l e =
      let q : i + 1 + m ≡ i + suc m = omega arith in
      by_cases (p b)
      (λ t. rw (t, span_at) (span_front m s (i + 1) (omega arith) (rw t at e) ∙ ap (span_at p (drop m s)) q))
      (λ t. absurd (true≢false (sym (rw t at e))))

  span_blocks : (n : ℕ) (s : List ℕ) (i : ℕ) → 16 * n ≤ length s → (k : ℕ) → k ≡ prefix_len (list_all p) (blocks n s)
      → span_at p (drop (16 * k) s) (i + 16 * k) ≡ span_at p s i
  unfolding blocks
  span_blocks n s i l zero e = let q : i + 16 * 0 ≡ i = omega arith in ap (span_at p s) q
  span_blocks zero s i l (suc k) e = absurd (omega arith)
  span_blocks (suc n) s i l (suc k) e =
      by_cases (list_all p (take 16 s))
      (λ t.
      let f : suc k ≡ 1 + prefix_len (list_all p) (blocks n (drop 16 s)) = rw t at e in
      let q : 16 + 16 * k ≡ 16 * suc k = omega arith in
      let r : i + 16 + 16 * k ≡ i + 16 * suc k = omega arith in
      sym (span_front 16 s i (omega arith) t
      ∙ sym (span_blocks n (drop 16 s) (i + 16) (omega (arith, length-drop 16 s)) k (omega arith))
      ∙ ap (λ (l : List ℕ). span_at p l (i + 16 + 16 * k)) (drop-drop (16 * k) 16 s)
      ∙ ap (λ (m : ℕ). span_at p (drop m s) (i + 16 + 16 * k)) q
      ∙ ap (span_at p (drop (16 * suc k) s)) r))
      (λ t. let f : suc k ≡ 0 = rw t at e in absurd (omega arith))

  pub span_behind : (f : List ℕ) (i n : ℕ) → let b : List (List ℕ) = blocks (length (drop i f) / 16) (drop i f) in
      n ≡ length (take (prefix_len (list_all p) b) b)
      → span_at p (drop (i + 16 * n) f) (i + 16 * n) ≡ span_at p (drop i f) i
  span_behind f i n e =
      ap (λ (l : List ℕ). span_at p l (i + 16 * n)) (sym (drop-drop (16 * n) i f))
      ∙ span_blocks (length (drop i f) / 16) (drop i f) i (omega arith) n (e ∙ length-prefix_len (list_all p) (blocks (length (drop i f) / 16) (drop i f)))
