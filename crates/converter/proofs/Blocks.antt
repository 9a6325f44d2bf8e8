-- The rows of a document's entries, each made by an entry and those behind it, are those of its elements of some kind, each with what it
-- holds.
use Prim.Native.Nat.{ℕ}
use mathlib.Core.Path.{◌≡◌, refl, sym, ap, subst, ◌∙◌}
use mathlib.Core.List.{List, [], ◌∷◌, ◌++◌, map, append_assoc, append-nil}
use mathlib.Core.Bool.{Bool, true, false, not, cond, ◌&&◌, beq, true≢false}
use borrow.Author.Tests.{not-true}
use Rattle.lists.specs.Lists.{gathered}
use Rattle.lists.proofs.Cases.{by_cases}
use Rattle.lists.proofs.Gathers.{gathered_append}
use Rattle.schema.specs.Schema.{parents, one_of, under}
use Rattle.schema.specs.SchemaCode.{kind_name}
use Rattle.file_rules.specs.Element.{Known}
use Rattle.file_rules.specs.Tables.{kept, within}
use Rattle.document.specs.EntriesCode.{Entry, entry_of}
use Rattle.document.proofs.Stood.{All}
use Rattle.tables.specs.RowsCode.{front}
use Rattle.tables.proofs.Nested.{Nested, Named, each_pair, both, pair_law, all_parts, all_mapped, spread, kept_append, kept_none}
use Rattle.tables.proofs.Fronts.{Ends, front_is}
use Rattle.converter.specs.PlanCode.{rows_of}

beq_same : (a b : Bool) → beq a b ≡ true → a ≡ b
beq_same true true e = refl
beq_same true false e = absurd (true≢false (sym e))
beq_same false true e = absurd (true≢false (sym e))
beq_same false false e = refl

-- blocks hold parts only, and nothing else does; `inside` are both
module _ {X : Type 0} (row : Entry → List Entry → List X) (block part inside : List ℕ → Bool)
    (inner : each_pair (λ n m. cond (inside n) (inside m && (part m && not (block m))) true) parents ≡ true)
    (outer : each_pair (λ n m. cond (inside n) true (beq (inside m) (block m) && not (part m))) parents ≡ true)
    (g : Known → List X) (P : Known → Type 0)
    (none : (k : Known) → P k → block k.name ≡ false → (es : List Entry) → row (entry_of k) es ≡ [])
    (one : (k : Known) → P k → block k.name ≡ true → (es : List Entry) → All (λ c. part c.name ≡ true) (within k)
    → front (λ kind. part (kind_name kind)) es ≡ map entry_of (within k) → row (entry_of k) es ≡ g k) where
  abbrev is_block : Known → Bool
  is_block k = block k.name

  abbrev rows : List Known → List X
  rows ks = rows_of row (map entry_of ks)

  passed : (ks ms : List Known) → All P ks → All (λ k. is_block k ≡ false) ks → rows (ks ++ ms) ≡ rows ms
  unfolding rows_of
  passed [] ms y b = refl
  passed (k ∷ ks) ms y b =
      ap (λ (l : List X). l ++ rows (ks ++ ms)) (none k y.0 b.0 (map entry_of (ks ++ ms))) ∙ passed ks ms y.1 b.1

  outside : (n : List ℕ) (k : Known) → inside n ≡ false → one_of (under n).carried k.name ≡ true
      → (beq (inside k.name) (is_block k) ≡ true) × (not (part k.name) ≡ true)
  outside n k o c =
      both (beq (inside k.name) (is_block k)) (not (part k.name))
      (rw o at (pair_law (λ n m. cond (inside n) true (beq (inside m) (block m) && not (part m))) parents n k.name outer c))

  ends : (n : List ℕ) (ks ms : List Known) → inside n ≡ false → Nested n ks → Ends part ms → Ends part (ks ++ ms)
  ends n ks ms o Nested.over e = e
  ends n ks ms o (Nested.next k ns c h rest) e = not-true (part k.name) (outside n k o c).1

  -- a block, and what follows it
  at_block : (k : Known) (ns ms : List Known) → is_block k ≡ true → inside k.name ≡ true → Nested k.name (within k)
      → P k → All P (within k) → All Named (within k ++ (ns ++ ms)) → Ends part (ns ++ ms)
      → rows (ns ++ ms) ≡ gathered g (kept is_block ns) ++ rows ms
      → rows (k ∷ (within k ++ (ns ++ ms))) ≡ gathered g (kept is_block (k ∷ (within k ++ ns))) ++ rows ms
  unfolding rows_of kept gathered
  at_block k ns ms b i h y ys z e q =
      let s = spread inside (λ m. part m && not (block m)) inner k.name (within k) i h in
      let split : (c : Known) → (part c.name && not (is_block c)) ≡ true → (part c.name ≡ true) × (not (is_block c) ≡ true) =
      λ c. both (part c.name) (not (is_block c)) in
      let T : Known → Type 0 = λ c. (part c.name && not (is_block c)) ≡ true in
      let ps = all_mapped T (λ c. part c.name ≡ true) (λ c t. (split c t).0) (within k) s in
      let bs = all_mapped T (λ c. is_block c ≡ false) (λ c t. not-true (is_block c) (split c t).1) (within k) s in
      let w : kept is_block (within k ++ ns) ≡ kept is_block ns = kept_append is_block (within k) ns
      ∙ ap (λ (l : List Known). l ++ kept is_block ns) (kept_none is_block (within k) bs) in
      rw (b, w, one k y b (map entry_of (within k ++ (ns ++ ms))) ps (front_is part (within k) (ns ++ ms) z ps e))
      (ap (λ (l : List X). g k ++ l) (passed (within k) (ns ++ ms) ys bs ∙ q)
      ∙ sym (append_assoc (g k) (gathered g (kept is_block ns)) (rows ms)))

  -- no block, but there may be some in it
  beside : (k : Known) (ns ms : List Known) → is_block k ≡ false → P k
      → rows (within k ++ (ns ++ ms)) ≡ gathered g (kept is_block (within k)) ++ rows (ns ++ ms)
      → rows (ns ++ ms) ≡ gathered g (kept is_block ns) ++ rows ms
      → rows (k ∷ (within k ++ (ns ++ ms))) ≡ gathered g (kept is_block (k ∷ (within k ++ ns))) ++ rows ms
  unfolding rows_of kept
  beside k ns ms b y p q =
      let us = gathered g (kept is_block (within k)) in
      let vs = gathered g (kept is_block ns) in
      rw (
        b,
        kept_append is_block (within k) ns,
        gathered_append g (kept is_block (within k)) (kept is_block ns),
        none k y b (map entry_of (within k ++ (ns ++ ms))),
      )
      (p ∙ ap (λ (l : List X). us ++ l) q ∙ sym (append_assoc us vs (rows ms)))

  rows_from : (n : List ℕ) (ks ms : List Known) → inside n ≡ false → Nested n ks → All P ks → All Named (ks ++ ms) → Ends part ms
      → rows (ks ++ ms) ≡ gathered g (kept is_block ks) ++ rows ms
  unfolding kept gathered
  rows_from n ks ms o Nested.over y z e = refl
  rows_from n ks ms o (Nested.next k ns c h rest) y z e =
      let a : (within k ++ ns) ++ ms ≡ within k ++ (ns ++ ms) = append_assoc (within k) ns ms in
      let t = (outside n k o c).0 in
      let ys = all_parts P (within k) ns y.1 in
      let w : All Named (within k ++ (ns ++ ms)) = subst (All Named) a z.1 in
      let v = ends n ns ms o rest e in
      let q = rows_from n ns ms o rest ys.1 (all_parts Named (within k) (ns ++ ms) w).1 e in
      ap (λ (l : List Known). rows (k ∷ l)) a
      ∙ by_cases (is_block k)
      (λ b. at_block k ns ms b (beq_same (inside k.name) true (rw b at t)) h y.0 ys.0 w v q)
      (λ b. beside k ns ms b y.0
      (rows_from k.name (within k) (ns ++ ms) (beq_same (inside k.name) false (rw b at t)) h ys.0 w v) q)

  pub rows_are : (ks : List Known) → inside [] ≡ false → Nested [] ks → All P ks → All Named ks
      → rows_of row (map entry_of ks) ≡ gathered g (kept is_block ks)
  unfolding rows_of
  rows_are ks o h y z =
      let a = append-nil ks in
      ap rows (sym a) ∙ (rows_from [] ks [] o h y (subst (All Named) (sym a) z) tt ∙ append-nil (gathered g (kept is_block ks)))
