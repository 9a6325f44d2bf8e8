-- What the readers of a whole file do.
use Prim.Native.Nat.{ℕ, ◌+◌, ◌<◌}
use native.Mathlib.Omega.{arith}
use mathlib.Core.Path.{◌≡◌, refl, sym, ap, ◌∙◌}
use mathlib.Core.List.{List, [], ◌∷◌}
use mathlib.Core.Bool.{Bool, true, false}
use lib.ListN.{length, get_or, drop}
use lib.Dec.{eqb}
use borrow.Author.Tests.{ne_eqb, eqb-true}
use Rattle.text.specs.Kinds.{is_blank, is_start, is_decl}
use Rattle.text.specs.SpansCode.{span_at}
use Rattle.lists.proofs.Cases.{by_cases, le_or_lt}
use Rattle.text.proofs.Spans.{low_of, stop_of}
use Rattle.shape.specs.MachineCode.{Step, start, start_lt, decl, mark, mark_x, mark_xm, declared, closing as closing_decl, before, after, idle, lt, comment, bang, tag, name, bad, at}
use Rattle.shape.specs.ReadsCode.{Reads, Expects, single, outer}
use Rattle.shape.proofs.Bytes.{kind_not, blank_60, start_33, decl_63}
use Rattle.shape.proofs.Run.{at_step, at_dead, at_end, at_same, run_of}
use Rattle.shape.proofs.Steps.{reads_behind, reads_byte, reads_only}

module _ {s : List ℕ} {i : ℕ} {r : Step} where
  pub decl_x : Expects 120 s i r → Reads (single (decl mark)) (single (decl mark_x)) s i r
  decl_x x = reads_only (single (decl mark)) (single (decl mark_x)) s i r (λ u. refl) (λ u a e. rw (ne_eqb _ _ e)) (λ u. refl) x

  pub decl_m : Expects 109 s i r → Reads (single (decl mark_x)) (single (decl mark_xm)) s i r
  decl_m x = reads_only (single (decl mark_x)) (single (decl mark_xm)) s i r (λ u. refl) (λ u a e. rw (ne_eqb _ _ e)) (λ u. refl) x

  pub decl_l : Expects 108 s i r → Reads (single (decl mark_xm)) (single (decl declared)) s i r
  decl_l x = reads_only (single (decl mark_xm)) (single (decl declared)) s i r (λ u. refl) (λ u a e. rw (ne_eqb _ _ e)) (λ u. refl) x

  pub decl_gt : Expects 62 s i r → Reads (single (decl closing_decl)) (single (idle before)) s i r
  decl_gt x = reads_only (single (decl closing_decl)) (single (idle before)) s i r (λ u. refl) (λ u a e. rw (ne_eqb _ _ e)) (λ u. refl) x

pub decl_text : {s : List ℕ} {i j : ℕ} {r : Step} → j ≡ span_at is_decl (drop i s) i → Expects 63 s j r
    → Reads (single (decl declared)) (single (decl closing_decl)) s i r
decl_text {s} {i} {j} {r} e x =
    reads_behind s i j r (low_of is_decl s i j e)
    (λ a. run_of is_decl s i j e (decl declared) (λ b t. rw t))
    (reads_byte (single (decl declared)) (single (decl closing_decl)) is_decl s j r (stop_of is_decl s i j e) (λ a. rw decl_63)
    (λ a c t e. simp (t, ne_eqb _ _ e)) (λ a. refl) x)

-- the very start
pub start_decl : (s : List ℕ) → 1 < length s → get_or s 0 0 ≡ 60 → get_or s 1 0 ≡ 63 → at start s 0 ≡ at (decl mark) s 2
start_decl s h e f = at_step start s 0 (omega arith) (rw e) ∙ at_step start_lt s 1 h (rw f)

pub start_none : (s : List ℕ) → (1 < length s → get_or s 0 0 ≡ 60 → get_or s 1 0 ≡ 63 → ⊥) → at start s 0 ≡ at (idle before) s 0
start_none s n = le_or_lt (length s) 0 (λ l. at_end start s 0 l ∙ sym (at_end (idle before) s 0 l))
    (λ l. by_cases (eqb (get_or s 0 0) 60)
    (λ t. at_step start s 0 l (rw t) ∙ at_same start_lt (lt before) s 1 (λ m. rw (ne_eqb (get_or s 1 0) 63 (n m (eqb-true (get_or s 0 0) 60 t))))
    refl ∙ sym (at_step (idle before) s 0 l (rw (eqb-true (get_or s 0 0) 60 t, blank_60))))
    (λ t. at_same start (idle before) s 0 (λ m. simp t) refl))

module _ (s : List ℕ) (k : ℕ) (h : k < length s) where
  pub outer_lt : (b : Bool) → get_or s k 0 ≡ 60 → at (idle (outer b)) s k ≡ at (lt (outer b)) s (k + 1)
  outer_lt true e = at_step (idle before) s k h (rw (e, blank_60))
  outer_lt false e = at_step (idle after) s k h (rw (e, blank_60))

  pub outer_bad : (b : Bool) → is_blank (get_or s k 0) ≡ false → (get_or s k 0 ≡ 60 → ⊥) → at (idle (outer b)) s k ≡ bad k
  outer_bad true t e = at_dead (idle before) s k h (simp (t, ne_eqb _ _ e))
  outer_bad false t e = at_dead (idle after) s k h (simp (t, ne_eqb _ _ e))

  pub outer_bang : (b : Bool) → get_or s k 0 ≡ 33 → at (lt (outer b)) s k ≡ at (comment bang (outer b)) s (k + 1)
  outer_bang b e = at_step (lt (outer b)) s k h (rw e)

  pub root_start : is_start (get_or s k 0) ≡ true → at (lt before) s k ≡ at (tag name [] (get_or s k 0 ∷ [])) s (k + 1)
  root_start t = at_step (lt before) s k h (simp (kind_not is_start (get_or s k 0) 33 start_33 t, t))

  pub root_bad : eqb (get_or s k 0) 33 ≡ false → is_start (get_or s k 0) ≡ false → at (lt before) s k ≡ bad k
  root_bad e t = at_dead (lt before) s k h (simp (e, t))

pub outer_blanks : (s : List ℕ) (j k : ℕ) (b : Bool) → k ≡ span_at is_blank (drop j s) j → at (idle (outer b)) s j ≡ at (idle (outer b)) s k
outer_blanks s j k true e = run_of is_blank s j k e (idle before) (λ c t. rw t)
outer_blanks s j k false e = run_of is_blank s j k e (idle after) (λ c t. rw t)

-- markup behind the root that is no comment
pub lt_after : (s : List ℕ) (k : ℕ) → (k < length s → eqb (get_or s k 0) 33 ≡ false) → at (lt after) s k ≡ bad k
lt_after s k n =
    le_or_lt (length s) k (λ l. at_end (lt after) s k l)
    (λ l. at_dead (lt after) s k l (rw (n l) (by_cases (is_start (get_or s k 0)) (λ t. rw t) (λ t. rw t))))

pub misc_bang : (s : List ℕ) (k : ℕ) (b : Bool) → k + 1 < length s → get_or s k 0 ≡ 60 → get_or s (k + 1) 0 ≡ 33
    → at (idle (outer b)) s k ≡ at (comment bang (outer b)) s (k + 2)
misc_bang s k b h e f = let q : k + 1 + 1 ≡ k + 2 = omega arith in outer_lt s k (omega arith) b e ∙ outer_bang s (k + 1) h b f
    ∙ ap (at (comment bang (outer b)) s) q
