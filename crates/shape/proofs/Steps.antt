-- How readers follow each other, and what the bytes of a comment do.
use Prim.Native.Nat.{ℕ, ◌+◌, ◌≤◌, ◌<◌}
use native.Mathlib.Omega.{arith}
use mathlib.Core.Path.{◌≡◌, refl, ap, ◌∙◌}
use mathlib.Core.List.{List}
use mathlib.Core.Bool.{Bool, false}
use lib.ListN.{length, get_or, drop}
use lib.Dec.{eqb}
use borrow.Author.Tests.{eq-eqb, ne_eqb}
use Rattle.std.specs.Prelude.{Result, Ok, Err, IsErrAnd}
use Rattle.std.proofs.lemmas.Result.{err_from_is_err_and}
use Rattle.shape.specs.declared.Stop.{Stop}
use Rattle.text.specs.Kinds.{is_any}
use Rattle.text.specs.SpansCode.{span_at, is_plain}
use Rattle.lists.proofs.Cases.{le_or_lt}
use Rattle.text.proofs.Chains.{plain_is}
use Rattle.text.proofs.Spans.{low_of, stop_of}
use Rattle.shape.specs.MachineCode.{Step, State, idle, comment, Zone, bang, dash, text, text_dash, text_end, live, dead, bad, step_byte, end, at}
use Rattle.shape.specs.ReadsCode.{WentOn, Reads, Expects}
use Rattle.shape.proofs.Run.{at_step, at_dead, at_end, at_same, run_of}

pub past_from : (s : List ℕ) (i j : ℕ) (r : Step) → i ≤ j → WentOn s j r → WentOn s i r
past_from s i j (Ok k) h p = omega arith
past_from s i j (Err e) h p = tt

pub expects_at : (b : ℕ) (s : List ℕ) (i : ℕ) → i < length s → get_or s i 0 ≡ b → Expects b s i (Ok (i + 1))
expects_at b s i h e = record { run = λ q q' l d f. at_step q s i h (ap (step_byte q) e ∙ l); past = omega arith }

pub expects_other : (b : ℕ) (s : List ℕ) (i : ℕ) → (i < length s → get_or s i 0 ≡ b → ⊥) → Expects b s i (Err (record { 0 = i }))
expects_other b s i e =
    record {
      run = λ q q' l d f. le_or_lt (length s) i (λ g. at_end q s i g ∙ f)
          (λ h. at_dead q s i h (d h (e h)));
      past = tt;
    }

-- what a `?` hands on
pub handed_on : {T E : Type 0} (r : Result T E) {e : E} → IsErrAnd r (λ y. y ≡ e) → r ≡ Err e
handed_on r h = let p = err_from_is_err_and r h in p.1 ∙ ap Err p.2

-- one reader behind another
module _ {X : Type 0} {q q₁ q₂ : X → State} {s : List ℕ} {i : ℕ} where
  pub reads_then : {j : ℕ} {r : Step} → Reads q q₁ s i (Ok j) → Reads q₁ q₂ s j r → Reads q q₂ s i r
  reads_then {j} {r} x y = record { run = λ a. x.run a ∙ y.run a; past = past_from s i j r (omega (arith, x.past.0)) y.past }

  pub reads_bad : {e : Stop} {r : Step} → Reads q q₁ s i (Err e) → IsErrAnd r (λ y. y ≡ e) → Reads q q₂ s i r
  reads_bad {e} {r} x g = rw (handed_on r g) (record { run = x.run; past = tt })

-- bytes that change nothing, then a reader
pub reads_behind : {X : Type 0} {q q₁ q₂ : X → State} (s : List ℕ) (i j : ℕ) (r : Step) → i ≤ j → ((a : X) → at (q a) s i ≡ at (q₁ a) s j)
    → Reads q₁ q₂ s j r → Reads q q₂ s i r
reads_behind s i j r h g y = record { run = λ a. g a ∙ y.run a; past = past_from s i j r h y.past }

-- b must stand where no byte of kind p stands
pub reads_byte : {X : Type 0} {b : ℕ} (q q₁ : X → State) (p : ℕ → Bool) (s : List ℕ) (i : ℕ) (r : Step)
    → (i < length s → p (get_or s i 0) ≡ false) → ((a : X) → step_byte (q a) b ≡ live (q₁ a))
    → ((a : X) (c : ℕ) → p c ≡ false → (c ≡ b → ⊥) → step_byte (q a) c ≡ dead) → ((a : X) → end (q a) i ≡ bad i) → Expects b s i r
    → Reads q q₁ s i r
reads_byte q q₁ p s i r h g d f x = record { run = λ a. x.run (q a) (q₁ a) (g a) (λ l e. d a (get_or s i 0) (h l) e) (f a); past = x.past }

-- b must stand
pub reads_only : {X : Type 0} {b : ℕ} (q q₁ : X → State) (s : List ℕ) (i : ℕ) (r : Step) → ((a : X) → step_byte (q a) b ≡ live (q₁ a))
    → ((a : X) (c : ℕ) → (c ≡ b → ⊥) → step_byte (q a) c ≡ dead) → ((a : X) → end (q a) i ≡ bad i) → Expects b s i r → Reads q q₁ s i r
reads_only q q₁ s i r g d f x = reads_byte q q₁ (λ c. false) s i r (λ l. refl) g (λ a c t e. d a c e) f x

plain_not : (b : ℕ) → is_plain b ≡ false → eqb b 45 ≡ false → is_any b ≡ false
unfolding is_plain
plain_not b t e = rw e at t

-- inside a comment: up to a dash and behind it
pub com_dash : {s : List ℕ} {i j : ℕ} {r : Step} → j ≡ span_at is_plain (drop i s) i → Expects 45 s j r
    → Reads (comment text) (comment text_dash) s i r
com_dash {s} {i} {j} {r} e x =
    reads_behind s i j r (low_of is_plain s i j e)
    (λ z. run_of is_plain s i j e (comment text z) (λ b t. let h = plain_is b t in rw (h.0, h.1)))
    (reads_byte (comment text) (comment text_dash) is_plain s j r (stop_of is_plain s i j e) (λ z. refl)
    (λ z c t n. simp (ne_eqb _ _ n, plain_not c t (ne_eqb _ _ n))) (λ z. refl) x)

module _ (s : List ℕ) (z : Zone) (j : ℕ) where
  -- a second dash
  pub com_dash_2 : j < length s → get_or s j 0 ≡ 45 → at (comment text_dash z) s j ≡ at (comment text_end z) s (j + 1)
  com_dash_2 h e = at_step (comment text_dash z) s j h (rw (eq-eqb _ _ e))

  -- no second dash: as good as none
  pub com_more : (j < length s → get_or s j 0 ≡ 45 → ⊥) → at (comment text_dash z) s j ≡ at (comment text z) s j
  com_more n = at_same (comment text_dash z) (comment text z) s j (λ h. rw (ne_eqb _ _ (n h))) refl

-- the marks of a comment
module _ {s : List ℕ} {i : ℕ} {r : Step} where
  pub com_bang : Expects 45 s i r → Reads (comment bang) (comment dash) s i r
  com_bang x = reads_only (comment bang) (comment dash) s i r (λ z. refl) (λ z a e. rw (ne_eqb _ _ e)) (λ z. refl) x

  pub com_bang_2 : Expects 45 s i r → Reads (comment dash) (comment text) s i r
  com_bang_2 x = reads_only (comment dash) (comment text) s i r (λ z. refl) (λ z a e. rw (ne_eqb _ _ e)) (λ z. refl) x

  pub com_close : Expects 62 s i r → Reads (comment text_end) idle s i r
  com_close x = reads_only (comment text_end) idle s i r (λ z. refl) (λ z a e. rw (ne_eqb _ _ e)) (λ z. refl) x
