-- The loops over statements, which go by index into arrays, give what the rules give.
use Prim.Native.Nat.{ℕ, zero, suc, ◌+◌, ◌≤◌}
use mathlib.Core.Path.{◌≡◌, refl, ap, ◌∙◌}
use mathlib.Core.List.{List, [], ◌∷◌, ◌++◌, map, zip_with}
use mathlib.Core.Bool.{Bool, false, not, ◌&&◌}
use Rattle.std.proofs.Common.{Option, None, Some}
use native.Mathlib.Omega.{arith}
use native.Mathlib.Numerals.{add-one}
use lib.ListN.{length, get_or, drop, replicate, length-append}
use lib.Seq.{set_at, append_snoc, drop-cons}
use Rattle.code.proofs.Sound.{value_ext}
use Rattle.records.specs.Records as plans
use Rattle.event_rules.specs.declared.Logging.{Logging}
use Rattle.event_rules.specs.Rules.{Statement, and_then, evaluated, actions}
use Rattle.event_rules.specs.Calls.{statement_of}
use Rattle.engine.specs.StatementsCode.{evaluate_from, evaluate_all, act_risen}

-- what the array of truths is behind the evaluation, if there is one
abbrev pub Evaluates : Option (List Bool) → List Bool → List Bool → Option (List Bool) → Type 0
Evaluates None a ts r = r ≡ None
Evaluates (Some now) a ts r = r ≡ Some (a ++ (now ++ drop (length now) ts))

pub all_evaluated : (ss : List Statement) (st : List Bool) (a ts : List Bool) (i : ℕ) → length a ≡ i → length ss ≤ length ts
    → Evaluates (evaluated ss st) a ts (evaluate_all ss st i (a ++ ts))
unfolding evaluated evaluate_all
all_evaluated [] st a ts i ha hl = refl
all_evaluated (s ∷ ss) st a [] i ha hl = absurd (omega arith)
all_evaluated (s ∷ ss) st a (t ∷ ts) i ha hl =
    go (s.holds st) (λ v. all_evaluated ss st (a ++ (v ∷ [])) ts (i + 1) (simp length-append (omega arith)) (omega arith))
  where
    on : (v : Bool) (o : Option (List Bool))
        → Evaluates o (a ++ (v ∷ [])) ts (evaluate_all ss st (i + 1) ((a ++ (v ∷ [])) ++ ts))
        → Evaluates (and_then (Some v) o) a (t ∷ ts) (evaluate_all ss st (i + 1) ((a ++ (v ∷ [])) ++ ts))
    on v None h = h
    on v (Some now) h = h ∙ rw (append_snoc a v (now ++ drop (length now) ts)) refl

    go : (v : Option Bool)
        → ((v : Bool) → Evaluates (evaluated ss st) (a ++ (v ∷ [])) ts
        (evaluate_all ss st (i + 1) ((a ++ (v ∷ [])) ++ ts)))
        → Evaluates (and_then v (evaluated ss st)) a (t ∷ ts)
        (evaluate_from v (evaluate_all ss st (i + 1)) i (a ++ (t ∷ ts)))
    go None next = refl
    go (Some v) next = rw (set_at a t ts v i ha, ← append_snoc a v ts) (on v (evaluated ss st) (next v))

pub evaluated_length : (ss : List Statement) (st now : List Bool) → evaluated ss st ≡ Some now → length now ≡ length ss
unfolding evaluated
evaluated_length [] st now e = let q : now ≡ [] = cc in ap length q
evaluated_length (s ∷ ss) st now e = go (s.holds st) (evaluated ss st) refl e (evaluated_length ss st)
  where
    go : (v : Option Bool) (o : Option (List Bool)) → evaluated ss st ≡ o → and_then v o ≡ Some now
        → ((now : List Bool) → evaluated ss st ≡ Some now → length now ≡ length ss) → length now ≡ suc (length ss)
    go None o p q next = absurd (let z : ◌≡◌ {A = ℕ} 0 1 = cc in omega arith)
    go (Some v) None p q next = absurd (let z : ◌≡◌ {A = ℕ} 0 1 = cc in omega arith)
    go (Some v) (Some vs) p q next = let r : now ≡ v ∷ vs = cc in rw r (ap suc (next vs p))

-- the arrays may be longer than the statements are many
pub all_acted : (ss : List Statement) (u : ℕ) (was now : List Bool) (i : ℕ) (l : Logging) → i + length ss ≤ length was
    → i + length ss ≤ length now
    → act_risen ss u was now i l ≡ actions ss u (zip_with (λ v was. v && not was) (drop i now) (drop i was)) l
unfolding act_risen actions zip_with
all_acted [] u was now i l hw hn = refl
all_acted (s ∷ ss) u was now i l hw hn =
    rw (drop-cons was i false (omega arith), drop-cons now i false (omega arith))
    (all_acted ss u was now (i + 1) _ (omega arith) (omega arith) ∙ rw add-one refl)

pub acts_only : (ss : List Statement) (u : ℕ) (now more was : List Bool) (l : Logging) → length now ≡ length ss
    → actions ss u (zip_with (λ v was. v && not was) (now ++ more) was) l ≡ actions ss u (zip_with (λ v was. v && not was) now was) l
unfolding actions zip_with
acts_only [] u now more was l h = go (zip_with (λ v was. v && not was) (now ++ more) was) (zip_with (λ v was. v && not was) now was)
  where
    go : (x y : List Bool) → actions [] u x l ≡ actions [] u y l
    go x y = refl
acts_only (s ∷ ss) u [] more was l h = absurd (omega arith)
acts_only (s ∷ ss) u (v ∷ now) more [] l h = refl
acts_only (s ∷ ss) u (v ∷ now) more (w ∷ was) l h = acts_only ss u now more was _ (omega arith)

-- states behind the last trigger are false, as they are where nothing stands
padded : (st : List Bool) (n i : ℕ) → get_or (st ++ replicate n false) i false ≡ get_or st i false
padded [] zero i = refl
padded [] (suc n) zero = refl
padded [] (suc n) (suc i) = padded [] n i ∙ refl
padded (s ∷ st) n zero = refl
padded (s ∷ st) n (suc i) = padded st n i

pub evaluated_padded : (ss : List plans.PlanStatement) (st : List Bool) (n : ℕ)
    → evaluated (map statement_of ss) (st ++ replicate n false) ≡ evaluated (map statement_of ss) st
unfolding evaluated
evaluated_padded [] st n = refl
evaluated_padded (s ∷ ss) st n = rw (value_ext (st ++ replicate n false) st (λ i h. padded st n i) s.code, evaluated_padded ss st n)
