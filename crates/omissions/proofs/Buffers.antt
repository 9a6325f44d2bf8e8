-- Places that are told one after the other at the front of what is lent, as many as there is room for.
use Prim.Native.Nat.{ℕ, zero, suc, ◌+◌, ◌≤◌}
use native.Mathlib.Omega.{arith}
use mathlib.Core.Path.{◌≡◌, refl, ap, subst}
use mathlib.Core.List.{List, [], ◌∷◌, ◌++◌, append_assoc, append-nil}
use lib.ListN.{length, set, length-append}
use lib.Seq.{take-nil}
use Rattle.omissions.specs.ToldCode.{laid, Told, Adds}

-- beyond the end nothing is set
pub set_past : (l : List ℕ) (n x : ℕ) → length l ≤ n → l ≡ set l n x
set_past [] n x h = refl
set_past (y ∷ l) zero x h = absurd (omega arith)
set_past (y ∷ l) (suc n) x h = ap (λ (m : List ℕ). y ∷ m) (set_past l n x (omega arith))

laid_more : (l d : List ℕ) (x : ℕ) → set (laid l d) (length l) x ≡ laid (l ++ (x ∷ [])) d
laid_more [] [] x = refl
laid_more [] (y ∷ d) x = rw (take-nil (length d))
laid_more (z ∷ l) [] x = refl
laid_more (z ∷ l) (y ∷ d) x = ap (λ (m : List ℕ). z ∷ m) (laid_more l d x)

pub told_none : (d : List ℕ) → Told [] d 0 d
told_none d = record { count = refl; places = rw (take-nil {A = ℕ} (length d)) refl }

pub told_one : (k c : List ℕ) (n : ℕ) (d : List ℕ) → Told k c n d → (i : ℕ) → Told (k ++ (i ∷ [])) c (n + 1) (set d n i)
told_one k c n d t i =
    record { count = omega (arith, length-append k (i ∷ []), t.count); places = rw (t.places, t.count) (laid_more k c i) }

-- nothing, one place, and one after the other
pub adds_none : (n : ℕ) (d : List ℕ) → Adds [] n d n d
adds_none n d = record { added = λ k c t. rw (append-nil k) t }

pub adds_one : (i n : ℕ) (d e : List ℕ) → e ≡ set d n i → Adds (i ∷ []) n d (n + 1) e
adds_one i n d e q = record { added = λ k c t. rw q (told_one k c n d t i) }

pub adds_then : (l m : List ℕ) (n : ℕ) (d : List ℕ) (r : ℕ) (e : List ℕ) (s : ℕ) (f : List ℕ) → Adds l n d r e → Adds m r e s f
    → Adds (l ++ m) n d s f
adds_then l m n d r e s f a b =
    record { added = λ k c t. subst (λ (u : List ℕ). Told u c s f) (append_assoc k l m) (b.added (k ++ l) c (a.added k c t)) }
