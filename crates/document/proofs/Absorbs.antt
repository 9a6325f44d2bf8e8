-- The fold of known elements into an index.
use Prim.Native.Nat.{ℕ}
use mathlib.Core.Path.{◌≡◌, refl}
use mathlib.Core.List.{List, [], ◌∷◌, ◌++◌}
use mathlib.Core.Bool.{Bool, ◌||◌}
use Rattle.std.specs.Prelude.{Some, None, Ok, Err}
use Rattle.lists.proofs.Cases.{by_cases}
use Rattle.file_rules.specs.Element.{Known, Fault, own_faults}
use Rattle.file_rules.specs.RefusalCode.{refused_at}
use Rattle.file_rules.specs.declared.Refusal.{Refusal}
use Rattle.element.specs.ElementCode.{first_number}
use Rattle.element.proofs.Laws.{fault_place}
use Rattle.document.specs.EntriesCode.{Entry, entry_of}
use Rattle.document.specs.DocumentCode.{Index, entered, first_or, absorbed, absorb}
use Rattle.lists.specs.Lists.{any}

pub absorb_append : (ks ms : List Known) (x : Index) → absorb (ks ++ ms) x ≡ absorb ms (absorb ks x)
unfolding absorb
absorb_append [] ms x = refl
absorb_append (k ∷ ks) ms x = absorb_append ks ms (absorbed k x)

-- the first refusal stands
pub absorb_still : (ks : List Known) (q : Refusal) → absorb ks (Err q) ≡ Err q
unfolding absorb absorbed
absorb_still [] q = refl
absorb_still (k ∷ ks) q = absorb_still ks q

-- where there is none in the end, there was none
pub absorb_none : (ks : List Known) (x : Index) (es : List Entry) → absorb ks x ≡ Ok es → (ds : List Entry) × (x ≡ Ok ds)
absorb_none ks (Ok ds) es e = (ds, refl)
absorb_none ks (Err q) es e = cc (absorb_still ks q)

-- an element without a fault is entered
pub absorb_enter : (k : Known) (x : Index) (es : List Entry) → x ≡ Ok es → first_number (own_faults k) ≡ None
    → absorbed k x ≡ entered x (entry_of k)
unfolding absorbed entered first_number
absorb_enter k x es o h = rw o (by_first (own_faults k) h)
  where
    by_first : (l : List Fault) → first_number l ≡ None → first_or l (entered (Ok es) (entry_of k)) ≡ entered (Ok es) (entry_of k)
    by_first [] z = refl
    by_first (a ∷ l) z = cc

-- and one with a fault refuses
pub absorb_refuse : (k : Known) (x : Index) (es : List Entry) → x ≡ Ok es → (n : ℕ) → Some n ≡ first_number (own_faults k)
    → absorbed k x ≡ Err (refused_at n k.place)
unfolding absorbed first_number
absorb_refuse k x es o n h = rw o (by_first (own_faults k) refl h)
  where
    by_first : (l : List Fault) → own_faults k ≡ l → Some n ≡ first_number l
        → first_or l (entered (Ok es) (entry_of k)) ≡ Err (refused_at n k.place)
    by_first [] e z = cc
    by_first (a ∷ l) e z = let p = fault_place k a l e in let m : n ≡ a.number = cc in rw (p, m)

pub any_append : {X : Type 0} (p : X → Bool) (xs ys : List X) → any p (xs ++ ys) ≡ (any p xs || any p ys)
unfolding any
any_append p [] ys = refl
any_append p (x ∷ xs) ys = by_cases (p x) (λ t. rw t) (λ t. rw t (any_append p xs ys))
