-- The loader's rule is exact: it takes code where each pushed trigger is known and the machine runs it, on any states, from an empty stack
-- to one value, and no other.
use Prim.Native.Nat.{ℕ, ◌≤◌, ◌<◌}
use native.Mathlib.Omega.{arith}
use mathlib.Core.Path.{◌≡◌, refl, sym, ap, subst, fun_ext, ◌∙◌}
use mathlib.Core.Bool.{Bool, true, false, cond, ◌&&◌, ◌||◌, false≢true}
use mathlib.Core.Logic.{◌↔◌}
use Rattle.std.specs.Prelude.{Option, None, Some, option_and_then}
use Rattle.std.proofs.lemmas.Option.{none-some}
use mathlib.Core.List.{List, [], ◌∷◌, ◌++◌}
use lib.ListN.{length, get_or}
use lib.Dec.{ltb}
use borrow.Author.Tests.{ltb-true, eqb-true}
use Rattle.code.specs.Code.{Op, push, both, either, invert, op_of, limit, top_two, step_op, step_word, run_words, only_value, value_on, KnownTriggers, Runs}
use Rattle.code.specs.HeightsCode.{height, is_one, sound_code}
use Rattle.code.proofs.Words.{push_word}
use Rattle.code.proofs.Heights.{length_of, height_words, height_known}

-- a run of a front part, and of what follows it
run_append : (room : ℕ) (v : ℕ → Bool) (a b : List ℕ) (st : List Bool)
    → run_words room v (a ++ b) st ≡ option_and_then (run_words room v b) (run_words room v a st)
unfolding run_words
run_append room v [] b st = refl
run_append room v (w ∷ a) b st = go (step_word room v w st) (run_append room v a b)
  where
    go : (x : Option (List Bool))
        → ((u : List Bool) → run_words room v (a ++ b) u ≡ option_and_then (run_words room v b) (run_words room v a u))
        → option_and_then (run_words room v (a ++ b)) x ≡ option_and_then (run_words room v b) (option_and_then (run_words room v a) x)
    go None ih = refl
    go (Some u) ih = ih u

first_of : (x : Option (List Bool)) (f : List Bool → Option (List Bool)) (u : List Bool) → option_and_then f x ≡ Some u
    → (st : List Bool) × (x ≡ Some st)
first_of None f u e = absurd (none-some u e)
first_of (Some st) f u e = (st, refl)

-- no stack grows over its room
abbrev Within : ℕ → Option (List Bool) → Type 0
Within room None = Unit {0}
Within room (Some st) = length st ≤ room

within_joined : (room : ℕ) (f : Bool → Bool → Bool) (st : List Bool) → length st ≤ room → Within room (top_two f st)
within_joined room f [] h = tt
within_joined room f (b ∷ []) h = tt
within_joined room f (b ∷ (a ∷ st)) h = omega arith

within_step : (room : ℕ) (v : ℕ → Bool) (o : Op) (st : List Bool) → length st ≤ room → Within room (step_op room v o st)
unfolding step_op
within_step room v (push i) st h = go (ltb (length st) room) refl
  where
    go : (b : Bool) → ltb (length st) room ≡ b → Within room (cond b (Some (v i ∷ st)) None)
    go true e = omega (arith, ltb-true (length st) room e)
    go false e = tt
within_step room v both st h = within_joined room ◌&&◌ st h
within_step room v either st h = within_joined room ◌||◌ st h
within_step room v invert [] h = tt
within_step room v invert (a ∷ st) h = h

within_run : (room : ℕ) (v : ℕ → Bool) (c : List ℕ) (st : List Bool) → length st ≤ room → Within room (run_words room v c st)
unfolding run_words step_word
within_run room v [] st h = h
within_run room v (w ∷ c) st h = go (op_of w) (within_run room v c)
  where
    on : (x : Option (List Bool)) → Within room x → ((u : List Bool) → length u ≤ room → Within room (run_words room v c u))
        → Within room (option_and_then (run_words room v c) x)
    on None k ih = tt
    on (Some u) k ih = ih u k

    go : (x : Option Op) → ((u : List Bool) → length u ≤ room → Within room (run_words room v c u))
        → Within room (option_and_then (run_words room v c) (option_and_then (λ o. step_op room v o st) x))
    go None ih = tt
    go (Some o) ih = on (step_op room v o st) (within_step room v o st h) ih

-- code that leaves one value has run without a fault
runs : (v : ℕ → Bool) (c : List ℕ) (b : Bool) → run_words limit v c [] ≡ Some (b ∷ []) → Runs v c
runs v c b e = record { front = front; whole = (b, e) }
  where
    front : (a r : List ℕ) → c ≡ a ++ r → (st : List Bool) × (run_words limit v a [] ≡ Some st) × (length st ≤ limit)
    front a r q =
        let k =
        first_of (run_words limit v a []) (run_words limit v r) (b ∷ [])
        (sym (run_append limit v a r []) ∙ ap (λ l. run_words limit v l []) (sym q) ∙ e) in
        (k.0, k.1, subst (Within limit) k.1 (within_run limit v a [] (omega arith)))

one_only : (x : Option ℕ) → is_one x ≡ true → x ≡ Some 1
one_only None e = absurd (false≢true e)
one_only (Some h) e = ap Some (eqb-true h 1 e)

one_value : (x : Option (List Bool)) → length_of x ≡ Some 1 → (b : Bool) × (x ≡ Some (b ∷ []))
one_value None e = absurd (none-some 1 e)
one_value (Some []) e = absurd (let z : ◌≡◌ {A = ℕ} 0 1 = cc in omega arith)
one_value (Some (b ∷ [])) e = (b, refl)
one_value (Some (b ∷ (a ∷ st))) e = absurd (let z : length (b ∷ (a ∷ st)) ≡ 1 = cc in omega arith)

module _ (t : ℕ) (c : List ℕ) where
  sound_height : sound_code t c ≡ true → height limit t c 0 ≡ Some 1
  unfolding sound_code
  sound_height s = one_only (height limit t c 0) s

  -- each pushed trigger is known in code that the loader takes
  pub sound_known : sound_code t c ≡ true → KnownTriggers t c
  sound_known s = height_known limit t c 0 1 (sound_height s)

  -- code that the loader takes never pops from an empty stack, holds at most 24 and leaves one value, whatever the states
  pub sound_code_lem : sound_code t c ≡ true → (v : ℕ → Bool) → Runs v c
  sound_code_lem s v =
      let k = one_value (run_words limit v c []) (sym (height_words limit t v c [] (sound_known s)) ∙ sound_height s) in
      runs v c k.0 k.1

  -- so it has a value on all states
  pub value_of_sound : sound_code t c ≡ true → (states : List Bool) → (b : Bool) × (value_on states c ≡ Some b)
  unfolding value_on
  value_of_sound s states = let k = (sound_code_lem s (λ i. get_or states i false)).whole in (k.0, ap only_value k.1)

  -- the loader takes all such code: one run to one value is enough
  pub code_sound : KnownTriggers t c → (v : ℕ → Bool) (b : Bool) → run_words limit v c [] ≡ Some (b ∷ []) → sound_code t c ≡ true
  unfolding sound_code
  code_sound k v b e = ap is_one (height_words limit t v c [] k ∙ ap length_of e)

  -- both at once
  pub sound_exactly : (v : ℕ → Bool) → (sound_code t c ≡ true) ↔ (KnownTriggers t c × Runs v c)
  sound_exactly v = (λ s. (sound_known s, sound_code_lem s v), λ k. code_sound k.0 v k.1.whole.0 k.1.whole.1)

-- the states of triggers 0 to 31 are all that a run looks at
step_ext : (room : ℕ) (v v' : ℕ → Bool) → ((i : ℕ) → i < 32 → v i ≡ v' i) → (w : ℕ) (st : List Bool)
    → step_word room v w st ≡ step_word room v' w st
unfolding step_word step_op
step_ext room v v' h w st = go (op_of w) st refl
  where
    go : (x : Option Op) (st : List Bool) → op_of w ≡ x
        → option_and_then (λ o. step_op room v o st) x ≡ option_and_then (λ o. step_op room v' o st) x
    go None st e = refl
    go (Some (push i)) st e = let q = push_word w i e in rw (h i (omega arith))
    go (Some both) st e = refl
    go (Some either) st e = refl
    go (Some invert) [] e = refl
    go (Some invert) (a ∷ st) e = refl

run_ext : (room : ℕ) (v v' : ℕ → Bool) → ((i : ℕ) → i < 32 → v i ≡ v' i) → (c : List ℕ) (st : List Bool)
    → run_words room v c st ≡ run_words room v' c st
unfolding run_words
run_ext room v v' h [] st = refl
run_ext room v v' h (w ∷ c) st = rw (step_ext room v v' h w st) (ap (λ (f : List Bool → Option (List Bool)). option_and_then f (step_word room v' w st)) (fun_ext (run_ext room v v' h c)))

pub value_ext : (s s' : List Bool) → ((i : ℕ) → i < 32 → get_or s i false ≡ get_or s' i false) → (c : List ℕ) → value_on s c ≡ value_on s' c
unfolding value_on
value_ext s s' h c = ap only_value (run_ext limit (λ i. get_or s i false) (λ i. get_or s' i false) h c [])
