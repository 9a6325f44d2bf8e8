-- The loader's heights are the heights of the machine's stack; and words run as their instructions do.
use Prim.Native.Nat.{ℕ, ◌+◌, ◌-◌, ◌≤◌, ◌<◌}
use native.Mathlib.Omega.{arith}
use mathlib.Core.Path.{◌≡◌, refl, ap, fun_ext}
use mathlib.Core.Bool.{Bool, true, false, cond, ◌&&◌, ◌||◌}
use Rattle.std.specs.Prelude.{Option, None, Some, option_and_then, option_map}
use Rattle.std.proofs.lemmas.Option.{none-some}
use mathlib.Core.List.{List, [], ◌∷◌, map}
use lib.ListN.{length}
use lib.Dec.{leb, ltb}
use borrow.Author.Tests.{lt-ltb, le-leb, ltb-true}
use Rattle.code.specs.Code.{Op, push, both, either, invert, word_of, op_of, top_two, step_op, step_word, run_words, KnownTriggers}
use Rattle.code.specs.HeightsCode.{run_ops, rise_op, rise, height}
use Rattle.code.proofs.Words.{op_push, push_word}

-- the height of the stack, if there is one
abbrev pub length_of : Option (List Bool) → Option ℕ
length_of = option_map length

-- what an instruction pushes is one of t triggers
unfoldable pub Below : ℕ → Op → Type 0
Below t (push i) = i < t
Below t both = Unit {0}
Below t either = Unit {0}
Below t invert = Unit {0}

unfoldable pub Pushes : ℕ → List Op → Type 0
Pushes t [] = Unit {0}
Pushes t (o ∷ c) = Below t o × Pushes t c

-- one instruction
rise_joined : (f : Bool → Bool → Bool) (st : List Bool) → cond (leb 2 (length st)) (Some (length st - 1)) None ≡ length_of (top_two f st)
rise_joined f [] = refl
rise_joined f (b ∷ []) = refl
rise_joined f (b ∷ (a ∷ st)) = rw (le-leb 2 (length (b ∷ (a ∷ st))) (omega arith)) (ap Some (omega arith))

rise_step : (room t : ℕ) (v : ℕ → Bool) (o : Op) (st : List Bool) → Below t o → rise_op room t o (length st) ≡ length_of (step_op room v o st)
unfolding rise_op step_op Below
rise_step room t v (push i) st p = rw (lt-ltb i t p) (go (ltb (length st) room))
  where
    go : (b : Bool) → cond b (Some (length st + 1)) None ≡ length_of (cond b (Some (v i ∷ st)) None)
    go true = ap Some (omega arith)
    go false = refl
rise_step room t v both st p = rise_joined ◌&&◌ st
rise_step room t v either st p = rise_joined ◌||◌ st
rise_step room t v invert [] p = refl
rise_step room t v invert (a ∷ st) p = rw (le-leb 1 (length (a ∷ st)) (omega arith))

-- one word
word_below : (t w : ℕ) (o : Op) → (w < 32 → w < t) → op_of w ≡ Some o → Below t o
unfolding Below
word_below t w (push i) k e = let q = push_word w i e in omega (arith, k q.1)
word_below t w both k e = tt
word_below t w either k e = tt
word_below t w invert k e = tt

rise_word : (room t : ℕ) (v : ℕ → Bool) (w : ℕ) (st : List Bool) → (w < 32 → w < t)
    → rise room t w (length st) ≡ length_of (step_word room v w st)
unfolding rise step_word
rise_word room t v w st k = go (op_of w) refl
  where
    go : (x : Option Op) → op_of w ≡ x
        → option_and_then (λ o. rise_op room t o (length st)) x ≡ length_of (option_and_then (λ o. step_op room v o st) x)
    go None e = refl
    go (Some o) e = rise_step room t v o st (word_below t w o k e)

-- all words: where each pushed trigger is known, the loader's height is that of the stack, whatever the states
pub height_words : (room t : ℕ) (v : ℕ → Bool) (c : List ℕ) (st : List Bool) → KnownTriggers t c
    → height room t c (length st) ≡ length_of (run_words room v c st)
unfolding height run_words KnownTriggers
height_words room t v [] st k = refl
height_words room t v (w ∷ c) st k =
    go (rise room t w (length st)) (step_word room v w st) (rise_word room t v w st k.0) (λ u. height_words room t v c u k.1)
  where
    go : (x : Option ℕ) (y : Option (List Bool)) → x ≡ length_of y
        → ((u : List Bool) → height room t c (length u) ≡ length_of (run_words room v c u))
        → option_and_then (height room t c) x ≡ length_of (option_and_then (run_words room v c) y)
    go x None e ih = rw e
    go x (Some u) e ih = rw e (ih u)

-- where the loader finds a height, each pushed trigger is known
rise_known : (room t w h k : ℕ) → rise room t w h ≡ Some k → w < 32 → w < t
unfolding rise rise_op
rise_known room t w h k e p = go (ltb w t) refl (rw (op_push w p) at e)
  where
    go : (b : Bool) → ltb w t ≡ b → cond (b && ltb h room) (Some (h + 1)) None ≡ Some k → w < t
    go true q e = ltb-true w t q
    go false q e = absurd (none-some k e)

pub height_known : (room t : ℕ) (c : List ℕ) (h k : ℕ) → height room t c h ≡ Some k → KnownTriggers t c
unfolding height KnownTriggers
height_known room t [] h k e = tt
height_known room t (w ∷ c) h k e = go (rise room t w h) refl e (λ j. height_known room t c j k)
  where
    go : (x : Option ℕ) → rise room t w h ≡ x → option_and_then (height room t c) x ≡ Some k
        → ((j : ℕ) → height room t c j ≡ Some k → KnownTriggers t c)
        → (w < 32 → w < t) × KnownTriggers t c
    go None q e ih = absurd (none-some k e)
    go (Some j) q e ih = (rise_known room t w h j q, ih j e)

-- instructions: their words push the same triggers, and run as they do
pub pushes_known : (t : ℕ) (c : List Op) → Pushes t c → KnownTriggers t (map word_of c)
unfolding Pushes Below KnownTriggers word_of
pushes_known t [] p = tt
pushes_known t (push i ∷ c) p = (λ q. p.0, pushes_known t c p.1)
pushes_known t (both ∷ c) p = (λ q. absurd (omega arith), pushes_known t c p.1)
pushes_known t (either ∷ c) p = (λ q. absurd (omega arith), pushes_known t c p.1)
pushes_known t (invert ∷ c) p = (λ q. absurd (omega arith), pushes_known t c p.1)

op_word : (t : ℕ) (o : Op) → t ≤ 32 → Below t o → op_of (word_of o) ≡ Some o
unfolding Below op_of word_of
op_word t (push i) h p = op_push i (omega arith)
op_word t both h p = refl
op_word t either h p = refl
op_word t invert h p = refl

pub words_run : (room t : ℕ) (v : ℕ → Bool) → t ≤ 32 → (c : List Op) (st : List Bool) → Pushes t c
    → run_words room v (map word_of c) st ≡ run_ops room v c st
unfolding run_words run_ops step_word Pushes
words_run room t v h [] st p = refl
words_run room t v h (o ∷ c) st p =
    rw (op_word t o h p.0) (ap (λ (f : List Bool → Option (List Bool)). option_and_then f (step_op room v o st)) (fun_ext (λ u. words_run room t v h c u p.1)))
