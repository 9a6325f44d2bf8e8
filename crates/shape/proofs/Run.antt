-- Laws of `run_from` over offsets of one text.
use Prim.Native.Nat.{ℕ, ◌+◌, ◌≤◌, ◌<◌}
use mathlib.Core.Path.{◌≡◌, refl, sym, ap, ◌∙◌}
use mathlib.Core.List.{List, ◌∷◌}
use mathlib.Core.Bool.{Bool, true}
use lib.ListN.{length, get_or, drop, drop_of_length-le}
use Rattle.text.specs.SpansCode.{span_at}
use Rattle.lists.proofs.Cases.{le_or_lt}
use Rattle.text.proofs.Spans.{drop_one, keeps_of}
use Rattle.shape.specs.MachineCode.{State, live, dead, bad, step_byte, end, run_from, at}

pub run_live : (q : State) {q' : State} (b : ℕ) (s : List ℕ) (i : ℕ) → step_byte q b ≡ live q' → run_from q (b ∷ s) i ≡ run_from q' s (i + 1)
unfolding run_from
run_live q b s i e = rw (e, run_from)

pub run_dead : (q : State) (b : ℕ) (s : List ℕ) (i : ℕ) → step_byte q b ≡ dead → run_from q (b ∷ s) i ≡ bad i
unfolding run_from
run_dead q b s i e = rw (e, run_from)

pub at_step : (q : State) {q' : State} (s : List ℕ) (i : ℕ) → i < length s → step_byte q (get_or s i 0) ≡ live q' → at q s i ≡ at q' s (i + 1)
at_step q s i h e = ap (λ (l : List ℕ). run_from q l i) (drop_one s i h) ∙ run_live q (get_or s i 0) (drop (i + 1) s) i e

pub at_dead : (q : State) (s : List ℕ) (i : ℕ) → i < length s → step_byte q (get_or s i 0) ≡ dead → at q s i ≡ bad i
at_dead q s i h e = ap (λ (l : List ℕ). run_from q l i) (drop_one s i h) ∙ run_dead q (get_or s i 0) (drop (i + 1) s) i e

pub at_end : (q : State) (s : List ℕ) (i : ℕ) → length s ≤ i → at q s i ≡ end q i
unfolding run_from
at_end q s i h = ap (λ (l : List ℕ). run_from q l i) (drop_of_length-le s h)

-- a state that stays at each byte of the kind
pub run_of : (p : ℕ → Bool) (s : List ℕ) (i j : ℕ) → j ≡ span_at p (drop i s) i → (q : State)
    → ((b : ℕ) → p b ≡ true → step_byte q b ≡ live q) → at q s i ≡ at q s j
run_of p s i j e q g = keeps_of p s i j e (at q s) (λ k h t. at_step q s k h (g (get_or s k 0) t))

-- two states that agree on the byte that comes
same_in : (q q' : State) (s : List ℕ) (i : ℕ) → i < length s → step_byte q (get_or s i 0) ≡ step_byte q' (get_or s i 0) → at q s i ≡ at q' s i
unfolding run_from
same_in q q' s i l g = ap (λ (k : List ℕ). run_from q k i) (drop_one s i l) ∙ rw (g, run_from) refl
    ∙ sym (ap (λ (k : List ℕ). run_from q' k i) (drop_one s i l))

pub at_same : (q q' : State) (s : List ℕ) (i : ℕ) → (i < length s → step_byte q (get_or s i 0) ≡ step_byte q' (get_or s i 0)) → end q i ≡ end q' i
    → at q s i ≡ at q' s i
at_same q q' s i g f = le_or_lt (length s) i (λ l. at_end q s i l ∙ f ∙ sym (at_end q' s i l)) (λ l. same_in q q' s i l (g l))
