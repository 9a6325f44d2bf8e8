-- The machine of MachineCode.antt without offsets: where a text leads from a state.
use Prim.Native.Nat.{ℕ}
use mathlib.Core.Path.{◌≡◌, refl}
use mathlib.Core.List.{List, [], ◌∷◌}
use Rattle.shape.specs.MachineCode.{State, Next, live, dead, step_byte}

-- where s leads from q
unfoldable pub go : State → List ℕ → Next
go q [] = live q
go q (b ∷ s) = elim (step_byte q b) [ live q' ↦ go q' s | dead ↦ dead ]

pub go_end : (q : State) → go q [] ≡ live q
unfolding go
go_end q = refl

pub go_live : (q : State) {q' : State} (b : ℕ) (s : List ℕ) → step_byte q b ≡ live q' → go q (b ∷ s) ≡ go q' s
unfolding go
go_live q b s e = rw (e, go)

pub go_dead : (q : State) (b : ℕ) (s : List ℕ) → step_byte q b ≡ dead → go q (b ∷ s) ≡ dead
unfolding go
go_dead q b s e = rw (e, go)

pub go_same : (q q' : State) (b : ℕ) (s : List ℕ) → step_byte q b ≡ step_byte q' b → go q (b ∷ s) ≡ go q' (b ∷ s)
unfolding go
go_same q q' b s e = rw (e, go) refl
