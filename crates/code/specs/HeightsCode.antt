-- The loader's rule on code by heights of the stack, since the loader knows no states. Nothing here has to be believed: the theorem
-- `sound_exactly` (proofs/Sound.antt), which demand 3 cites, says that `sound_code` is the rule in the paper's words.
use Rattle.std.specs.Prelude.{ℕ, ◌+◌, ◌-◌, Bool, false, cond, ◌&&◌, List, [], ◌∷◌, leb, ltb, eqb, Option, None, Some, option_and_then}
use Rattle.code.specs.Code.{Op, push, both, either, invert, op_of, limit, step_op}

unfoldable pub rise_op : ℕ → ℕ → Op → ℕ → Option ℕ
rise_op room triggers (push i) h = cond (ltb i triggers && ltb h room) (Some (h + 1)) None
rise_op room triggers both h = cond (leb 2 h) (Some (h - 1)) None
rise_op room triggers either h = cond (leb 2 h) (Some (h - 1)) None
rise_op room triggers invert h = cond (leb 1 h) (Some h) None

unfoldable pub rise : ℕ → ℕ → ℕ → ℕ → Option ℕ
rise room triggers w h = option_and_then (λ o. rise_op room triggers o h) (op_of w)

unfoldable pub height : ℕ → ℕ → List ℕ → ℕ → Option ℕ
height room triggers [] h = Some h
height room triggers (w ∷ c) h = option_and_then (height room triggers c) (rise room triggers w h)

abbrev pub is_one : Option ℕ → Bool
is_one None = false
is_one (Some h) = eqb h 1

unfoldable pub sound_code : ℕ → List ℕ → Bool
sound_code triggers c = is_one (height limit triggers c 0)

-- instructions in a row, as the stack machine takes them
unfoldable pub run_ops : ℕ → (ℕ → Bool) → List Op → List Bool → Option (List Bool)
run_ops room v [] st = Some st
run_ops room v (o ∷ c) st = option_and_then (run_ops room v c) (step_op room v o st)
