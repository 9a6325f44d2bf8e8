-- A mask's bit, and the turns of the loop over filters.
use Prim.Native.Nat.{ℕ, ◌/◌, ◌%◌, ◌^◌, ◌≤◌, ◌<◌}
use mathlib.Core.Path.{◌≡◌, sym}
use mathlib.Core.List.{List, ◌∷◌}
use mathlib.Core.Bool.{Bool, true, false, ◌||◌}
use native.Mathlib.Omega.{arith}
use native.Mathlib.Nat.{div-eq_of_lt, pow-le-pow_right}
use lib.ListN.{get_or}
use lib.Dec.{eqb}
use Rattle.records.specs.RecordsCode.{filter_at}
use Rattle.records.specs.declared.Effect.TheVariants.{Pass, Stop}
use Rattle.records.specs.declared.Filter.{Filter}
use Rattle.event_rules.specs.declared.Frame.{Frame}
use Rattle.event_rules.specs.Rules.{MessageFilter, matches}
use Rattle.event_rules.specs.Calls.{filter_rule}
use Rattle.engine.proofs.Hits.{passes_from}

-- a mask has 32 bits
pub no_bit : (mask n : ℕ) → mask < 4294967296 → 32 ≤ n → false ≡ eqb (mask / 2 ^ n % 2) 1
no_bit mask n h l =
    let p : 2 ^ 32 ≤ 2 ^ n = pow-le-pow_right (omega arith) l in
    let z : mask / 2 ^ n ≡ 0 = div-eq_of_lt (omega arith) in
    rw z

-- ---- the next filter's words are `rest`, behind it come `xs`, and `s`, `b` are the flags before it
module _ (f : Frame) (rest : List ℕ) (xs : List MessageFilter) (s b : Bool) (mask : ℕ) (em : mask ≡ get_or rest 1 0) (on : Bool)
    (eo : on ≡ eqb (mask / 2 ^ f.channel % 2) 1) where
  on_is : (filter_rule (filter_at rest)).on f.channel ≡ on
  unfolding filter_at
  on_is = sym (rw em at eo)

  pub off_turn : on ≡ false → (stopped barred : Bool) → stopped ≡ s → barred ≡ b
      → passes_from stopped barred f xs ≡ passes_from s b f (filter_rule (filter_at rest) ∷ xs)
  unfolding passes_from
  off_turn e stopped barred es eb = rw (on_is, e, es, eb)

  module _ (e : on ≡ true) (x : Filter) (ex : x ≡ filter_at rest) (like : Bool) (el : like ≡ matches f (filter_rule x)) where
    pub pass_match : x.effect ≡ Pass → like ≡ true → true ≡ passes_from s b f (filter_rule (filter_at rest) ∷ xs)
    unfolding passes_from
    pass_match p l = rw (on_is, e, ← ex, ← el, l, p)

    pub pass_turn : x.effect ≡ Pass → like ≡ false → (stopped barred : Bool) → stopped ≡ s → barred ≡ true
        → passes_from stopped barred f xs ≡ passes_from s b f (filter_rule (filter_at rest) ∷ xs)
    unfolding passes_from
    pass_turn p l stopped barred es eb = rw (on_is, e, ← ex, ← el, l, p, es, eb)

    pub stop_turn : x.effect ≡ Stop → (stopped barred : Bool) → stopped ≡ (s || like) → barred ≡ b
        → passes_from stopped barred f xs ≡ passes_from s b f (filter_rule (filter_at rest) ∷ xs)
    unfolding passes_from
    stop_turn p stopped barred es eb = rw (on_is, e, ← ex, ← el, p, es, eb)
