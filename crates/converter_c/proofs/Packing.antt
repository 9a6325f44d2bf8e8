-- The number tells a refusal's number and place apart, and the plan's length from both; number and buffer are settled.
use Prim.Native.Nat.{ℕ, ◌+◌, ◌*◌, ◌/◌, ◌%◌, ◌≤◌, ◌<◌}
use native.Mathlib.Omega.{arith}
use mathlib.Core.Path.{◌≡◌, ap, subst}
use mathlib.Core.List.{List}
use Rattle.std.specs.Prelude.{Ok, Err}
use Rattle.file_rules.specs.RefusalCode.{refused_at}
use Rattle.converter.specs.Converter.{Converts, Converted}
use Rattle.converter.proofs.Once.{one_converted}
use Rattle.read_back.proofs.Places.{places, fits, words_fit}
use Rattle.converter_c.specs.Calls.{packed, Converting, converting}

module _ (s d : List ℕ) (a : Converted) (e : List ℕ) (h : Converts s d a e) where
  pub packed_words : (n : ℕ) → a ≡ Ok n → Converting s d n e
  packed_words n q = converting (Ok n) e (subst (λ (b : Converted). Converts s d b e) q h)

  pub packed_refused : (n p : ℕ) → a ≡ Err (refused_at n p) → Converting s d (n * 4294967296 + p) e
  packed_refused n p q = converting (Err (refused_at n p)) e (subst (λ (b : Converted). Converts s d b e) q h)

  pub place_fits : (n p : ℕ) → a ≡ Err (refused_at n p) → (n ≤ 13) × (p < 4294967296)
  place_fits n p q = fits s d n p e (subst (λ (b : Converted). Converts s d b e) q h)

-- ---- the contract settles the number and the buffer
pub one_converting : (s d : List ℕ) (r r' : ℕ) (e e' : List ℕ) → Converting s d r e → Converting s d r' e' → (r ≡ r') × (e ≡ e')
one_converting s d r r' e e' (converting a _ h) (converting b _ g) =
    let q = one_converted s d a b e e' h g in
    (ap packed q.0, q.1)

-- ---- the upper half is 0 or the refusal's number, the lower half the plan's length or the place
pub words_told : (s d : List ℕ) (n : ℕ) (e : List ℕ) → Converts s d (Ok n) e
    → (packed (Ok n) / 4294967296 ≡ 0) × (packed (Ok n) % 4294967296 ≡ n)
words_told s d n e h = let g = words_fit s d n e h in (omega (arith, g), omega (arith, g))

pub refused_told : (s d : List ℕ) (n p : ℕ) (e : List ℕ) → Converts s d (Err (refused_at n p)) e
    → (packed (Err (refused_at n p)) / 4294967296 ≡ n) × (packed (Err (refused_at n p)) % 4294967296 ≡ p)
refused_told s d n p e h = let g = (fits s d n p e h).1 in (omega (arith, g), omega (arith, g))

-- ---- so no two answers are packed alike, to whatever files and buffers they were given
abbrev Small : Converted → Type 0
Small (Ok n) = n < 4294967296
Small (Err r) = (1 ≤ r.number) × (r.place < 4294967296)

all_small : (s d : List ℕ) (a : Converted) (e : List ℕ) → Converts s d a e → Small a
all_small s d (Ok n) e h = words_fit s d n e h
all_small s d (Err r) e h = ((places s d r.number r.place e h).0, (fits s d r.number r.place e h).1)

packed_once : (a b : Converted) → Small a → Small b → packed a ≡ packed b → a ≡ b
packed_once (Ok n) (Ok m) h g e = ap Ok e
packed_once (Ok n) (Err r) h g e = absurd (omega (arith, h, g.0, e))
packed_once (Err r) (Ok n) h g e = absurd (omega (arith, g, h.0, e))
packed_once (Err r) (Err o) h g e =
    let t : r.number ≡ o.number = omega (arith, h.1, g.1, e) in
    let u : r.place ≡ o.place = omega (arith, h.1, g.1, e) in
    λ i. Err (refused_at (t i) (u i))

pub one_answer : (s s' d d' : List ℕ) (a b : Converted) (e e' : List ℕ) → Converts s d a e → Converts s' d' b e' → packed a ≡ packed b
    → a ≡ b
one_answer s s' d d' a b e e' h g q = packed_once a b (all_small s d a e h) (all_small s' d' b e' g) q
