-- Paper 01, "Values": "Number: 1 to 10 decimal digits, or `0x` and 1 to 8 hex digits of either case. Nothing else, no sign, no blank."
use Rattle.std.specs.Prelude.{ℕ, ◌+◌, ◌*◌, ◌-◌, ◌^◌, ◌≤◌, ◌≡◌, ◌⊎◌, List, [], ◌∷◌, ◌++◌, true, cond, ltb, length}
use Rattle.text.specs.Texts.{bytes}
use Rattle.text.specs.Kinds.{between}
use Rattle.lists.specs.Lists.{all}

-- the digit that a byte stands for, "of either case"; 16 where it stands for none
unfoldable pub digit : ℕ → ℕ
digit b = cond (between "09" b) (b - 48) (cond (between "AF" b) (b - 55) (cond (between "af" b) (b - 87) 16))

-- what digits of a base come to: the last are ones, those before it worth the base times as much
unfoldable pub positional : ℕ → List ℕ → ℕ
positional base [] = 0
positional base (b ∷ s) = digit b * base ^ length s + positional base s

-- 1 to n digits of the base, all of them, that spell v
abbrev pub SpeltBy : ℕ → ℕ → List ℕ → ℕ → Type 0
SpeltBy base n s v = (1 ≤ length s) × (length s ≤ n) × (all (λ b. ltb (digit b) base) s ≡ true) × (v ≡ positional base s)

-- "1 to 10 decimal digits, or `0x` and 1 to 8 hex digits of either case. Nothing else"
abbrev pub IsNumber : List ℕ → ℕ → Type 0
IsNumber s v = SpeltBy 10 10 s v ⊎ ((h : List ℕ) × (s ≡ bytes "0x" ++ h) × SpeltBy 16 8 h v)
