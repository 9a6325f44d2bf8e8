-- Numbers as they are read, digit by digit. Nothing here has to be believed: the theorem `number_exactly` (proofs/Exact.antt), which demand
-- 2 cites, says that a text is read as v exactly if it is the number v.
use Rattle.std.specs.Prelude.{Option, Some, None, ℕ, ◌+◌, ◌*◌, List, [], ◌∷◌, true, false, ◌&&◌, cond, leb, ltb, length, drop, take}
use Rattle.text.specs.Texts.{bytes, same}
use Rattle.values.specs.Numbers.{digit}

-- the number that the digits s end, after digits that come to v; "Nothing else": every byte is a digit of the base
unfoldable pub digits_from : ℕ → ℕ → List ℕ → Option ℕ
digits_from base v [] = Some v
digits_from base v (b ∷ s) = elim (ltb (digit b) base) [ true ↦ digits_from base (v * base + digit b) s | false ↦ None ]

-- 1 to n digits
unfoldable pub digits : ℕ → ℕ → List ℕ → Option ℕ
digits base n s = cond (leb 1 (length s) && leb (length s) n) (digits_from base 0 s) None

-- "Number: 1 to 10 decimal digits, or `0x` and 1 to 8 hex digits of either case. Nothing else, no sign, no blank."
unfoldable pub number_spelt : List ℕ → Option ℕ
number_spelt s = cond (same (take 2 s) (bytes "0x")) (digits 16 8 (drop 2 s)) (digits 10 10 s)
