-- Paper 01, "Values": timeouts, words and trigger names, and what a value is worth where its attribute asks for one of them. `number_spelt`
-- gives the number that a text is (Numbers.antt), and None where it is none.
use Rattle.std.specs.Prelude.{Option, Some, None, Result, Ok, Err, ℕ, List, Bool, not, ◌&&◌, cond, leb, length}
use Rattle.text.specs.Texts.{bytes, same}
use Rattle.text.specs.Kinds.{is_name}
use Rattle.values.specs.NumbersCode.{number_spelt}
use Rattle.values.specs.declared.Sort.{Sort}
use Rattle.values.specs.declared.Sort.TheVariants.{Numeric, Timeout, YesNo, Protocol, TriggerName, Unread, Flexible}
use Rattle.values.specs.declared.Unfit.{Unfit}
use Rattle.values.specs.declared.Unfit.TheVariants.{BadValue, NotCarried}
use Rattle.lists.specs.Lists.{all}

-- one of two words: 0 or 1
unfoldable pub either_word : List ℕ → List ℕ → List ℕ → Option ℕ
either_word nought one s = cond (same s nought) (Some 0) (cond (same s one) (Some 1) None)

-- the refusals of a value: 6 "bad value", 7 "known and not carried"
abbrev pub refusal_of : Unfit → ℕ
refusal_of u = elim u [ BadValue ↦ 6 | NotCarried ↦ 7 ]

-- a number from lo to hi, else a bad value; what is above `most` is known and not carried
abbrev pub ranged : ℕ → ℕ → ℕ → Option ℕ → Result ℕ Unfit
ranged lo hi most None = Err BadValue
ranged lo hi most (Some v) = cond (leb lo v && leb v hi) (cond (leb v most) (Ok v) (Err NotCarried)) (Err BadValue)

-- "Trigger names: 1 to 32 letters, digits or `_`, not AND, OR or NOT."
unfoldable pub trigger_name : List ℕ → Bool
trigger_name s = leb 1 (length s) && leb (length s) 32 && not (same s (bytes "AND")) && not (same s (bytes "OR"))
    && not (same s (bytes "NOT")) && all is_name s

-- what the value s is worth: a number for the plan, or its refusal
unfoldable pub worth_of : Sort → List ℕ → Result ℕ Unfit
worth_of (Numeric lo hi most) s = ranged lo hi most (number_spelt s)
-- "Only a timeout may also be `-1`": 4,294,967,295 in the plan
worth_of Timeout s = cond (same s (bytes "-1")) (Ok 4294967295) (ranged 0 1000000000 1000000000 (number_spelt s))
worth_of (YesNo most) s = ranged 0 1 most (either_word (bytes "NO") (bytes "YES") s)
worth_of Protocol s = ranged 0 1 0 (either_word (bytes "NONE") (bytes "J1939") s)
worth_of TriggerName s = cond (trigger_name s) (Ok 0) (Err BadValue)
worth_of Unread s = Ok 0
worth_of Flexible s = Err NotCarried
