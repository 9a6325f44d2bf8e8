-- Paper 01, "Checks by hand": what the program `plan` prints. The program `convert` prints the plan's words in the same way, one to a line.
use Prim.Native.String.{String}
use Rattle.std.specs.Prelude.{ℕ, zero, suc, ◌+◌, ◌/◌, ◌%◌, min, List, [], ◌∷◌, ◌++◌, cond, ltb, length, get_or, take, drop}
use Rattle.text.specs.Texts.{bytes}
use Rattle.std.specs.Prelude.{Ok, Err}
use Rattle.converter.specs.Converter.{Converts, Converted}
use Rattle.printing.specs.declared.Form.{Form}
use Rattle.printing.specs.declared.Form.TheVariants as forms

-- the decimal digits of n, where it has at most k; no 0 in front
unfoldable pub digits_of : ℕ → ℕ → List ℕ
digits_of zero n = []
digits_of (suc k) n = cond (ltb n 10) ((48 + n) ∷ []) (digits_of k (n / 10) ++ ((48 + n % 10) ∷ []))

-- a number of 64 bits has at most 20
unfoldable pub decimal : ℕ → List ℕ
decimal n = digits_of 20 n

-- "one to a line"
unfoldable pub text_line : String → ℕ → List ℕ
text_line name n = bytes name ++ (decimal n ++ bytes "\n")

-- "`refused=2`, `place=0`"
unfoldable pub refusal_text : ℕ → ℕ → List ℕ
refusal_text n p = text_line "refused=" n ++ text_line "place=" p

-- "the plan's second to sixth word and its length"
unfoldable pub plan_text : Converted → List ℕ → List ℕ
plan_text (Ok n) ws =
    text_line "channels=" (get_or ws 1 0)
    ++ (text_line "log_all=" (get_or ws 2 0) ++ (text_line "triggers=" (get_or ws 3 0)
    ++ (text_line "filters=" (get_or ws 4 0) ++ (text_line "statements=" (get_or ws 5 0) ++ text_line "words=" n))))
plan_text (Err r) ws = refusal_text r.number r.place

-- each word's line, in order
unfoldable pub word_lines : List ℕ → List ℕ
word_lines [] = []
word_lines (w ∷ ws) = text_line "" w ++ word_lines ws

unfoldable pub words_text : Converted → List ℕ → List ℕ
words_text (Ok n) ws = word_lines (take n ws)
words_text (Err r) ws = refusal_text r.number r.place

-- the program `plan`, the program `convert`
unfoldable pub form_text : Form → Converted → List ℕ → List ℕ
form_text forms.Plan = plan_text
form_text forms.Words = words_text

-- as much of a text as there is room for, and behind it what was there
unfoldable pub printed_over : List ℕ → List ℕ → List ℕ
printed_over t d = take (length d) t ++ drop (length t) d

-- The file s is converted into the words d. What `say` makes of the answer and of the words then stands in the text t, and the number
-- answered is how many bytes of it.
pub data Prints (say : Converted → List ℕ → List ℕ) (s d t : List ℕ) : ℕ → List ℕ → List ℕ → Type 0 where
  prints :
      (a : Converted) (e : List ℕ)
      → Converts s d a e
      → Prints say s d t (min (length (say a e)) (length t)) e (printed_over (say a e) t)
