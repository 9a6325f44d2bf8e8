-- Kinds of bytes that paper 01 names in "Shape of the file" and "Expressions".
use Prim.Native.String.{String}
use Prim.Native.Char.{code}
use Rattle.std.specs.Prelude.{ℕ, Bool, false, not, ◌&&◌, ◌||◌, leb, eqb}

-- is the byte one of the quoted ones
abbrev pub among : String → ℕ → Bool
among String.[] b = false
among (String.◌∷◌ c String.[]) b = eqb b (code c)
among (String.◌∷◌ c (String.◌∷◌ d s)) b = eqb b (code c) || among (String.◌∷◌ d s) b

-- is the byte from the first quoted one to the second
abbrev pub between : String → ℕ → Bool
between String.[] b = false
between (String.◌∷◌ c String.[]) b = false
between (String.◌∷◌ c (String.◌∷◌ d s)) b = leb (code c) b && leb b (code d)

-- "Blank: space, tab, CR, LF."
unfoldable pub is_blank : ℕ → Bool
is_blank b = among " \t\r\n" b

-- "a letter or `_`"
unfoldable pub is_start : ℕ → Bool
is_start b = between "az" b || between "AZ" b || among "_" b

unfoldable pub is_digit : ℕ → Bool
is_digit b = between "09" b

-- "letters, digits, `_`"
unfoldable pub is_name : ℕ → Bool
is_name b = is_start b || is_digit b

-- "bytes 0x20 to 0x7E or blanks, without `?`"
unfoldable pub is_decl : ℕ → Bool
is_decl b = not (among "?" b) && (between " ~" b || is_blank b)

-- "bytes 0x20 to 0x7E without `<`, `&`, `"`"
unfoldable pub is_value : ℕ → Bool
is_value b = not (among "<&\"" b) && between " ~" b

-- "Bytes below 0x20 other than blanks never occur"
unfoldable pub is_any : ℕ → Bool
is_any b = (leb 0x20 b && leb b 0xFF) || is_blank b

-- "Text: no `<` or `&`."
unfoldable pub is_text : ℕ → Bool
is_text b = not (among "<&" b) && is_any b
