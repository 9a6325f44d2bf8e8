-- A byte machine: what may stand next, given what was read. A proof device, which need not be believed: the contracts of the functions that
-- `read_shape` calls and the proofs use it; proofs/Complete.antt and proofs/Sound.antt show that it takes exactly the texts of Shape.antt.
use Rattle.std.specs.Prelude.{ℕ, ◌+◌, List, [], ◌∷◌, ◌++◌, Bool, true, false, ◌&&◌, ltb, eqb, length, drop, Result, Ok, Err}
use Rattle.shape.specs.declared.Stop.{Stop}
use Rattle.text.specs.Kinds.{among, is_blank, is_start, is_name, is_value, is_any, is_text, is_decl}

-- where markup stands: before the root, in an element (its name, and the names around it, innermost first), behind the root
pub data Zone : Type 0 where
  before : Zone
  inside : List ℕ → List (List ℕ) → Zone
  after : Zone

-- the zone behind an element that these names are around
abbrev pub zone_of : List (List ℕ) → Zone
zone_of [] = after
zone_of (n ∷ k) = inside n k

-- the names around an element that starts in the zone
abbrev pub names : Zone → List (List ℕ)
names before = []
names (inside n k) = n ∷ k
names after = []

-- may an element start here: one root, at most 8 deep
abbrev pub opens : Zone → Bool
opens before = true
opens (inside n k) = ltb (length k) 7
opens after = false

-- may the byte stand here outside markup
abbrev pub stays : Zone → ℕ → Bool
stays before b = is_blank b
stays (inside n k) b = is_text b
stays after b = is_blank b

-- `<?`, `<?x`, `<?xm`, `<?xml ..`, `<?xml ..?`
pub data DeclPart : Type 0 where
  mark mark_x mark_xm declared closing : DeclPart

-- the name; blanks behind a name or a value; an attribute's name; blanks behind it; behind `=`; a value; behind a value
pub data TagState : Type 0 where
  name gap attr attr_gap equal value valued : TagState

-- `<!`, `<!-`, `<!-- ..`, `<!-- ..-`, `<!-- ..--`
pub data ComPart : Type 0 where
  bang dash text text_dash text_end : ComPart

pub data State : Type 0 where
  start start_lt : State
  decl : DeclPart → State
  idle lt : Zone → State
  tag : TagState → List (List ℕ) → List ℕ → State
  slash : List (List ℕ) → State
  close : List (List ℕ) → List ℕ → State
  close_gap : List (List ℕ) → State
  comment : ComPart → Zone → State

pub data Next : Type 0 where
  live : State → Next
  dead : Next

abbrev pub pick : Bool → Next → Next → Next
pick true a b = a
pick false a b = b

abbrev pub step_idle : Zone → ℕ → Next
step_idle z b = pick (stays z b) (live (idle z)) (pick (among "<" b) (live (lt z)) dead)

abbrev pub step_close : Zone → ℕ → Next
step_close before b = dead
step_close (inside n k) b = pick (among "/" b) (live (close k n)) dead
step_close after b = dead

abbrev pub step_lt : Zone → ℕ → Next
step_lt z b = pick (among "!" b) (live (comment bang z)) (pick (is_start b && opens z) (live (tag name (names z) (b ∷ []))) (step_close z b))

-- `/` or `>` of a start tag
abbrev pub step_end : List (List ℕ) → List ℕ → ℕ → Next
step_end k n b = pick (among "/" b) (live (slash k)) (pick (among ">" b) (live (idle (inside n k))) dead)

abbrev pub step_tag : TagState → List (List ℕ) → List ℕ → ℕ → Next
step_tag name k n b = pick (is_name b) (live (tag name k (n ++ (b ∷ [])))) (pick (is_blank b) (live (tag gap k n)) (step_end k n b))
step_tag gap k n b = pick (is_blank b) (live (tag gap k n)) (pick (is_start b) (live (tag attr k n)) (step_end k n b))
step_tag attr k n b =
    pick (is_name b) (live (tag attr k n)) (pick (is_blank b) (live (tag attr_gap k n)) (pick (among "=" b) (live (tag equal k n)) dead))
step_tag attr_gap k n b = pick (is_blank b) (live (tag attr_gap k n)) (pick (among "=" b) (live (tag equal k n)) dead)
step_tag equal k n b = pick (is_blank b) (live (tag equal k n)) (pick (among "\"" b) (live (tag value k n)) dead)
step_tag value k n b = pick (is_value b) (live (tag value k n)) (pick (among "\"" b) (live (tag valued k n)) dead)
step_tag valued k n b = pick (is_blank b) (live (tag gap k n)) (step_end k n b)

abbrev pub step_decl : DeclPart → ℕ → Next
step_decl mark b = pick (among "x" b) (live (decl mark_x)) dead
step_decl mark_x b = pick (among "m" b) (live (decl mark_xm)) dead
step_decl mark_xm b = pick (among "l" b) (live (decl declared)) dead
step_decl declared b = pick (is_decl b) (live (decl declared)) (pick (among "?" b) (live (decl closing)) dead)
step_decl closing b = pick (among ">" b) (live (idle before)) dead

abbrev pub step_com : ComPart → Zone → ℕ → Next
step_com bang z b = pick (among "-" b) (live (comment dash z)) dead
step_com dash z b = pick (among "-" b) (live (comment text z)) dead
step_com text z b = pick (among "-" b) (live (comment text_dash z)) (pick (is_any b) (live (comment text z)) dead)
step_com text_dash z b = pick (among "-" b) (live (comment text_end z)) (pick (is_any b) (live (comment text z)) dead)
step_com text_end z b = pick (among ">" b) (live (idle z)) dead

-- blanks behind an end tag's name, and its `>`
abbrev pub step_gap : List (List ℕ) → ℕ → Next
step_gap k b = pick (is_blank b) (live (close_gap k)) (pick (among ">" b) (live (idle (zone_of k))) dead)

abbrev pub step_byte : State → ℕ → Next
step_byte start b = pick (among "<" b) (live start_lt) (step_idle before b)
step_byte start_lt b = pick (among "?" b) (live (decl mark)) (step_lt before b)
step_byte (decl p) b = step_decl p b
step_byte (idle z) b = step_idle z b
step_byte (lt z) b = step_lt z b
step_byte (tag p k n) b = step_tag p k n b
step_byte (slash k) b = pick (among ">" b) (live (idle (zone_of k))) dead
step_byte (close k []) b = step_gap k b
step_byte (close k (a ∷ m)) b = pick (eqb b a) (live (close k m)) dead
step_byte (close_gap k) b = step_gap k b
step_byte (comment p z) b = step_com p z b

-- the file is whole, or how many of its bytes some well-shaped text starts with
pub data Out : Type 0 where
  whole : Out
  bad : ℕ → Out

abbrev pub end_zone : Zone → ℕ → Out
end_zone before i = bad i
end_zone (inside n k) i = bad i
end_zone after i = whole

abbrev pub end : State → ℕ → Out
end start i = bad i
end start_lt i = bad i
end (decl p) i = bad i
end (idle z) i = end_zone z i
end (lt z) i = bad i
end (tag p k n) i = bad i
end (slash k) i = bad i
end (close k m) i = bad i
end (close_gap k) i = bad i
end (comment p z) i = bad i

-- what comes of the rest s of a file, read from state q at offset i
unfoldable pub run_from : State → List ℕ → ℕ → Out
run_from q [] i = end q i
run_from q (b ∷ s) i = elim (step_byte q b) [ live q' ↦ run_from q' s (i + 1) | dead ↦ bad i ]

-- the same, of the whole text s read so far to offset i
abbrev pub at : State → List ℕ → ℕ → Out
at q s i = run_from q (drop i s) i

-- where a reader came to, or how many bytes can stand
abbrev pub Step : Type 0
Step = Result ℕ Stop

-- what comes of s where a reader came to offset j in state q, or found that only the first e.0 bytes can stand
abbrev pub goes : State → List ℕ → Step → Out
goes q s (Ok j) = at q s j
goes q s (Err e) = bad e.0
