-- What the contracts of the functions that `read_shape` calls say, in terms of MachineCode.antt: the text read from state q at offset i
-- goes
-- on as from state q' where the reader came to. Proof devices, which need not be believed.
use Rattle.std.specs.Prelude.{ℕ, ◌+◌, ◌≤◌, ◌<◌, ◌≡◌, List, [], ◌∷◌, Bool, true, false, length, get_or, Result, Ok, Err, IfOk}
use Rattle.shape.specs.declared.Stop.{Stop}
use Rattle.shape.specs.declared.Tag.{Tag}
use Rattle.shape.specs.declared.Tag.TheVariants.{Open, Empty}
use Rattle.shape.specs.declared.Mark.{Mark}
use Rattle.shape.specs.declared.Mark.TheVariants.{Again, Close, Child}
use Rattle.shape.specs.declared.Outer.{Outer}
use Rattle.shape.specs.declared.Outer.TheVariants.{End, Lt}
use Rattle.shape.specs.Shape.{Shape}
use Rattle.shape.specs.declared.Unshaped.TheVariants.{Broken}
use Rattle.text.specs.Kinds.{among, is_blank, is_start}
use Rattle.shape.specs.MachineCode.{Step, TagState, tag, name, valued, lt, idle, close, inside, zone_of, State, live, dead, Out, whole, bad, Zone, before, after, step_byte, end, at, goes}

-- the reader went on, and not past the end
abbrev pub WentOn : List ℕ → ℕ → Step → Type 0
WentOn s i r = IfOk r (λ j. (i < j) × (j ≤ length s))

-- q and q' are states that a family X of surroundings (names, zones) gives
pub record Reads {X : Type 0} (q q' : X → State) (s : List ℕ) (i : ℕ) (r : Step) : Type 0 where
  pub run : (x : X) → at (q x) s i ≡ goes (q' x) s r
  pub past : WentOn s i r

-- at i the byte b must stand
pub record Expects (b : ℕ) (s : List ℕ) (i : ℕ) (r : Step) : Type 0 where
  pub run :
      (q q' : State)
      → step_byte q b ≡ live q'
      → (i < length s → (get_or s i 0 ≡ b → ⊥) → step_byte q (get_or s i 0) ≡ dead)
      → end q i ≡ bad i
      → at q s i ≡ goes q' s r
  pub past : WentOn s i r

-- what is around a start tag: the names of the elements that it stands in, and its own name
abbrev pub Around : Type 0
Around = List (List ℕ) × List ℕ

abbrev pub tagged : TagState → Around → State
tagged p x = tag p x.0 x.1

-- the reader stands where no attribute and no blank follows
abbrev pub Stands : List ℕ → ℕ → Step → Type 0
Stands s i r = IfOk r (λ j. (i ≤ j) × (j < length s → is_blank (get_or s j 0) ≡ false))

pub record ReadsAttributes (s : List ℕ) (i : ℕ) (r : Step) : Type 0 where
  pub run : (x : Around) → at (tagged valued x) s i ≡ goes (tagged valued x) s r
  pub stands : Stands s i r

-- where a start tag ends, or how many bytes can stand
abbrev pub TagStep : Type 0
TagStep = Result Tag Stop

abbrev pub goes_tag : Around → List ℕ → TagStep → Out
goes_tag x s (Ok (Open j)) = at (idle (inside x.1 x.0)) s j
goes_tag x s (Ok (Empty j)) = at (idle (zone_of x.0)) s j
goes_tag x s (Err e) = bad e.0

abbrev pub PastTag : List ℕ → ℕ → TagStep → Type 0
PastTag s i (Ok (Open j)) = (i < j) × (j ≤ length s)
PastTag s i (Ok (Empty j)) = (i < j) × (j ≤ length s)
PastTag s i (Err e) = Unit {0}

pub record TagEnd (s : List ℕ) (i : ℕ) (r : TagStep) : Type 0 where
  pub run : (i < length s → is_blank (get_or s i 0) ≡ false) → (x : Around) → at (tagged valued x) s i ≡ goes_tag x s r
  pub past : PastTag s i r

pub record TagRest (s : List ℕ) (i : ℕ) (r : TagStep) : Type 0 where
  pub run : (x : Around) → at (tagged valued x) s i ≡ goes_tag x s r
  pub past : PastTag s i r

-- the states of an end tag of which the bytes m of the name are to come, and behind the element
abbrev pub closing_tag : List ℕ → List (List ℕ) → State
closing_tag m k = close k m

abbrev pub behind : List (List ℕ) → State
behind k = idle (zone_of k)

abbrev pub From : ℕ → Step → Type 0
From i r = IfOk r (λ j. i ≤ j)

pub record SameName (n s : List ℕ) (i : ℕ) (r : Step) : Type 0 where
  pub run : (k : List (List ℕ)) → at (closing_tag n k) s i ≡ goes (closing_tag [] k) s r
  pub from : From i r

-- in an element, outside markup, and behind a `<`
abbrev pub in_text : Around → State
in_text x = idle (inside x.1 x.0)

abbrev pub in_lt : Around → State
in_lt x = lt (inside x.1 x.0)

-- what stands next, or how many bytes can stand
abbrev pub MarkStep : Type 0
MarkStep = Result Mark Stop

abbrev pub goes_mark : Around → List ℕ → MarkStep → Out
goes_mark x s (Ok (Again j)) = at (in_text x) s j
goes_mark x s (Ok (Close j)) = at (close x.0 x.1) s j
goes_mark x s (Ok (Child j)) = at (in_lt x) s j
goes_mark x s (Err e) = bad e.0

abbrev pub PastMark : List ℕ → ℕ → MarkStep → Type 0
PastMark s i (Ok (Again j)) = (i < j) × (j ≤ length s)
PastMark s i (Ok (Close j)) = (i < j) × (j ≤ length s)
PastMark s i (Ok (Child j)) = (i ≤ j) × (j < length s) × (is_start (get_or s j 0) ≡ true)
PastMark s i (Err e) = Unit {0}

pub record Marks (q : Around → State) (s : List ℕ) (i : ℕ) (r : MarkStep) : Type 0 where
  pub run : (x : Around) → at (q x) s i ≡ goes_mark x s r
  pub past : PastMark s i r

-- an element within the names k, of which `left` more may nest
pub record ReadsElement (s : List ℕ) (i left : ℕ) (r : Step) : Type 0 where
  pub run : (k : List (List ℕ)) → length k + left ≡ 7 → at (tag name k (get_or s i 0 ∷ [])) s (i + 1) ≡ goes (behind k) s r
  pub past : WentOn s i r

-- a single state, as a family
abbrev pub single : State → Unit {0} → State
single q u = q

-- before the root, and behind it
abbrev pub outer : Bool → Zone
outer true = before
outer false = after

-- what stands outside the root, or how many bytes can stand
abbrev pub OuterStep : Type 0
OuterStep = Result Outer Stop

abbrev pub goes_outer : Bool → List ℕ → OuterStep → Out
goes_outer b s (Ok (End j)) = at (idle (outer b)) s j
goes_outer b s (Ok (Lt j)) = at (lt (outer b)) s j
goes_outer b s (Err e) = bad e.0

abbrev pub FoundOuter : List ℕ → OuterStep → Type 0
FoundOuter s (Ok (End j)) = length s ≤ j
FoundOuter s (Ok (Lt j)) = j < length s → among "!" (get_or s j 0) ≡ false
FoundOuter s (Err e) = Unit {0}

pub record Outside (s : List ℕ) (i : ℕ) (r : OuterStep) : Type 0 where
  pub run : (b : Bool) → at (idle (outer b)) s i ≡ goes_outer b s r
  pub found : FoundOuter s r

-- what comes of a file that was read to its end, or of which so many bytes can stand
abbrev pub out_of : Result (Unit {0}) Stop → Out
out_of (Ok u) = whole
out_of (Err e) = bad e.0

-- the answer of the whole reader
abbrev pub as_shape : Out → Shape
as_shape whole = Ok tt
as_shape (bad p) = Err (Broken p)
