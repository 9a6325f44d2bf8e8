-- What the functions answer, for every input. Code-shaped; proofs/Laws.antt ties it to the definitions. Nothing here has to be believed.
use Rattle.std.specs.Prelude.{ℕ, zero, suc, ◌+◌, ◌≤◌, ◌≡◌, List, [], ◌∷◌, ◌++◌, map, Bool, false, not, cond, ◌&&◌, ◌||◌, leb, ltb, eqb, length, take, Option, Some, None, is_none, unwrap_or, Result, Ok, Err, is_ok}
use Rattle.std.proofs.Math.Option.{some}
use Rattle.std.proofs.Math.Seq.{slice}
use Rattle.shape.specs.Shape.{Shape, Node, WellShaped, Shaped, shape_refusal}
use Rattle.walk.specs.declared.Item.{Item}
use Rattle.walk.specs.declared.Body.{Body}
use Rattle.walk.specs.WalkCode as walk
use Rattle.walk.specs.StandsCode.{ElementAt}
use Rattle.schema.specs.declared.Times.{Times}
use Rattle.schema.specs.declared.Times.TheVariants.{Once, OneTo, UpTo}
use Rattle.schema.specs.Schema.{one_of, under}
use Rattle.schema.specs.SchemaCode.{kind_name, kind_under, is_carried, is_barred}
use Rattle.file_rules.specs.Element.{Known, Fault, own_faults}
use Rattle.element.specs.declared.Gathered.{Gathered}
use Rattle.element.specs.ElementCode.{rules_for, gathered_at, said_at, bad_text, verdict}
use Rattle.file_rules.specs.Document.{known_elements, element_faults}
use Rattle.file_rules.specs.RefusalCode.{refused_at, breach_at}
use Rattle.document.specs.EntriesCode.{Entry, row_from, entry_of, written, entry_most, entry_room, row_size, entries_in}
use Rattle.file_rules.specs.declared.Refusal.{Refusal}
use Rattle.file_rules.specs.declared.Breach.{Breach}
use Rattle.file_rules.specs.declared.Breach.TheVariants.{Rootless, Surplus, Uncarried, Lacking}
use Rattle.document.specs.declared.Seen.{Seen}
use Rattle.document.specs.declared.Walk.{Walk}
use Rattle.document.specs.declared.Inside.{Inside}
use Rattle.lists.specs.Lists.{any, Every}
use Rattle.lists.specs.BitsCode.{upto, has_bit, with_bit}

-- the known elements in file order, or the first refusal
abbrev pub Index : Type 0
Index = Result (List Entry) Refusal

-- the index so far, and whether a required element lacks
pub record FoundSoFar : Type 0 where
  pub index : Index
  pub lacking : Bool

-- one entry more, if there is room for it; behind a refusal there are none
unfoldable pub entered : Index → Entry → Index
entered (Ok es) e = Ok (cond (leb (length (written es)) entry_most) (es ++ (e ∷ [])) es)
entered (Err q) e = Err q

abbrev pub entered_found : FoundSoFar → Entry → FoundSoFar
entered_found r e = record { index = entered r.index e; lacking = r.lacking }

abbrev pub refused_found : FoundSoFar → Breach → ℕ → FoundSoFar
refused_found r b p = record { index = Err (breach_at b p); lacking = r.lacking }

-- ---- the same of a list of known elements
-- the first of these faults, or else x
abbrev pub first_or : List Fault → Index → Index
first_or [] x = x
first_or (a ∷ l) x = Err (refused_at a.number a.place)

unfoldable pub absorbed : Known → Index → Index
absorbed k (Ok es) = first_or (own_faults k) (entered (Ok es) (entry_of k))
absorbed k (Err q) = Err q

unfoldable pub absorb : List Known → Index → Index
absorb [] x = x
absorb (k ∷ ks) x = absorb ks (absorbed k x)

-- ---- what an element holds so far: how many (counted up to 64), and which kinds
abbrev pub none_seen : Seen
none_seen = record { count = 0; kinds = 0 }

-- beyond every limit the count stands still
unfoldable pub one_more : ℕ → ℕ
one_more n = cond (ltb n 64) (n + 1) n

unfoldable pub marked : Seen → ℕ → Seen
marked s k = cond (is_carried (kind_name k)) (record { count = one_more s.count; kinds = with_bit s.kinds k }) s

-- one too many of the kind k under the kind q
abbrev pub over_by : Times → ℕ → Seen → Bool
over_by Once k s = has_bit s.kinds k
over_by (OneTo m) k s = leb m s.count
over_by (UpTo m) k s = leb m s.count

unfoldable pub is_over : ℕ → ℕ → Seen → Bool
is_over q k s = over_by (under (kind_name q)).times k s

abbrev pub lacks_by : Times → ℕ → Seen → Bool
lacks_by Once q s = any (λ k. one_of (under (kind_name q)).carried (kind_name k) && not (has_bit s.kinds k)) (upto 64)
lacks_by (OneTo m) q s = eqb s.count 0
lacks_by (UpTo m) q s = false

unfoldable pub lacks_some : ℕ → Seen → Bool
lacks_some q s = lacks_by (under (kind_name q)).times q s

-- at the end tag
unfoldable pub closed_walk : FoundSoFar → ℕ → Seen → FoundSoFar
closed_walk r q s = record { index = r.index; lacking = r.lacking || lacks_some q s }

-- ---- the walk
-- the kind of the element at j, under the kind q
unfoldable pub child_at : List ℕ → ℕ → ℕ → ℕ
child_at f j q = kind_under q (slice (walk.name_at f j).from (walk.name_at f j).to f)

-- not behind a refusal; what is not known is skipped
unfoldable pub looked : FoundSoFar → ℕ → Bool
looked r k = is_ok r.index && (is_carried (kind_name k) || is_barred (kind_name k))

-- the first of 4, 7 for its kind, 5, 6, 7 for a value; t is for a bad text
unfoldable pub first_fault : ℕ → Bool → Bool → Gathered → Option Breach
first_fault k over t g = cond (is_barred (kind_name k)) (Some Uncarried) (cond over (Some Surplus) (verdict (rules_for k) t g))

abbrev pub fault_at : List ℕ → ℕ → ℕ → Bool → Option Breach
fault_at f i k over = first_fault k over (bad_text k f i) (gathered_at (rules_for k) f i)

-- the same, stray text aside
abbrev pub tag_fault_at : List ℕ → ℕ → ℕ → Bool → Option Breach
tag_fault_at f i k over = first_fault k over (is_none (said_at k f i)) (gathered_at (rules_for k) f i)

-- what is kept of the element at i
unfoldable pub entry_at : List ℕ → ℕ → ℕ → Entry
entry_at f i k =
    record { kind = k; place = i; number = unwrap_or (said_at k f i) 0; row = row_from (kind_name k) (gathered_at (rules_for k) f i) }

-- the items from j on, in an element of the kind q; n is more than there can be
unfoldable pub visit_items : (ℕ → ℕ → Bool → FoundSoFar → FoundSoFar) → List ℕ → ℕ → ℕ → ℕ → Seen → FoundSoFar → FoundSoFar
visit_items visit f q zero j s r = r
visit_items visit f q (suc n) j s r =
    elim (walk.item_at f j) [
      | Item.Text k ↦ visit_items visit f q n k s r
      | Item.Remark k ↦ visit_items visit f q n k s r
      | Item.Child ↦ visit_items visit f q n (walk.skipped f j) (marked s (child_at f j q))
          (visit j (child_at f j q) (is_over q (child_at f j q) s) r)
      | Item.Close k ↦ closed_walk r q s
      | Item.Broken ↦ r
    ]

unfoldable pub visit_body : (ℕ → ℕ → Bool → FoundSoFar → FoundSoFar) → List ℕ → ℕ → FoundSoFar → Body → FoundSoFar
visit_body visit f q r (Body.Open o) = visit_items visit f q (suc (length f)) o none_seen r
visit_body visit f q r (Body.Empty e) = closed_walk r q none_seen
visit_body visit f q r Body.Broken = r

-- r refused by a fault at i, or else x
abbrev pub refused_or : Option Breach → ℕ → FoundSoFar → FoundSoFar → FoundSoFar
refused_or (Some b) i r x = refused_found r b i
refused_or None i r x = x

-- the element at i, of the kind k, and what it holds
unfoldable pub visit_from : List ℕ → ℕ → ℕ → ℕ → Bool → FoundSoFar → FoundSoFar
visit_from f zero i k over r = r
visit_from f (suc d) i k over r =
    cond (looked r k)
    (refused_or (fault_at f i k over) i r
    (visit_body (visit_from f d) f k (entered_found r (entry_at f i k)) (walk.content_at f i))) r

-- the index of a file of good shape
abbrev pub none_found : FoundSoFar
none_found = record { index = Ok []; lacking = false }

unfoldable pub index_at : ℕ → FoundSoFar → Index
index_at i r = elim r.index [ Ok es ↦ cond r.lacking (Err (breach_at Lacking i)) (Ok es) | Err q ↦ Err q ]

unfoldable pub indexed : List ℕ → Index
indexed f =
    cond (is_carried (kind_name (child_at f (walk.root_at f) 0)))
    (index_at (walk.root_at f) (visit_from f 8 (walk.root_at f) (child_at f (walk.root_at f) 0) false none_found))
    (Err (breach_at Rootless (walk.root_at f)))

-- ---- the walk as the code keeps it: the entries stand at the front of a buffer of words
abbrev pub index_in : Result ℕ Refusal → List ℕ → Index
index_in (Ok end) ms = Ok (entries_in (take end ms))
index_in (Err q) ms = Err q

unfoldable pub found : Walk → List ℕ → FoundSoFar
found w ms = record { index = index_in w.end ms; lacking = w.lacking }

-- rows are as long as their kinds have them
abbrev pub Formed : Entry → Type 0
Formed e = length e.row ≡ row_size e.kind

-- the words up to the end are those of the entries es
pub record Kept (end : ℕ) (ms : List ℕ) (es : List Entry) : Type 0 where
  pub words : take end ms ≡ written es
  pub long : end ≡ length (written es)
  pub formed : Every Formed es

-- .. of some entries; behind a refusal nothing is said of the words
abbrev pub Sound : Result ℕ Refusal → List ℕ → Type 0
Sound (Ok end) ms = (es : List Entry) × Kept end ms es
Sound (Err q) ms = Unit {0}

-- an entry by what was read of it
abbrev pub entry_by : ℕ → ℕ → ℕ → Gathered → Entry
entry_by k p n g = record { kind = k; place = p; number = n; row = row_from (kind_name k) g }

-- the walk v, which is still at i, stands for r with the entry e
pub record EnteredIs (r : FoundSoFar) (e : Entry) (i : ℕ) (v : Walk) (ms : List ℕ) : Type 0 where
  pub walks : found v ms ≡ entered_found r e
  pub stays : v.at ≡ i
  pub sound : Sound v.end ms

-- the walk w stands at an element, in which elements nest at most d deep, there is room for every word, and its end is sound
pub record Ready (f : List ℕ) (d : ℕ) (w : Walk) (ms : List ℕ) : Type 0 where
  pub room : length ms ≡ entry_room
  pub short : length f ≤ 32768
  pub shallow : d ≤ 8
  pub node : Node
  pub end : ℕ
  pub stands : ElementAt f d w.at node end
  pub sound : Sound w.end ms

-- the walk is behind the element at i, and stands for r
pub record VisitedIs (f : List ℕ) (i : ℕ) (r : FoundSoFar) (v : Walk) (ms : List ℕ) : Type 0 where
  pub walks : found v ms ≡ r
  pub ends : v.at ≡ walk.skipped f i
  pub sound : Sound v.end ms

-- the same, and whether stray text stands in it
pub record InsideIs (f : List ℕ) (i : ℕ) (r : FoundSoFar) (v : Inside) (ms : List ℕ) : Type 0 where
  pub walks : found v.walk ms ≡ r
  pub ends : v.walk.at ≡ walk.skipped f i
  pub strays : v.stray ≡ walk.stray (walk.text_at f i)
  pub sound : Sound v.walk.end ms

-- ---- what becomes of a file: a refusal by its shape, the first fault of its elements, or all its known elements
unfoldable pub index_of : List Known → Index
index_of ks = Ok (map entry_of ks)

pub data Indexes (s : List ℕ) : Index → Type 0 where
  shapeless : (a : Shape) (n p : ℕ) → Shaped s a → shape_refusal a ≡ some (n, p) → Indexes s (Err (refused_at n p))
  faulty :
      (x : Node) (a : Fault) (l : List Fault)
      → length s ≤ 32768
      → WellShaped s x
      → element_faults x ≡ a ∷ l
      → Indexes s (Err (refused_at a.number a.place))
  faultless : (x : Node) → length s ≤ 32768 → WellShaped s x → element_faults x ≡ [] → Indexes s (index_of (known_elements x))

-- the index x, as it was left: its entries at the front of the words, or its refusal
abbrev pub Holds : Result ℕ Refusal → List ℕ → Index → Type 0
Holds (Ok end) ms (Ok es) = Kept end ms es
Holds (Ok end) ms (Err q) = ⊥
Holds (Err r) ms (Ok es) = ⊥
Holds (Err r) ms (Err q) = r ≡ q

pub record IndexedIn (s : List ℕ) (r : Result ℕ Refusal) (ms : List ℕ) : Type 0 where
  pub index : Index
  pub indexes : Indexes s index
  pub holds : Holds r ms index
