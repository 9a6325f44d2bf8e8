-- What the functions answer, for every input. Code-shaped, by spans and offsets; proofs/WalkLaws.antt ties it to the grammar. Nothing here
-- has to be believed.
use Rattle.std.specs.Prelude.{ℕ, zero, suc, ◌+◌, ◌≡◌, List, [], ◌∷◌, ◌++◌, Bool, true, false, cond, ◌&&◌, leb, ltb, length, get_or, take, drop}
use Rattle.std.proofs.Math.Seq.{slice}
use Rattle.text.specs.Kinds.{among, is_blank, is_start, is_name, is_decl, is_value, is_text}
use Rattle.text.specs.SpansCode.{span_at}
use Rattle.shape.specs.Text.{trimmed}
use Rattle.walk.specs.declared.Part.{Part}
use Rattle.walk.specs.declared.TagPart.{TagPart}
use Rattle.walk.specs.declared.Item.{Item}
use Rattle.walk.specs.declared.Body.{Body}

-- the offset behind the bytes of kind p at i
abbrev pub past : (ℕ → Bool) → List ℕ → ℕ → ℕ
past p f i = span_at p (drop i f) i

-- n further, or the end if that comes first
unfoldable pub ahead : List ℕ → ℕ → ℕ → ℕ
ahead f i n = cond (leb (i + n) (length f)) (i + n) (length f)

-- `-->` stands at i
unfoldable pub closes_remark : List ℕ → ℕ → Bool
closes_remark f i = among "-" (get_or f i 0) && (among "-" (get_or f (i + 1) 0) && among ">" (get_or f (i + 2) 0))

-- behind the first `-->` of f in what is left, s, which starts at i
unfoldable pub remark_end : List ℕ → List ℕ → ℕ → ℕ
remark_end f [] i = i
remark_end f (b ∷ s) i = elim (closes_remark f i) [ true ↦ i + 3 | false ↦ remark_end f s (i + 1) ]

-- the name from a to e, the value from c to k
abbrev valued : List ℕ → ℕ → ℕ → ℕ → ℕ → TagPart
valued f a e c k = cond (ltb k (length f)) (TagPart.Attribute a e c k) TagPart.Broken

-- where the value starts that belongs to the name that ends at e
abbrev pub value_start : List ℕ → ℕ → ℕ
value_start f e = ahead f (past is_blank f (ahead f (past is_blank f e) 1)) 1

unfoldable pub attribute_at : List ℕ → ℕ → TagPart
attribute_at f a = valued f a (past is_name f a) (value_start f (past is_name f a)) (past is_value f (value_start f (past is_name f a)))

-- what the byte b at a starts in a tag
unfoldable pub part_from : List ℕ → ℕ → ℕ → TagPart
part_from f a b =
    cond (among ">" b) (TagPart.Open (a + 1))
    (cond (among "/" b) (TagPart.Empty (ahead f a 2)) (cond (is_start b) (attribute_at f a) TagPart.Broken))

unfoldable pub part_at : List ℕ → ℕ → TagPart
part_at f i = part_from f (past is_blank f i) (get_or f (past is_blank f i) 0)

-- what `<` and the byte b start at i
unfoldable pub markup_at : List ℕ → ℕ → ℕ → Item
markup_at f i b =
    cond (among "/" b) (Item.Close (ahead f (past is_blank f (past is_name f (i + 2))) 1))
    (cond (among "!" b) (Item.Remark (remark_end f (drop (ahead f i 4) f) (ahead f i 4))) Item.Child)

unfoldable pub text_item : ℕ → ℕ → Item
text_item i e = cond (ltb i e) (Item.Text e) Item.Broken

unfoldable pub item_at : List ℕ → ℕ → Item
item_at f i = cond (among "<" (get_or f i 0)) (markup_at f i (get_or f (i + 1) 0)) (text_item i (past is_text f i))

unfoldable pub name_at : List ℕ → ℕ → Part
name_at f i = record { from = ahead f i 1; to = past is_name f (ahead f i 1) }

-- behind the attributes at j; n is more than there can be
unfoldable pub content_from : List ℕ → ℕ → ℕ → Body
content_from f zero j = Body.Broken
content_from f (suc n) j =
    elim (part_at f j) [
      | TagPart.Attribute a e c k ↦ content_from f n (k + 1)
      | TagPart.Open o ↦ Body.Open o
      | TagPart.Empty e ↦ Body.Empty e
      | TagPart.Broken ↦ Body.Broken
    ]

-- what stands behind the start tag whose name ends at j, and behind that of the element at i
abbrev pub content_behind : List ℕ → ℕ → Body
content_behind f j = content_from f (suc (length f)) j

unfoldable pub content_at : List ℕ → ℕ → Body
content_at f i = content_behind f (name_at f i).to

-- a walk over the items of an element: what a run of text from one offset to another adds, where a child ends, what the end tag gives, and
-- what a fault
pub record ItemWalk (A : Type 0) : Type 0 where
  pub text : ℕ → ℕ → A → A
  pub over : ℕ → ℕ
  pub close : ℕ → A
  pub fault : A

-- the walk from j on; n is more than the items that can be
unfoldable pub walk_items : {A : Type 0} → ItemWalk A → List ℕ → ℕ → ℕ → A
walk_items w f zero j = w.fault
walk_items w f (suc n) j =
    elim (item_at f j) [
      | Item.Text k ↦ w.text j k (walk_items w f n k)
      | Item.Remark k ↦ walk_items w f n k
      | Item.Child ↦ walk_items w f n (w.over j)
      | Item.Close k ↦ w.close k
      | Item.Broken ↦ w.fault
    ]

-- behind the end tag, where a child ends at `over`
abbrev pub skipping : (ℕ → ℕ) → List ℕ → ItemWalk ℕ
skipping over f = record { text = λ j k r. r; over = over; close = λ k. k; fault = length f }

unfoldable pub skip_body : (ℕ → ℕ) → List ℕ → Body → ℕ
skip_body over f (Body.Open o) = walk_items (skipping over f) f (suc (length f)) o
skip_body over f (Body.Empty e) = e
skip_body over f Body.Broken = length f

-- behind the element at i, in which elements nest at most d deep
unfoldable pub skip_from : List ℕ → ℕ → ℕ → ℕ
skip_from f zero i = length f
skip_from f (suc d) i = skip_body (skip_from f d) f (content_at f i)

unfoldable pub skipped : List ℕ → ℕ → ℕ
skipped f i = skip_from f 8 i

unfoldable pub prolog_end : List ℕ → ℕ
prolog_end f = cond (among "<" (get_or f 0 0) && among "?" (get_or f 1 0)) (ahead f (past is_decl f 2) 2) 0

-- behind the blanks and comments at j; n is more than the comments that can be
unfoldable pub misc_from : List ℕ → ℕ → ℕ → ℕ
misc_from f zero j = j
misc_from f (suc n) j =
    elim (item_at f (past is_blank f j)) [
      | Item.Remark m ↦ misc_from f n m
      | Item.Text k ↦ past is_blank f j
      | Item.Child ↦ past is_blank f j
      | Item.Close k ↦ past is_blank f j
      | Item.Broken ↦ past is_blank f j
    ]

unfoldable pub root_at : List ℕ → ℕ
root_at f = misc_from f (suc (length f)) (prolog_end f)

-- the text, without that of the children
abbrev pub texting : List ℕ → ItemWalk (List ℕ)
texting f = record { text = λ j k r. slice j k f ++ r; over = skipped f; close = λ k. []; fault = [] }

-- where the content starts, or the end of the file if there is none
unfoldable pub inner_start : List ℕ → Body → ℕ
inner_start f (Body.Open o) = o
inner_start f (Body.Empty e) = length f
inner_start f Body.Broken = length f

-- the text directly in an element whose content starts at j, in one with that content, and in the element at i
abbrev pub text_from : List ℕ → ℕ → List ℕ
text_from f j = walk_items (texting f) f (suc (length f)) j

abbrev pub text_in : List ℕ → Body → List ℕ
text_in f b = text_from f (inner_start f b)

unfoldable pub text_at : List ℕ → ℕ → List ℕ
text_at f i = text_in f (content_at f i)

-- is a byte of the text no blank
unfoldable pub stray : List ℕ → Bool
stray [] = false
stray (b ∷ s) = elim (is_blank b) [ true ↦ stray s | false ↦ true ]

unfoldable pub trim_at : List ℕ → Part
trim_at s = record { from = past is_blank s 0; to = past is_blank s 0 + length (trimmed s) }

-- as much of t as fits is at the front of d, and what lies behind is as it was
pub record LaidDown (t d : List ℕ) (r : ℕ) (d' : List ℕ) : Type 0 where
  pub count : r ≡ length (take (length d) t)
  pub bytes : d' ≡ take (length d) t ++ drop (length t) d
