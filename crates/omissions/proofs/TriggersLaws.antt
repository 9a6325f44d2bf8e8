-- The triggers that are listed of a file that meets the rules are those that no expression of its document names.
use Prim.Native.Nat.{ℕ, suc, ◌-◌, ◌≤◌}
use native.Mathlib.Omega.{arith}
use mathlib.Core.Path.{◌≡◌, refl, sym, ap, subst, ◌∙◌}
use mathlib.Core.Option.{Option}
use mathlib.Core.List.{List, [], ◌∷◌, map, append-nil, nil≢cons, head-eq_of_cons-eq}
use mathlib.Core.Bool.{Bool, true, false, cond, true≢false}
use lib.Dec.{eqb}
use lib.ListN.{length, replicate, length-map}
use lib.Seq.{take-append_seam}
use borrow.Author.Tests.{le-leb}
use Rattle.std.specs.List.{list_any}
use Rattle.lists.specs.Lists.{any, gathered}
use Rattle.lists.proofs.Cases.{by_cases}
use Rattle.text.specs.Texts.{bytes, same}
use Rattle.grammar.specs.Lex.{Token, word, AND, OR, NOT, open', close'}
use Rattle.grammar.specs.Tree.{Expression, print}
use Rattle.grammar.specs.Outcome.{ReadsAs, Becomes}
use Rattle.grammar.specs.TokensCode.{spans, names_in, find, number_of}
use Rattle.grammar.proofs.Spelled.{lexed_spelled}
use Rattle.records.specs.Records.{PlanStatement}
use Rattle.schema.specs.Schema.{parents, parent_in}
use Rattle.file_rules.specs.Element.{Known, Fault, text_of}
use Rattle.file_rules.specs.Reading.{is}
use Rattle.file_rules.specs.Tables.{kept, is_in, within, name_of, expressions_of, expression_of, names_of}
use Rattle.element.specs.ElementCode.{short_text}
use Rattle.element.proofs.Texts.{short_law}
use Rattle.document.specs.EntriesCode.{Entry, entry_of}
use Rattle.document.proofs.Few.{append_none}
use Rattle.document.proofs.Stood.{All, all_append}
use Rattle.tables.specs.RowsCode.{folded, no_names, push_name, tell_name}
use Rattle.tables.specs.TablesCode.{names_at}
use Rattle.tables.proofs.Wanted.{Fit, Formed}
use Rattle.tables.proofs.Entries.{all_fit, all_nested}
use Rattle.tables.proofs.Counts.{all_formed}
use Rattle.tables.proofs.Tells.{names_law}
use Rattle.tables.proofs.Nested.{Nested, each_name, each_pair, pair_law, all_parts, all_mapped, kept_append, all_kept}
use Rattle.converter.specs.Converter.{fault_of, Composes, Meets}
use Rattle.read_back.proofs.Takes.{no_faults}
use Rattle.omissions.specs.Omissions.{is_word, Worded, unnamed_by, Unnamed, Places}
use Rattle.omissions.specs.TriggersCode.{has_word, says_word, name_at, is_unnamed, places_of, unnamed_in}
use Rattle.omissions.specs.ToldCode.{Told}
use Rattle.omissions.proofs.Good.{elements, faultless}

-- ---- words: with one name, the number 0 is the word
token_zero : (n : List ℕ) (t : Token (List ℕ)) → eqb (number_of (n ∷ []) t) 0 ≡ is_word n t
unfolding number_of find
token_zero n (word w) = by_cases (same w n) (λ t. rw t) (λ t. rw t)
token_zero n AND = refl
token_zero n OR = refl
token_zero n NOT = refl
token_zero n open' = refl
token_zero n close' = refl

tokens_zero : (n : List ℕ) (ts : List (Token (List ℕ))) → list_any (λ t. eqb t 0) (map (number_of (n ∷ [])) ts) ≡ any (is_word n) ts
unfolding any
tokens_zero n [] = refl
tokens_zero n (t ∷ ts) = rw (token_zero n t, tokens_zero n ts)

word_is : (n text : List ℕ) (e : Expression (List ℕ)) → ReadsAs text e → has_word n text ≡ any (is_word n) (print e)
unfolding has_word
word_is n text e r =
    let ts = map (number_of (n ∷ [])) (print e) in
    let l : length ts ≤ 64 = omega (arith, length-map (print e) (number_of (n ∷ [])), r.short) in
    rw (lexed_spelled (n ∷ []) text (print e) r.spelled, le-leb (length ts) 64 l, take-append_seam ts (replicate (64 - length ts) 0))
    (tokens_zero n (print e))

-- ---- the name and the text of an element, from its place
module _ (f : List ℕ) (k : Known) (y : Fit f k) where
  module _ (t : is_in "TRIGGERS" k ≡ true) where
    told_one : names_at f (folded (tell_name f) no_names (map entry_of (k ∷ []))) ≡ name_at f k.place ∷ []
    unfolding folded tell_name push_name names_in spans
    told_one = rw (y.named, t)

    kept_one : kept (is_in "TRIGGERS") (k ∷ []) ≡ k ∷ []
    unfolding kept
    kept_one = rw t

    pub name_is : name_at f k.place ≡ name_of k
    name_is =
        let l : length (kept (is_in "TRIGGERS") (k ∷ [])) ≤ 32 = rw kept_one (omega arith) in
        head-eq_of_cons-eq (sym told_one ∙ names_law f (k ∷ []) (y, tt) l ∙ ap (map name_of) kept_one)

  pub text_is : length f ≤ 32768 → short_text f k.place ≡ text_of k
  text_is room =
      let s = y.stood in
      short_law f (suc s.depth) k.place k.place k.name k.attributes k.items s.behind s.element s.deep room

-- ---- every EXPRESSION of a document without faults can be read
abbrev Read : Known → Type 0
Read k = (e : Expression (List ℕ)) × ReadsAs (text_of k) e

-- it holds one EXPRESSION
abbrev Single : Known → Type 0
Single k = (e : Known) × (expressions_of k ≡ e ∷ [])

read_one : (names : List (List ℕ)) (k : Known) (r : Option ℕ) (code : List ℕ) → Single k
    → Becomes names (expression_of k) r code → gathered (λ e. fault_of r e.place) (expressions_of k) ≡ [] → All Read (expressions_of k)
unfolding gathered
read_one names k r code (e, o) (Becomes.breaks h) g = absurd (nil≢cons (sym (rw o at g)))
read_one names k r code (e, o) (Becomes.unnamed t s n) g = absurd (nil≢cons (sym (rw o at g)))
read_one names k r code (e, o) (Becomes.compiles t s n) g =
    let q : expression_of k ≡ text_of e = ap (gathered text_of) o ∙ append-nil (text_of e) in
    subst (All Read) (sym o) ((t, subst (λ (u : List ℕ). ReadsAs u t) q s), tt)

read_each : (names : List (List ℕ)) (ks : List Known) (fs : List Fault) (ss : List PlanStatement)
    → All Single ks → Composes names ks fs ss → fs ≡ [] → All (λ k. All Read (expressions_of k)) ks
read_each names [] fs ss y Composes.over q = tt
read_each names (k ∷ ks) fs ss y (Composes.next k₁ r code ks₁ gs ts b c) q =
    let p = append_none (gathered (λ e. fault_of r e.place) (expressions_of k)) gs q in
    (read_one names k r code y.0 b p.0, read_each names ks gs ts y.1 c p.1)

-- what holds of those that are kept
unkept : (P : Known → Type 0) (p : Known → Bool) (ks : List Known) → All P (kept p ks) → All (λ k. p k ≡ true → P k) ks
unfolding kept
unkept P p [] h = tt
unkept P p (k ∷ ks) h =
    by_cases (p k) (λ t. let g : All P (k ∷ kept p ks) = rw t at h in ((λ u. g.0), unkept P p ks g.1))
    (λ t. ((λ u. absurd (true≢false (sym u ∙ t))), unkept P p ks (rw t at h)))

-- an EXPRESSION stands in a STATEMENT only
expression_in : each_pair (λ n m. cond (same m (bytes "EXPRESSION")) (same n (bytes "STATEMENT")) true) parents ≡ true
unfolding each_pair each_name parents parent_in any bytes same
expression_in = refl

abbrev Sayings : List Known → Type 0
Sayings ks = All Read (kept (is "EXPRESSION") ks)

read_from : (n : List ℕ) (ks : List Known) → Nested n ks → All (λ k. is "STATEMENT" k ≡ true → Sayings (within k)) ks
    → (same n (bytes "STATEMENT") ≡ true → Sayings ks) → Sayings ks
unfolding kept
read_from n ks Nested.over y h = tt
read_from n ks (Nested.next k ms c inner rest) y h =
    let Q : Known → Type 0 = λ m. is "STATEMENT" m ≡ true → Sayings (within m) in
    let ys = all_parts Q (within k) ms y.1 in
    by_cases (same n (bytes "STATEMENT")) h
    (λ t.
    let outside : is "EXPRESSION" k ≡ false = by_cases (is "EXPRESSION" k)
    (λ u. absurd (true≢false
    (sym (rw (u, t) at (pair_law (λ n m. cond (same m (bytes "EXPRESSION")) (same n (bytes "STATEMENT")) true) parents n k.name
    expression_in c)))))
    (λ u. u) in
    rw (outside, kept_append (is "EXPRESSION") (within k) ms)
    (all_append Read (kept (is "EXPRESSION") (within k)) (kept (is "EXPRESSION") ms)
    (read_from k.name (within k) inner ys.0 y.0) (read_from n ms rest ys.1 (λ u. absurd (true≢false (sym u ∙ t))))))

-- ---- the tokens of each
abbrev Tokens : Type 0
Tokens = List (List (Token (List ℕ)))

tokens_of : (ks : List Known) → All Read ks
    → (tss : Tokens) × Worded ks tss × ((n : List ℕ) → any (λ k. has_word n (text_of k)) ks ≡ any (any (is_word n)) tss)
unfolding any
tokens_of [] y = ([], Worded.over, λ n. refl)
tokens_of (k ∷ ks) y =
    let e = y.0.0 in
    let r = y.0.1 in
    let h = tokens_of ks y.1 in
    (print e ∷ h.0, Worded.next k (print e) ks h.0 r.spelled h.1, λ n. rw (word_is n (text_of k) e r, h.2 n))

-- ---- what the entries of the elements say
module _ (f : List ℕ) (room : length f ≤ 32768) where
  says_are : (n : List ℕ) (ks : List Known) → All (Fit f) ks
      → any (says_word f n) (map entry_of ks) ≡ any (λ k. has_word n (text_of k)) (kept (is "EXPRESSION") ks)
  unfolding any says_word kept
  says_are n [] y = refl
  says_are n (k ∷ ks) y =
      let h = says_are n ks y.1 in
      by_cases (is "EXPRESSION" k) (λ t. rw (y.0.named, t, text_is f k y.0 room, h)) (λ t. rw (y.0.named, t, h))

  places_are : (es : List Entry) (tss : Tokens) → ((n : List ℕ) → any (says_word f n) es ≡ any (any (is_word n)) tss)
      → (ks : List Known) → All (Fit f) ks → places_of (is_unnamed f es) (map entry_of ks) ≡ unnamed_by tss ks
  unfolding places_of is_unnamed kept
  places_are es tss h [] y = refl
  places_are es tss h (k ∷ ks) y =
      let g = places_are es tss h ks y.1 in
      by_cases (is_in "TRIGGERS" k)
      (λ t. by_cases (any (any (is_word (name_of k))) tss)
      (λ u. rw (y.0.named, t, name_is f k y.0 t, h (name_of k), u) g)
      (λ u. rw (y.0.named, t, name_is f k y.0 t, h (name_of k), u) (ap (λ (l : List ℕ). k.place ∷ l) g)))
      (λ t. rw (y.0.named, t) g)

-- ---- a file that meets the rules
module _ (f ws : List ℕ) (m : Meets f ws) where
  abbrev ks : List Known
  ks = elements f ws m

  fits : All (Fit f) ks
  fits = all_fit f m.document m.spells (faultless f ws m)

  lines_read : All (λ k. is "STATEMENT" k ≡ true → Sayings (within k)) ks
  lines_read =
      let e = faultless f ws m in
      let c = (no_faults m.document m.statements m.faultless).2 in
      let one = all_mapped (λ k. (is "STATEMENT" k ≡ true) × Formed k) Single (λ k y. (y.1 y.0).1) (kept (is "STATEMENT") ks)
      (all_kept Formed (is "STATEMENT") ks (all_formed m.document e)) in
      unkept (λ k. All Read (expressions_of k)) (is "STATEMENT") ks
      (read_each (names_of ks) (kept (is "STATEMENT") ks) [] m.statements one c refl)

  root_apart : same [] (bytes "STATEMENT") ≡ false
  unfolding bytes same
  root_apart = refl

  all_read : Sayings ks
  all_read =
      read_from [] ks (all_nested m.document (faultless f ws m)) lines_read (λ u. absurd (true≢false (sym u ∙ root_apart)))

  pub unnamed_are : Unnamed m.document (unnamed_in f (map entry_of ks))
  unnamed_are =
      let t = tokens_of (kept (is "EXPRESSION") ks) all_read in
      record {
        tokens = t.0;
        worded = t.1;
        exactly = places_are f m.short (map entry_of ks) t.0 (λ n. says_are f m.short n ks fits ∙ t.2 n) ks fits;
      }

  -- as they were laid
  pub unnamed_laid : (d : List ℕ) (es : List Entry) → es ≡ map entry_of ks → (r : ℕ) (e : List ℕ) → Told (unnamed_in f es) d r e
      → Places Unnamed f d r e
  unnamed_laid d es q r e l =
      let u = subst (λ (es : List Entry). Unnamed m.document (unnamed_in f es)) (sym q) unnamed_are in
      rw (l.count, l.places) (Places.accepted ws (unnamed_in f es) m u)
