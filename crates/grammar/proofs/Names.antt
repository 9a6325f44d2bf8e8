-- Laws of the triggers' names, and of looking one up.
use Prim.Native.Nat.{ℕ, zero, suc, ◌+◌, ◌-◌, ◌≤◌, ◌<◌, min}
use native.Mathlib.Omega.{arith}
use native.Mathlib.Numerals.{add-one}
use mathlib.Core.Path.{◌≡◌, refl, sym, ap, subst, ◌∙◌}
use mathlib.Core.Bool.{Bool, true, false, false≢true}
use mathlib.Core.List.{List, [], ◌∷◌, ◌++◌}
use Rattle.std.specs.Prelude.{Some, zip, unwrap_or}
use Rattle.std.specs.List.{position_from}
use lib.ListN.{length, take, drop, get_or, length-take, drop_of_length-le}
use lib.Seq.{take_all, take-nil}
use Rattle.lists.specs.Lists.{any}
use Rattle.lists.proofs.Cases.{by_cases, le_or_lt}
use Rattle.text.specs.Texts.{same}
use Rattle.grammar.specs.Lex.{Token, word, AND, OR, NOT, open', close'}
use Rattle.grammar.specs.Tree.{Operator, or, and, Chain, only, join, Operand, chain, name, negate, bracket, Expression, mark, print, printed}
use Rattle.grammar.specs.TokensCode.{spans, names_in, find}
use Rattle.grammar.specs.Outcome.{Named, number_in, state_of}
use Rattle.grammar.proofs.Maps.{map_tree, map_operand}

-- a part of a file: what is dropped from what is taken is taken from what is dropped
drop_take : (a e : ℕ) (f : List ℕ) → drop a (take e f) ≡ take (e - a) (drop a f)
drop_take zero e f = let q : e ≡ e - 0 = omega arith in ap (λ (n : ℕ). take n f) q
drop_take (suc a) e [] = ap (drop (suc a)) (take-nil e) ∙ sym (take-nil (e - suc a))
drop_take (suc a) zero (x ∷ f) = let q : 0 ≡ 0 - suc a = omega arith in ap (λ (n : ℕ). take n (drop a f)) q
drop_take (suc a) (suc e) (x ∷ f) = let q : e - a ≡ suc e - suc a = omega arith in drop_take a e f ∙ ap (λ (n : ℕ). take n (drop a f)) q

take_least : (e : ℕ) (f : List ℕ) → take e f ≡ take (min e (length f)) f
take_least e f =
    le_or_lt e (length f)
    (λ h. let q : e ≡ min e (length f) = omega arith in ap (λ (n : ℕ). take n f) q)
    (λ h. take_all e f (omega arith) ∙ sym (take_all (min e (length f)) f (omega arith)))

-- a part from a up to e is one within the file: e is cut at its end, and a at e
pub cut : (a e : ℕ) (f : List ℕ) {a' e' : ℕ} → e' ≡ min e (length f) → a' ≡ min a e' → take (e' - a') (drop a' f) ≡ drop a (take e f)
cut a e f {a'} {e'} p q =
    let l : length (take e f) ≡ min e (length f) = length-take e f in
    sym (drop_take a' e' f)
    ∙ ap (λ (n : ℕ). drop a' (take n f)) p
    ∙ ap (drop a') (sym (take_least e f))
    ∙ le_or_lt a e'
    (λ h. let k : a' ≡ a = omega arith in ap (λ (n : ℕ). drop n (take e f)) k)
    (λ h. drop_of_length-le (take e f) {i = a'} (omega arith) ∙ sym (drop_of_length-le (take e f) {i = a} (omega arith)))

-- the number of a word is the place of the first name that it is, of the first k, or 37
module _ (f w : List ℕ) where
  abbrev is_it : ℕ × ℕ → Bool
  is_it p = same w (drop p.0 (take p.1 f))

  pub find_first : (ss es : List ℕ) (k i : ℕ)
      → find (take k (spans f ss es)) w i ≡ unwrap_or (position_from is_it i (take k (zip ss es))) 37
  unfolding find spans
  find_first ss es zero i = refl
  find_first [] es (suc k) i = refl
  find_first (a ∷ ss) [] (suc k) i = refl
  find_first (a ∷ ss) (e ∷ es) (suc k) i =
      by_cases (same w (drop a (take e f))) (λ t. rw t)
      (λ t. rw (t, add-one i) (find_first ss es k (suc i)))

  pub first_low : (ps : List (ℕ × ℕ)) (i : ℕ) {n : ℕ} → position_from is_it i ps ≡ Some n → n < i + length ps
  first_low [] i e = cc
  first_low (p ∷ ps) i {n} e =
      by_cases (is_it p) (λ t. let q : Some i ≡ Some n = rw t at e in let r : i ≡ n = cc in omega arith)
      (λ t. omega (arith, first_low ps (i + 1) (rw t at e)))

-- there are at most 32 names
pub few_names : (f ss es : List ℕ) → length (names_in f ss es) ≤ 32
unfolding names_in
few_names f ss es = omega (arith, length-take 32 (spans f ss es))

-- the number of a name that one of the triggers has
pub number_low : (names : List (List ℕ)) (w : List ℕ) → any (same w) names ≡ true → number_in names w < length names
unfolding any number_in
number_low [] w e = absurd (false≢true e)
number_low (n ∷ names) w e = by_cases (same w n) (λ t. rw t (omega arith)) (λ t. rw t (omega (arith, number_low names w (rw t at e))))

-- what `find` finds, counting from k
find_named : (names : List (List ℕ)) (w : List ℕ) (k : ℕ) → any (same w) names ≡ true → find names w k ≡ k + number_in names w
unfolding any number_in find
find_named [] w k e = absurd (false≢true e)
find_named (n ∷ names) w k e =
    by_cases (same w n) (λ t. rw t (omega arith)) (λ t. rw t (omega (arith, find_named names w (suc k) (rw t at e))))

pub number_found : (names : List (List ℕ)) (w : List ℕ) → any (same w) names ≡ true → find names w 0 ≡ number_in names w
number_found names w e = omega (arith, find_named names w 0 e)

pub find_unnamed : (names : List (List ℕ)) (w : List ℕ) (k : ℕ) → any (same w) names ≡ false → find names w k ≡ 37
unfolding any find
find_unnamed [] w k e = refl
find_unnamed (n ∷ names) w k e =
    by_cases (same w n) (λ t. absurd (false≢true (sym (rw t at e)))) (λ t. rw t (find_unnamed names w (suc k) (rw t at e)))

-- the state of the trigger of that number is that of the trigger of that name
pub state_named : (names : List (List ℕ)) (states : List Bool) (w : List ℕ) → any (same w) names ≡ true
    → get_or states (number_in names w) false ≡ state_of names states w
unfolding any number_in state_of
state_named [] states w e = absurd (false≢true e)
state_named (n ∷ names) [] w e = refl
state_named (n ∷ names) (b ∷ states) w e = by_cases (same w n) (λ t. rw t) (λ t. rw t (state_named names states w (rw t at e)))

-- a name that one of the triggers has
abbrev pub NameOf : List (List ℕ) → Type 0
NameOf names = (w : List ℕ) × (any (same w) names ≡ true)

module _ (names : List (List ℕ)) where
  named_split : (s l : List (Token (List ℕ))) → Named names (s ++ l) → Named names s × Named names l
  named_split [] l n = (tt, n)
  named_split (word w ∷ s) l n = let r = named_split s l n.1 in ((n.0, r.0), r.1)
  named_split (AND ∷ s) l n = named_split s l n
  named_split (OR ∷ s) l n = named_split s l n
  named_split (NOT ∷ s) l n = named_split s l n
  named_split (open' ∷ s) l n = named_split s l n
  named_split (close' ∷ s) l n = named_split s l n

  past_mark : (b : Operator) (l : List (Token (List ℕ))) → Named names (mark b ∷ l) → Named names l
  past_mark or l n = n
  past_mark and l n = n

  mutual
    unfolding print map_tree

    name_tree : {b : Operator} (e : Chain (List ℕ) b) → Named names (print e)
        → (x : Chain (NameOf names) b) × (map_tree (λ (w : NameOf names). w.0) x ≡ e)
    name_tree (only x) n = let y = name_operand x n in (only y.0, ap only y.1)
    name_tree {b} (join c x) n =
        let s = named_split (print c) (mark b ∷ printed x) n in
        let d = name_tree c s.0 in
        let y = name_operand x (past_mark b (printed x) s.1) in
        (join d.0 y.0, λ i. join (d.1 i) (y.1 i))

    name_operand : {b : Operator} (x : Operand (List ℕ) b) → Named names (printed x)
        → (y : Operand (NameOf names) b) × (map_operand (λ (w : NameOf names). w.0) y ≡ x)
    name_operand (chain c) n = let d = name_tree c n in (chain d.0, ap chain d.1)
    name_operand (name w) n = (name (w, n.0), refl)
    name_operand (negate x) n = let y = name_operand x n in (negate y.0, ap negate y.1)
    name_operand (bracket e) n =
        let f = name_tree e (named_split (print e) (close' ∷ []) n).0 in
        (bracket f.0, ap bracket f.1)

  -- what holds of every tree of names holds of every tree all of whose words are names
  pub of_names : (P : Expression (List ℕ) → Type 0) → ((x : Expression (NameOf names)) → P (map_tree (λ (w : NameOf names). w.0) x))
      → (e : Expression (List ℕ)) → Named names (print e) → P e
  of_names P h e n = let x = name_tree e n in subst P x.1 (h x.0)
