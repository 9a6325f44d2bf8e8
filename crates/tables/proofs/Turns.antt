-- The loops: over names, each compared with those before it, and over entries.
use Prim.Native.Nat.{ℕ, zero, suc, ◌+◌, ◌≤◌, ◌<◌}
use native.Mathlib.Omega.{arith}
use native.Mathlib.Numerals.{add-one}
use mathlib.Core.Path.{◌≡◌, refl, sym, ap, ◌∙◌}
use mathlib.Core.List.{List, [], ◌∷◌, ◌++◌}
use mathlib.Core.Bool.{Bool, true, false, ◌||◌}
use lib.ListN.{length, get_or, take, drop, drop_of_length-le}
use lib.Seq.{take_all}
use Rattle.text.specs.Texts.{same}
use Rattle.text.proofs.Spans.{drop_one}
use Rattle.grammar.specs.TokensCode.{spans, names_in}
use Rattle.document.specs.EntriesCode.{Entry}
use Rattle.tables.specs.declared.cells.Entry.{Entry as Cells}
use Rattle.tables.specs.RowsCode.{shown}
use Rattle.std.specs.Prelude.{Option, Some, None, MatchOption}
use Rattle.std.specs.Option.{option_map}
use Rattle.std.specs.List.{find, list_any, zip}
use Rattle.lists.proofs.Cases.{by_cases}
use Rattle.file_rules.specs.declared.Refusal.{Refusal}
use Rattle.tables.specs.TablesCode.{used_from, first_where}
use Rattle.file_rules.specs.RefusalCode.{refused_at}
use Rattle.lists.specs.Lists.{any}

-- ---- names
abbrev pub name_at : List ℕ → List ℕ → List ℕ → ℕ → List ℕ
name_at f ss es i = drop (get_or ss i 0) (take (get_or es i 0) f)

module _ (f ss es : List ℕ) (l : length ss ≡ length es) (i : ℕ) where
  spans_here : i < length ss → spans f (drop i ss) (drop i es) ≡ name_at f ss es i ∷ spans f (drop (i + 1) ss) (drop (i + 1) es)
  unfolding spans
  spans_here h = rw (drop_one ss i h, drop_one es i (omega arith))

  spans_over : length ss ≤ i → spans f (drop i ss) (drop i es) ≡ []
  unfolding spans
  spans_over h = rw (drop_of_length-le ss h)

first_names : (f ss es : List ℕ) (i : ℕ) → i < length ss → i < length es
    → spans f (take (suc i) ss) (take (suc i) es) ≡ spans f (take i ss) (take i es) ++ (name_at f ss es i ∷ [])
unfolding spans
first_names f [] es i h g = absurd (omega arith)
first_names f (a ∷ ss) [] i h g = absurd (omega arith)
first_names f (a ∷ ss) (e ∷ es) zero h g = refl
first_names f (a ∷ ss) (e ∷ es) (suc i) h g =
    ap (λ (l : List (List ℕ)). drop a (take e f) ∷ l) (first_names f ss es i (omega arith) (omega arith))

-- a name is looked for
pub used_is : (f n ss es : List ℕ) → list_any (λ p. same n (drop p.0 (take p.1 f))) (zip ss es) ≡ any (same n) (spans f ss es)
unfolding any spans
used_is f n [] es = refl
used_is f n (a ∷ ss) [] = refl
used_is f n (a ∷ ss) (e ∷ es) = ap (λ (b : Bool). same n (drop a (take e f)) || b) (used_is f n ss es)

-- i names are none of those before them
abbrev pub Passed : List ℕ → List ℕ → List ℕ → List ℕ → ℕ → Type 0
Passed f ss es ps i = used_from (spans f (take i ss) (take i es)) (spans f (drop i ss) (drop i es)) (drop i ps)
    ≡ used_from [] (spans f ss es) ps

pub passed_first : (f ss es ps : List ℕ) → Passed f ss es ps 0
unfolding spans
passed_first f ss es ps = refl

module _ (f ss es ps : List ℕ) (l : length ss ≡ length es) (k : length ss ≡ length ps) (i : ℕ) (x : Passed f ss es ps i) where
  module _ (r : Bool) (q : r ≡ any (same (name_at f ss es i)) (spans f (take i ss) (take i es))) where
    pub passed_hit : i < length ss → r ≡ true → Some (refused_at 9 (get_or ps i 0)) ≡ used_from [] (spans f ss es) ps
    unfolding used_from
    passed_hit h t = sym (sym x ∙ rw (spans_here f ss es l i h, drop_one ps i (omega arith), sym q ∙ t))

    pub passed_on : i < length ss → r ≡ false → Passed f ss es ps (i + 1)
    unfolding used_from
    passed_on h t =
        let e : take (i + 1) ss ≡ take (suc i) ss = ap (λ (n : ℕ). take n ss) (add-one i) in
        let g : take (i + 1) es ≡ take (suc i) es = ap (λ (n : ℕ). take n es) (add-one i) in
        rw (e, g, first_names f ss es i h (omega arith))
        (sym (sym x ∙ rw (spans_here f ss es l i h, drop_one ps i (omega arith), sym q ∙ t)))

  pub passed_all : length ss ≤ i → None ≡ used_from [] (spans f ss es) ps
  unfolding used_from
  passed_all h = sym (sym x ∙ rw (spans_over f ss es l i h))

few_spans : (f ss es : List ℕ) → length (spans f ss es) ≤ length ss
unfolding spans
few_spans f [] es = omega arith
few_spans f (a ∷ ss) [] = omega arith
few_spans f (a ∷ ss) (e ∷ es) = let h = few_spans f ss es in omega arith

-- no more names count than there are
pub names_whole : (f ss es ps : List ℕ) → length ss ≤ 32 → used_from [] (spans f ss es) ps ≡ used_from [] (names_in f ss es) ps
unfolding names_in
names_whole f ss es ps h = rw (take_all 32 (spans f ss es) (omega (arith, few_spans f ss es, h)))

-- ---- the first entry for which p holds
first_is : (p : Entry → Bool) (es : List Entry) → option_map (λ e. refused_at 10 e.place) (find p es) ≡ first_where p es
unfolding first_where
first_is p [] = refl
first_is p (e ∷ es) = by_cases (p e) (λ t. rw t refl) (λ t. rw t (first_is p es))

pub first_found : (p : Entry → Bool) (es : List Entry) (o : Option Cells) (r : Option Refusal) → option_map shown o ≡ find p es
    → MatchOption o (r ≡ None) (λ x. r ≡ Some (refused_at 10 (shown x).place)) → r ≡ first_where p es
first_found p es None r f e = e ∙ ap (option_map (λ (y : Entry). refused_at 10 y.place)) f ∙ first_is p es
first_found p es (Some x) r f e = e ∙ ap (option_map (λ (y : Entry). refused_at 10 y.place)) f ∙ first_is p es
