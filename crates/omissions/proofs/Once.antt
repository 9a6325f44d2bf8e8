-- The contracts settle the answers: a file has one document, and of a document one list of places is told.
use Prim.Native.Nat.{ℕ}
use mathlib.Core.Path.{◌≡◌, refl, sym, ap, subst, ◌∙◌}
use mathlib.Core.List.{List, [], ◌∷◌, ◌++◌}
use mathlib.Core.Bool.{Bool}
use lib.ListN.{length, take, drop}
use Rattle.lists.proofs.Cases.{some_same}
use Rattle.shape.specs.Shape.{Node}
use Rattle.shape.proofs.OneDoc.{one_doc}
use Rattle.grammar.specs.Lex.{Token, Spells}
use Rattle.grammar.proofs.Spelled.{spells_lex}
use Rattle.file_rules.specs.Element.{Known}
use Rattle.file_rules.specs.Reading.{is}
use Rattle.file_rules.specs.Document.{known_elements}
use Rattle.file_rules.specs.Tables.{kept}
use Rattle.converter.specs.Converter.{Meets}
use Rattle.omissions.specs.Omissions.{skipped_elements, Worded, unnamed_by, Unnamed, silent, Places, Recordless}

same_document : (s ws vs : List ℕ) (m : Meets s ws) (n : Meets s vs) → m.document ≡ n.document
same_document s ws vs m n = one_doc s m.document n.document m.spells n.spells

-- ---- places
module _ (told : Node → List ℕ → Type 0) (functional : (x : Node) (l k : List ℕ) → told x l → told x k → l ≡ k) where
  pub places_once : (s d : List ℕ) (n m : ℕ) (e f : List ℕ) → Places told s d n e → Places told s d m f → (n ≡ m) × (e ≡ f)
  places_once s d n m e f (Places.refused h) (Places.refused g) = (refl, refl)
  places_once s d n m e f (Places.refused h) (Places.accepted ws l a t) = absurd (h ws a)
  places_once s d n m e f (Places.accepted ws l a t) (Places.refused h) = absurd (h ws a)
  places_once s d n m e f (Places.accepted ws l a t) (Places.accepted vs k b u) =
      let x = same_document s ws vs a b in
      let q = functional b.document l k (subst (λ (y : Node). told y l) x t) u in
      (ap length q, ap (λ (l : List ℕ). take (length d) l ++ drop (length l) d) q)

-- ---- skipped elements
pub skipped_once : (s d : List ℕ) (n m : ℕ) (e f : List ℕ) → Places (λ x l. l ≡ skipped_elements x) s d n e
    → Places (λ x l. l ≡ skipped_elements x) s d m f → (n ≡ m) × (e ≡ f)
skipped_once = places_once (λ x l. l ≡ skipped_elements x) (λ x l k p q. p ∙ sym q)

-- ---- the triggers that no expression names
spells_once : {s : List ℕ} {a b : List (Token (List ℕ))} → Spells s a → Spells s b → a ≡ b
spells_once p q = some_same (sym (spells_lex p) ∙ spells_lex q)

worded_once : (ks : List Known) (a b : List (List (Token (List ℕ)))) → Worded ks a → Worded ks b → a ≡ b
worded_once [] a b Worded.over Worded.over = refl
worded_once (k ∷ ks) a b (Worded.next k₁ ts ks₁ tss p w) (Worded.next k₂ us ks₂ uss q v) =
    let h = spells_once p q in
    let g = worded_once ks tss uss w v in
    λ i. h i ∷ g i

pub unnamed_functional : (x : Node) (l m : List ℕ) → Unnamed x l → Unnamed x m → l ≡ m
unnamed_functional x l m a b =
    let ks = known_elements x in
    let q = worded_once (kept (is "EXPRESSION") ks) a.tokens b.tokens a.worded b.worded in
    a.exactly ∙ ap (λ (t : List (List (Token (List ℕ)))). unnamed_by t ks) q ∙ sym b.exactly

pub unnamed_once : (s d : List ℕ) (n m : ℕ) (e f : List ℕ) → Places Unnamed s d n e → Places Unnamed s d m f → (n ≡ m) × (e ≡ f)
unnamed_once = places_once Unnamed unnamed_functional

-- ---- nothing can be recorded
pub silent_once : (s : List ℕ) (a b : Bool) → Recordless s a → Recordless s b → a ≡ b
silent_once s a b (Recordless.refused h) (Recordless.refused g) = refl
silent_once s a b (Recordless.refused h) (Recordless.accepted ws m) = absurd (h ws m)
silent_once s a b (Recordless.accepted ws m) (Recordless.refused h) = absurd (h ws m)
silent_once s a b (Recordless.accepted ws m) (Recordless.accepted vs n) = ap silent (same_document s ws vs m n)
