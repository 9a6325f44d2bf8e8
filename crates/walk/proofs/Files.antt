-- From a file of good shape to its root.
use Prim.Native.Nat.{ℕ, zero, suc, ◌+◌, ◌<◌}
use native.Mathlib.Omega.{arith}
use mathlib.Core.Path.{◌≡◌, refl, sym, ap, ◌∙◌, subst}
use mathlib.Core.List.{List, [], ◌∷◌}
use mathlib.Core.Bool.{false}
use lib.ListN.{length, drop}
use Rattle.text.specs.Kinds.{is_blank, is_start, is_decl}
use Rattle.text.proofs.Spans.{low_of}
use Rattle.shape.specs.Shape.{Run, Comment, Misc, Prolog}
use Rattle.walk.specs.declared.Item.{Item}
use Rattle.walk.specs.WalkCode.{past, item_at, prolog_end, misc_from, root_at}
use Rattle.walk.proofs.Places.{here, ahead_in}
use Rattle.walk.proofs.WalkAnswers.{prolog_first, prolog_second, prolog_third}
use Rattle.walk.proofs.Bounds.{item_from}
use Rattle.walk.proofs.Turns.{misc_other, misc_remark}
use Rattle.walk.proofs.Runs.{apart, Stops, stops, run_law, on_two}
use Rattle.walk.proofs.WalkItems.{Tagged, comment_stop, tagged_stop, comment_item, tagged_item}

blank_no_tag : is_blank 60 ≡ false
unfolding is_blank
blank_no_tag = refl

start_no_query : is_start 63 ≡ false
unfolding is_start
start_no_query = refl

decl_no_query : is_decl 63 ≡ false
unfolding is_decl
decl_no_query = refl

-- the blanks with which a text starts, and the comment or the root behind them
data Next : List ℕ → List ℕ → Type 0 where
  root : {u : List ℕ} → Next u u
  remark : {s t u : List ℕ} → Comment s t → Misc t u → Next s u

record Blanks (s u : List ℕ) : Type 0 where
  word : List ℕ
  rest : List ℕ
  run : Run is_blank word s rest
  next : Next rest u

blanks : {s u : List ℕ} → Misc s u → Blanks s u
blanks {s} Misc.none = record { word = []; rest = s; run = Run.none; next = Next.root }
blanks (Misc.blank {b} t x) = let y = blanks x in record { word = b ∷ y.word; rest = y.rest; run = Run.more t y.run; next = y.next }
blanks (Misc.remark {s} c x) = record { word = []; rest = s; run = Run.none; next = Next.remark c x }

-- a step of the search for the root u
data Ahead (f : List ℕ) (j : ℕ) (u : List ℕ) : Type 0 where
  here_root : Item.Child ≡ item_at f (past is_blank f j) → drop (past is_blank f j) f ≡ u → Ahead f j u
  here_remark : (m : ℕ) → Item.Remark m ≡ item_at f (past is_blank f j) → Misc (drop m f) u → Ahead f j u

module _ (f : List ℕ) (u : List ℕ) (g : Tagged u) where
  next_stop : {s : List ℕ} → Next s u → Tagged u → Stops is_blank s
  next_stop Next.root x = tagged_stop is_blank blank_no_tag x
  next_stop (Next.remark c y) x = comment_stop is_blank blank_no_tag c

  by_next : (j : ℕ) {s : List ℕ} → Next s u → Tagged u → drop (past is_blank f j) f ≡ s → Ahead f j u
  by_next j Next.root x e = Ahead.here_root (tagged_item f (past is_blank f j) x e) e
  by_next j (Next.remark c y) x e =
      let z = comment_item f (past is_blank f j) c e in
      Ahead.here_remark z.0 z.1 (subst (λ (l : List ℕ). Misc l u) (sym z.2) y)

  ahead_of : (j : ℕ) {s : List ℕ} → Misc s u → drop j f ≡ s → Ahead f j u
  ahead_of j x e = let y = blanks x in by_next j y.next g (run_law f j e y.run (next_stop y.next g)).at

  inner : (j : ℕ) → Ahead f j u → j < length f
  inner j (Ahead.here_root q e) = omega (arith, low_of is_blank f j (past is_blank f j) refl, item_from f (past is_blank f j) Item.Child q)
  inner j (Ahead.here_remark m q x) =
      let b = item_from f (past is_blank f j) (Item.Remark m) q in
      omega (arith, low_of is_blank f j (past is_blank f j) refl, b.0, b.1)

  misc_law : (n j : ℕ) → Misc (drop j f) u → length f < n + j → drop (misc_from f n j) f ≡ u
  misc_law zero j x h = absurd (omega (arith, inner j (ahead_of j x refl)))
  misc_law (suc n) j x h = by_ahead (ahead_of j x refl) (λ m y l. misc_law n m y l)
    where
      by_ahead : Ahead f j u → ((m : ℕ) → Misc (drop m f) u → length f < n + m → drop (misc_from f n m) f ≡ u)
          → drop (misc_from f (suc n) j) f ≡ u
      by_ahead (Ahead.here_root q e) k = ap (λ (m : ℕ). drop m f) (misc_other f n j Item.Child q tt) ∙ e
      by_ahead (Ahead.here_remark m q y) k =
          let b = item_from f (past is_blank f j) (Item.Remark m) q in
          ap (λ (m : ℕ). drop m f) (misc_remark f n j m q) ∙ k m y (omega (arith, low_of is_blank f j (past is_blank f j) refl, b.0))

  -- what stands around a root is no declaration
  no_prolog : {s : List ℕ} → Misc s u → Tagged u → f ≡ s → prolog_end f ≡ 0
  no_prolog Misc.none x e =
      let h = here f 0 (e ∙ x.is) in
      let b = x.name.byte in
      prolog_second f 60 (sym h.byte) b (sym (here f 1 (h.next ∙ x.name.is)).byte) refl
      (apart is_start b 63 x.name.start start_no_query)
  no_prolog (Misc.blank {b} t y) x e = prolog_first f b (sym (here f 0 e).byte) (apart is_blank b 60 t blank_no_tag)
  no_prolog (Misc.remark (Comment.comment c) y) x e =
      let h = here f 0 e in
      prolog_second f 60 (sym h.byte) 33 (sym (here f 1 h.next).byte) refl (λ q. omega arith)

  prolog_law : {s t : List ℕ} → Prolog s t → f ≡ s → Misc t u → drop (prolog_end f) f ≡ t
  unfolding is_decl
  prolog_law Prolog.none e x = ap (λ (k : ℕ). drop k f) (no_prolog x g e) ∙ e
  prolog_law (Prolog.declared {r = r} y) e x =
      let h = here f 0 e in
      let d = past is_decl f 2 in
      let p = run_law f 2 (on_two f 0 e) (Run.more refl (Run.more refl (Run.more refl y))) (stops is_decl 63 (62 ∷ r) decl_no_query) in
      let k = here f d p.at in
      ap (λ (m : ℕ). drop m f)
      (prolog_third f 60 (sym h.byte) 63 d (sym (here f 1 h.next).byte) refl refl refl
      ∙ ahead_in f d 2 (omega (arith, (here f (d + 1) k.next).inner)))
      ∙ on_two f d p.at

  pub root_is : {s : List ℕ} → Prolog f s → Misc s u → drop (root_at f) f ≡ u
  unfolding root_at
  root_is p x = misc_law (suc (length f)) (prolog_end f) (subst (λ (l : List ℕ). Misc l u) (sym (prolog_law p refl x)) x) (omega arith)
