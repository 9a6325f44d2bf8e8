-- Laws of `trimmed`, and turns of the loop that trims.
use Prim.Native.Nat.{ℕ, ◌+◌, ◌-◌, ◌≤◌}
use native.Mathlib.Omega.{arith}
use native.Mathlib.Nat.{add-zero}
use mathlib.Core.Path.{◌≡◌, refl, sym, ap, ◌∙◌}
use mathlib.Core.List.{List, [], ◌∷◌, ◌++◌}
use mathlib.Core.Bool.{true, false, cond, true≢false}
use mathlib.Core.Logic.{◌↔◌}
use lib.ListN.{length, get_or, take, drop, length-take, length-drop, length-append, drop_of_length-le}
use lib.Seq.{slice}
use Rattle.std.specs.List.{prefix_len}
use Rattle.std.specs.Prelude.{reverse}
use Rattle.std.proofs.lemmas.List.{reverse-append, reverse-reverse, length-reverse}
use Rattle.std.proofs.lemmas.List.Folds.{length-prefix_len}
use Rattle.text.specs.Kinds.{is_blank}
use Rattle.lists.proofs.Cases.{by_cases}
use Rattle.text.proofs.Spans.{drop_one, downward, span_more, span_here, span_end, high_of}
use Rattle.walk.specs.declared.Part.{Part}
use Rattle.shape.specs.Text.{clipped, cropped, trimmed}
use Rattle.walk.specs.WalkCode.{past, stray, trim_at}
use Rattle.shape.proofs.Slices.{slice_take}
use Rattle.walk.proofs.Strays.{stray_pass, stray_stop}

clip_pass : (b : ℕ) (s : List ℕ) → is_blank b ≡ true → clipped (b ∷ s) ≡ clipped s
unfolding clipped
clip_pass b s t = rw (t, clipped)

clip_stop : (b : ℕ) (s : List ℕ) → is_blank b ≡ false → clipped (b ∷ s) ≡ b ∷ s
unfolding clipped
clip_stop b s t = rw (t, clipped)

clip_none : clipped [] ≡ []
unfolding clipped
clip_none = refl

-- the blanks in front end where the span ends
clip_span : (f : List ℕ) (i : ℕ) → clipped (drop i f) ≡ drop (past is_blank f i) f
clip_span f = downward f (λ i. clipped (drop i f) ≡ drop (past is_blank f i) f)
    (λ i h. ap clipped (drop_of_length-le f h) ∙ clip_none
    ∙ sym (ap (λ (k : ℕ). drop k f) (span_end is_blank f i h) ∙ drop_of_length-le f h))
    (λ i h r. by_cases (is_blank (get_or f i 0))
    (λ t. ap clipped (drop_one f i h) ∙ clip_pass (get_or f i 0) (drop (i + 1) f) t ∙ r
    ∙ sym (ap (λ (k : ℕ). drop k f) (span_more is_blank f i h t)))
    (λ t. ap clipped (drop_one f i h) ∙ clip_stop (get_or f i 0) (drop (i + 1) f) t
    ∙ sym (ap (λ (k : ℕ). drop k f) (span_here is_blank f i h t) ∙ drop_one f i h)))

-- b, and what is kept behind it
abbrev keep : ℕ → List ℕ → List ℕ
keep b u = elim u [ [] ↦ cond (is_blank b) [] (b ∷ []) | c ∷ t ↦ b ∷ c ∷ t ]

crop_blank : (s : List ℕ) (b : ℕ) → is_blank b ≡ true → cropped (s ++ (b ∷ [])) ≡ cropped s
unfolding cropped
crop_blank [] b t = rw t
crop_blank (c ∷ s) b t = ap (keep c) (crop_blank s b t)

keep_more : (c : ℕ) (s : List ℕ) (b : ℕ) → keep c (s ++ (b ∷ [])) ≡ c ∷ (s ++ (b ∷ []))
keep_more c [] b = refl
keep_more c (d ∷ s) b = refl

crop_byte : (s : List ℕ) (b : ℕ) → is_blank b ≡ false → cropped (s ++ (b ∷ [])) ≡ s ++ (b ∷ [])
unfolding cropped
crop_byte [] b t = rw t
crop_byte (c ∷ s) b t = ap (keep c) (crop_byte s b t) ∙ keep_more c s b

crop_none : cropped [] ≡ []
unfolding cropped
crop_none = refl

-- what is kept is what the text starts with
crop_front : (s : List ℕ) → take (length (cropped s)) s ≡ cropped s
unfolding cropped
crop_front [] = refl
crop_front (b ∷ s) = by_kept (cropped s) (crop_front s)
  where
    by_kept : (u : List ℕ) → take (length u) s ≡ u → take (length (keep b u)) (b ∷ s) ≡ keep b u
    by_kept [] e = by_cases (is_blank b) (λ t. rw t) (λ t. rw t)
    by_kept (c ∷ u) e = ap (λ (l : List ℕ). b ∷ l) e

pub trim_front : (s : List ℕ) → trimmed s ≡ cropped (drop (past is_blank s 0) s)
unfolding trimmed
trim_front s = ap cropped (clip_span s 0)

trim_take : (s : List ℕ) → take (length (trimmed s)) (drop (past is_blank s 0) s) ≡ trimmed s
trim_take s = ap (λ (u : List ℕ). take (length u) (drop (past is_blank s 0) s)) (trim_front s) ∙ crop_front (drop (past is_blank s 0) s)
    ∙ sym (trim_front s)

-- the part that `trim` answers is the trimmed text
pub trim_law : (s : List ℕ) → slice (trim_at s).from (trim_at s).to s ≡ trimmed s
unfolding trim_at
trim_law s =
    let i = past is_blank s 0 in
    slice_take s i (length (trimmed s)) (high_of is_blank s 0 i refl (omega arith)) ∙ trim_take s

-- and it can be taken out of the text
pub trim_bounds : (s : List ℕ) → ((trim_at s).from ≤ (trim_at s).to) × ((trim_at s).to ≤ length s)
unfolding trim_at
trim_bounds s =
    let i = past is_blank s 0 in
    let n = length (trimmed s) in
    let h = high_of is_blank s 0 i refl (omega arith) in
    (omega arith, omega (arith, h, ap length (trim_take s), length-take n (drop i s), length-drop i s))

-- what is cropped are the blanks with which the text starts, read from its end
crop_long : (r : List ℕ) → length (cropped (reverse r)) + prefix_len is_blank r ≡ length r
unfolding cropped
crop_long [] = add-zero 0
crop_long (b ∷ r) =
    let q : reverse (b ∷ r) ≡ reverse r ++ (b ∷ []) = reverse-append (b ∷ []) r in
    by_cases (is_blank b)
    (λ t. rw (q, crop_blank (reverse r) b t, t) (omega (arith, crop_long r)))
    (λ t. rw (q, crop_byte (reverse r) b t, t) (omega (arith, length-append (reverse r) (b ∷ []), length-reverse r)))

module _ (s : List ℕ) (i n : ℕ) (first : i ≡ past is_blank s 0)
    (count : n ≡ length (take (prefix_len is_blank (reverse (drop i s))) (reverse (drop i s)))) where
  blanks_are : length (trimmed s) + n ≡ length s - i
  blanks_are =
      let r = reverse (drop i s) in
      let e : cropped (reverse r) ≡ trimmed s = ap cropped (reverse-reverse (drop i s)) ∙ ap (λ (k : ℕ). cropped (drop k s)) first
      ∙ sym (trim_front s) in
      omega (arith, crop_long r, ap length e, count, length-prefix_len is_blank r, length-reverse (drop i s), length-drop i s)

  pub trim_room : n ≤ length s
  trim_room = omega (arith, blanks_are)

  pub trim_is : record { from = i; to = length s - n } ≡ trim_at s
  unfolding trim_at
  trim_is =
      let h = high_of is_blank s 0 i first (omega arith) in
      let q : length s - n ≡ i + length (trimmed s) = omega (arith, blanks_are, h) in
      rw (← first) (ap (λ (k : ℕ). let p : Part = record { from = i; to = k } in p) q)

crop_cons : (b : ℕ) (s : List ℕ) → keep b (cropped s) ≡ cropped (b ∷ s)
unfolding cropped
crop_cons b s = refl

keep_byte : (b : ℕ) (s : List ℕ) → is_blank b ≡ false → keep b s ≡ [] → ⊥
keep_byte b [] t e = let q : b ∷ [] ≡ [] = rw t at e in let z : ◌≡◌ {A = ℕ} 0 1 = cc in omega arith
keep_byte b (c ∷ s) t e = let z : ◌≡◌ {A = ℕ} 0 1 = cc in omega arith

-- no byte but blanks: the trimmed text is empty, and only then
pub stray_none : (s : List ℕ) → (stray s ≡ false) ↔ (trimmed s ≡ [])
unfolding trimmed stray
stray_none [] = (λ e. ap cropped clip_none ∙ crop_none, λ e. refl)
stray_none (b ∷ s) =
    by_cases (is_blank b)
    (λ t. let r = stray_none s in (
      λ e. ap cropped (clip_pass b s t) ∙ r.0 (sym (stray_pass b s t) ∙ e),
      λ e. stray_pass b s t
          ∙ r.1 (sym (ap cropped (clip_pass b s t)) ∙ e),
    ))
    (λ t. (
      λ e. absurd (true≢false (sym (stray_stop b s t) ∙ e)),
      λ e.
          absurd (keep_byte b (cropped s) t (crop_cons b s ∙ sym (ap cropped (clip_stop b s t)) ∙ e)),
    ))
