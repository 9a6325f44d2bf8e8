-- Which required attributes lack, from the numbers that are there.
use Prim.Native.Nat.{ℕ, ◌<◌}
use native.Mathlib.Omega.{arith}
use mathlib.Core.Path.{◌≡◌, refl, sym, ap, ◌∙◌}
use mathlib.Core.List.{List, [], ◌∷◌}
use mathlib.Core.Bool.{Bool, true, false, not, ◌&&◌, true≢false}
use borrow.Author.Tests.{not-true}
use Rattle.text.specs.Texts.{bytes, same}
use Rattle.text.proofs.Equal.{same_self, same_equal}
use Rattle.lists.specs.Lists.{any}
use Rattle.lists.specs.BitsCode.{upto, has_bit}
use Rattle.lists.proofs.Cases.{by_cases, le_or_lt}
use Rattle.lists.proofs.Parts.{and_left, and_right, or_second, agree}
use Rattle.lists.proofs.BitLaws.{any_upto_found, any_upto_back}
use Rattle.schema.specs.Schema.{Rule, one_of}
use Rattle.schema.specs.SchemaCode.{attributes, attribute_count, attribute_name, attribute_of, knows, demands}
use Rattle.schema.proofs.Laws.{Listed, number_low, number_back, number_own}
use Rattle.schema.proofs.Tables.{past_last}
use Rattle.element.specs.ElementCode.{lacks_required}

-- a rule requires its attribute, which is not there
abbrev pub lacks_by : (List ℕ → Bool) → List Rule → Bool
lacks_by got rs = any (λ r. r.required && not (got (bytes r.name))) rs

module _ (got : List ℕ → Bool) where
  demand_found : (rs : List Rule) → lacks_by got rs ≡ true → (n : List ℕ) × (demands rs n ≡ true) × (got n ≡ false)
  unfolding any demands
  demand_found [] e = absurd (true≢false (sym e))
  demand_found (r ∷ rs) e =
      let n = bytes r.name in
      by_cases (r.required && not (got n))
      (λ t. (n, rw (and_left r.required _ t, same_self n), not-true (got n) (and_right r.required _ t)))
      (λ t.
      let w = demand_found rs (rw t at e) in (w.0, or_second (r.required && same w.0 n) (demands rs w.0) w.1, w.2))

  pub demand_back : (rs : List Rule) (n : List ℕ) → demands rs n ≡ true → got n ≡ false → lacks_by got rs ≡ true
  unfolding any demands
  demand_back [] n d g = absurd (true≢false (sym d))
  demand_back (r ∷ rs) n d g =
      by_cases (r.required && same n (bytes r.name))
      (λ t.
      let w : got (bytes r.name) ≡ false =
      ap got (sym (same_equal n (bytes r.name) (and_right r.required (same n (bytes r.name)) t))) ∙ g in
      rw (and_left r.required _ t, w))
      (λ t. or_second (r.required && not (got (bytes r.name))) (lacks_by got rs) (demand_back rs n (rw t at d) g))

demands_known : (rs : List Rule) (n : List ℕ) → demands rs n ≡ true → knows rs n ≡ true
unfolding any demands knows
demands_known [] n d = d
demands_known (r ∷ rs) n d =
    by_cases (r.required && same n (bytes r.name))
    (λ t. rw (and_right r.required (same n (bytes r.name)) t))
    (λ t. or_second (same n (bytes r.name)) (knows rs n) (demands_known rs n (rw t at d)))

-- behind the last number there is no name
listed_low : (a : ℕ) → Listed (attribute_name a) → a < attribute_count
unfolding attributes any same bytes
listed_low a o =
    le_or_lt attribute_count a
    (λ h. absurd (true≢false (sym o ∙ sym (past_last attributes attribute_count refl (one_of attributes) false refl a h)))) (λ h. h)

-- h holds at the number of each listed name what `got` says of it
pub lacks_is : (rs : List Rule) (lists : (n : List ℕ) → knows rs n ≡ true → Listed n) (got : List ℕ → Bool) (h : ℕ)
    → ((n : List ℕ) → Listed n → has_bit h (attribute_of n) ≡ got n) → lacks_by got rs ≡ lacks_required rs h
unfolding lacks_required
lacks_is rs lists got h e =
    agree (lacks_by got rs) (any lack (upto 64))
    (λ t.
    let w = demand_found got rs t in
    let o = lists w.0 (demands_known rs w.0 w.1) in
    any_upto_back lack 64 (attribute_of w.0) (omega (arith, number_low w.0 o)) (rw (number_back w.0 o, w.1, e w.0 o, w.2)))
    (λ t.
    let w = any_upto_found lack 64 t in
    let n = attribute_name w.0 in
    let d = and_left (demands rs n) _ w.2 in
    let o = lists n (demands_known rs n d) in
    demand_back got rs n d
    (sym (e n o) ∙ (ap (has_bit h) (number_own w.0 (listed_low w.0 o)) ∙ not-true _ (and_right (demands rs n) _ w.2))))
  where
    lack : ℕ → Bool
    lack a = demands rs (attribute_name a) && not (has_bit h a)
