-- What one attribute makes of what is gathered, by its number.
use Prim.Native.Nat.{ℕ, ◌<◌}
use native.Mathlib.Omega.{arith}
use mathlib.Core.Path.{◌≡◌, refl, sym, ap, ◌∙◌}
use mathlib.Core.List.{List, [], ◌∷◌}
use mathlib.Core.Bool.{Bool, true, false, cond}
use lib.Dec.{ltb}
use borrow.Author.Tests.{lt-ltb}
use Rattle.text.specs.Texts.{bytes, same}
use Rattle.lists.specs.BitsCode.{has_bit, with_bit}
use Rattle.lists.proofs.Cases.{by_cases}
use Rattle.values.specs.declared.Sort.{Sort}
use Rattle.std.specs.Prelude.{Result, Some, None}
use Rattle.std.specs.Option.{unwrap_or}
use Rattle.std.proofs.lemmas.Option.{none-some}
use Rattle.values.specs.declared.Unfit.{Unfit}
use Rattle.values.specs.Values.{worth_of}
use Rattle.shape.specs.Shape.{Attribute}
use Rattle.schema.specs.Schema.{Rule}
use Rattle.schema.specs.SchemaCode.{attribute_count, kind_name, attribute_name, attribute_of, knows, attribute_in, sort_in, sort_of}
use Rattle.schema.proofs.Laws.{listed, number_low, number_back, one_sort}
use Rattle.file_rules.specs.Element.{worth_by}
use Rattle.element.specs.declared.Gathered.{Gathered}
use Rattle.element.specs.ElementCode.{rules_for, put_worth, unfitted, judged}

module _ (rs : List Rule) (g : Gathered) (a : Attribute) where
  pub judged_fit : knows rs a.name ≡ true → has_bit g.has (attribute_of a.name) ≡ false
      → judged rs g a ≡ put_worth g (attribute_of a.name) (worth_by rs a)
  unfolding judged
  judged_fit t h = rw (t, h)

  pub judged_again : knows rs a.name ≡ true → has_bit g.has (attribute_of a.name) ≡ true → judged rs g a ≡ unfitted g
  unfolding judged
  judged_again t h = rw (t, h)

  pub judged_unknown : knows rs a.name ≡ false → judged rs g a ≡ unfitted g
  unfolding judged
  judged_unknown t = rw t

-- a value is worth what its rule says
pub worth_by_lem : (rs : List Rule) (n v : List ℕ) → worth_by rs (record { name = n; value = v }) ≡ worth_of (sort_in rs n) v
unfolding worth_by sort_in worth_of
worth_by_lem [] n v = refl
worth_by_lem (r ∷ rs) n v = by_cases (same n (bytes r.name)) (λ t. rw t) (λ t. rw t (worth_by_lem rs n v))

-- an attribute's number fits into the set
pub put_bit : (a h r : ℕ) → a < attribute_count → r ≡ cond (ltb a 64) (with_bit h a) h → r ≡ with_bit h a
put_bit a h r l e = e ∙ ap (λ (b : Bool). cond b (with_bit h a) h) (lt-ltb a 64 (omega arith))

-- the code's way: the attribute's number first, if the element has it
module _ (kind : ℕ) (g : Gathered) (n v : List ℕ) where
  abbrev here : Attribute
  here = record { name = n; value = v }

  pub judge_unknown : None ≡ attribute_in kind n → unfitted g ≡ judged (rules_for kind) g here
  unfolding attribute_in
  judge_unknown q =
      by_cases (knows (rules_for kind) n) (λ t. absurd (none-some _ (rw t at q))) (λ t. sym (judged_unknown (rules_for kind) g here t))

  module _ (a : ℕ) (q : Some a ≡ attribute_in kind n) where
    known : knows (rules_for kind) n ≡ true
    unfolding attribute_in
    known = by_cases (knows (rules_for kind) n) (λ t. t) (λ t. absurd (none-some a (sym (rw t at q))))

    number : a ≡ attribute_of n
    unfolding attribute_in
    number = ap (λ r. unwrap_or r 0) (rw known at q)

    pub known_low : a < attribute_count
    known_low = rw number (number_low n (listed (kind_name kind) n known))

    -- its rule asks for what every rule of that attribute does
    own_sort : sort_of (attribute_name a) ≡ sort_in (rules_for kind) n
    own_sort =
        ap sort_of (ap attribute_name number ∙ number_back n (listed (kind_name kind) n known)) ∙ sym (one_sort (kind_name kind) n known)

    module _ (b : Bool) (e : b ≡ has_bit g.has a) where
      held : b ≡ has_bit g.has (attribute_of n)
      held = e ∙ ap (has_bit g.has) number

      pub judge_again : b ≡ true → unfitted g ≡ judged (rules_for kind) g here
      judge_again t = sym (judged_again (rules_for kind) g here known (sym held ∙ t))

      pub judge_fit : b ≡ false → (s : Sort) (w : Result ℕ Unfit) → s ≡ sort_of (attribute_name a) → w ≡ worth_of s v
          → put_worth g a w ≡ judged (rules_for kind) g here
      judge_fit t s w x y =
          sym (judged_fit (rules_for kind) g here known (sym held ∙ t)
          ∙ (ap (λ (i : ℕ). put_worth g i (worth_by (rules_for kind) here)) (sym number)
          ∙ ap (put_worth g a) (worth_by_lem (rules_for kind) n v ∙ (ap (λ (z : Sort). worth_of z v) (sym (x ∙ own_sort)) ∙ sym y))))
