-- `schema::attributes::all_of` meets its contract.
use mathlib.Core.Path.{refl}
use mathlib.Core.List.{[], ◌∷◌, map}
use mathlib.Core.Bool.{not}
use Rattle.text.specs.Texts.{bytes, same}
use Rattle.schema.specs.Schema.{elements, rules_in, rules_of}
use Rattle.schema.specs.SchemaCode.{kind_count, attribute_count, names, attributes, name_in, attribute_name, knows, is_ruled}
use Rattle.lists.specs.Lists.{any}
use Rattle.lists.specs.BitsCode.{from, upto}
use Rattle.schema.proofs.Tables.{in_arm, in_rest}
use Rattle.schema.proofs.attributes.all_of.Goals as goal

pub returns-in-4 : goal.returns-in-4
unfolding bytes same name_in names from any elements rules_in knows is_ruled attributes
returns-in-4 c = (
  in_arm (λ k. map (λ a. knows (rules_of (name_in names k)) (attribute_name a)) (upto attribute_count)) _ (4 ∷ []) refl _ c.in-4.is,
  in_arm (λ k. not (is_ruled (name_in names k))) _ (4 ∷ []) refl _ c.in-4.is,
)

pub returns-in-6 : goal.returns-in-6
unfolding bytes same name_in names from any elements rules_in knows is_ruled attributes
returns-in-6 c = (
  in_arm (λ k. map (λ a. knows (rules_of (name_in names k)) (attribute_name a)) (upto attribute_count)) _ (6 ∷ []) refl _ c.in-6.is,
  in_arm (λ k. not (is_ruled (name_in names k))) _ (6 ∷ []) refl _ c.in-6.is,
)

pub returns-in-9 : goal.returns-in-9
unfolding bytes same name_in names from any elements rules_in knows is_ruled attributes
returns-in-9 c = (
  in_arm (λ k. map (λ a. knows (rules_of (name_in names k)) (attribute_name a)) (upto attribute_count)) _ (9 ∷ []) refl _ c.in-9.is,
  in_arm (λ k. not (is_ruled (name_in names k))) _ (9 ∷ []) refl _ c.in-9.is,
)

pub returns-in-10 : goal.returns-in-10
unfolding bytes same name_in names from any elements rules_in knows is_ruled attributes
returns-in-10 c = (
  in_arm (λ k. map (λ a. knows (rules_of (name_in names k)) (attribute_name a)) (upto attribute_count)) _ (10 ∷ []) refl _ c.in-10.is,
  in_arm (λ k. not (is_ruled (name_in names k))) _ (10 ∷ []) refl _ c.in-10.is,
)

pub returns-in-11 : goal.returns-in-11
unfolding bytes same name_in names from any elements rules_in knows is_ruled attributes
returns-in-11 c = (
  in_arm (λ k. map (λ a. knows (rules_of (name_in names k)) (attribute_name a)) (upto attribute_count)) _ (11 ∷ []) refl _ c.in-11.is,
  in_arm (λ k. not (is_ruled (name_in names k))) _ (11 ∷ []) refl _ c.in-11.is,
)

pub returns-in-12 : goal.returns-in-12
unfolding bytes same name_in names from any elements rules_in knows is_ruled attributes
returns-in-12 c = (
  in_arm (λ k. map (λ a. knows (rules_of (name_in names k)) (attribute_name a)) (upto attribute_count)) _ (12 ∷ []) refl _ c.in-12.is,
  in_arm (λ k. not (is_ruled (name_in names k))) _ (12 ∷ []) refl _ c.in-12.is,
)

pub returns-in-14 : goal.returns-in-14
unfolding bytes same name_in names from any elements rules_in knows is_ruled attributes
returns-in-14 c = (
  in_arm (λ k. map (λ a. knows (rules_of (name_in names k)) (attribute_name a)) (upto attribute_count)) _ (14 ∷ []) refl _ c.in-14.is,
  in_arm (λ k. not (is_ruled (name_in names k))) _ (14 ∷ []) refl _ c.in-14.is,
)

pub returns-in-21 : goal.returns-in-21
unfolding bytes same name_in names from any elements rules_in knows is_ruled attributes
returns-in-21 c = (
  in_arm (λ k. map (λ a. knows (rules_of (name_in names k)) (attribute_name a)) (upto attribute_count)) _ (21 ∷ []) refl _ c.in-21.is,
  in_arm (λ k. not (is_ruled (name_in names k))) _ (21 ∷ []) refl _ c.in-21.is,
)

pub returns-in-22 : goal.returns-in-22
unfolding bytes same name_in names from any elements rules_in knows is_ruled attributes
returns-in-22 c = (
  in_arm (λ k. map (λ a. knows (rules_of (name_in names k)) (attribute_name a)) (upto attribute_count)) _ (22 ∷ []) refl _ c.in-22.is,
  in_arm (λ k. not (is_ruled (name_in names k))) _ (22 ∷ []) refl _ c.in-22.is,
)

pub returns-in_default : goal.returns-in_default
unfolding bytes same name_in names from any elements rules_in knows is_ruled attributes
returns-in_default c = (
  in_rest names kind_count refl (λ n. map (λ a. knows (rules_of n) (attribute_name a)) (upto attribute_count)) _ ((22 ∷ []) ∷ (21 ∷ []) ∷ (14 ∷ []) ∷ (12 ∷ []) ∷ (11 ∷ []) ∷ (10 ∷ []) ∷ (9 ∷ []) ∷ (6 ∷ []) ∷ (4 ∷ []) ∷ []) refl refl _ c.in_default.in_default-own.rest,
  in_rest names kind_count refl (λ n. not (is_ruled n)) _ ((22 ∷ []) ∷ (21 ∷ []) ∷ (14 ∷ []) ∷ (12 ∷ []) ∷ (11 ∷ []) ∷ (10 ∷ []) ∷ (9 ∷ []) ∷ (6 ∷ []) ∷ (4 ∷ []) ∷ []) refl refl _ c.in_default.in_default-own.rest,
)
