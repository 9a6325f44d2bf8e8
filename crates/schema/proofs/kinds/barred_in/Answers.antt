-- `schema::kinds::barred_in` meets its contract.
use mathlib.Core.Path.{refl}
use mathlib.Core.List.{[], ◌∷◌, map}
use Rattle.text.specs.Texts.{bytes, same}
use Rattle.schema.specs.Schema.{one_of, parents, parent_in, under}
use Rattle.schema.specs.SchemaCode.{kind_count, names, name_in, kind_name}
use Rattle.lists.specs.Lists.{any}
use Rattle.lists.specs.BitsCode.{from, upto}
use Rattle.schema.proofs.Tables.{in_arm, in_rest}
use Rattle.schema.proofs.kinds.barred_in.Goals as goal

pub returns-in-5 : goal.returns-in-5
unfolding bytes same name_in names from any parents parent_in
returns-in-5 c = in_arm (λ k. map (λ j. one_of (under (name_in names k)).barred (kind_name j)) (upto kind_count)) _ (5 ∷ []) refl _ c.in-5.is

pub returns-in-8 : goal.returns-in-8
unfolding bytes same name_in names from any parents parent_in
returns-in-8 c = in_arm (λ k. map (λ j. one_of (under (name_in names k)).barred (kind_name j)) (upto kind_count)) _ (8 ∷ []) refl _ c.in-8.is

pub returns-in-16 : goal.returns-in-16
unfolding bytes same name_in names from any parents parent_in
returns-in-16 c = in_arm (λ k. map (λ j. one_of (under (name_in names k)).barred (kind_name j)) (upto kind_count)) _ (16 ∷ []) refl _ c.in-16.is

pub returns-in-20 : goal.returns-in-20
unfolding bytes same name_in names from any parents parent_in
returns-in-20 c = in_arm (λ k. map (λ j. one_of (under (name_in names k)).barred (kind_name j)) (upto kind_count)) _ (20 ∷ []) refl _ c.in-20.is

pub returns-in_default : goal.returns-in_default
unfolding bytes same name_in names from any parents parent_in
returns-in_default c = in_rest names kind_count refl (λ n. map (λ j. one_of (under n).barred (kind_name j)) (upto kind_count)) _ ((20 ∷ []) ∷ (16 ∷ []) ∷ (8 ∷ []) ∷ (5 ∷ []) ∷ []) refl refl _ c.in_default.in_default-own.rest
