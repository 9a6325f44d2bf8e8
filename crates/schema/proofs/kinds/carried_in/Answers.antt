-- `schema::kinds::carried_in` meets its contract.
use mathlib.Core.Path.{refl}
use mathlib.Core.List.{[], ◌∷◌, map}
use Rattle.text.specs.Texts.{bytes, same}
use Rattle.schema.specs.Schema.{one_of, parents, parent_in, under}
use Rattle.schema.specs.SchemaCode.{kind_count, names, name_in, kind_name}
use Rattle.lists.specs.Lists.{any}
use Rattle.lists.specs.BitsCode.{from, upto}
use Rattle.schema.proofs.Tables.{in_arm, in_rest}
use Rattle.schema.proofs.kinds.carried_in.Goals as goal

pub returns-in-0 : goal.returns-in-0
unfolding bytes same name_in names from any parents parent_in
returns-in-0 c = in_arm (λ k. map (λ j. one_of (under (name_in names k)).carried (kind_name j)) (upto 64)) _ (0 ∷ []) refl _ c.in-0.is

pub returns-in-1 : goal.returns-in-1
unfolding bytes same name_in names from any parents parent_in
returns-in-1 c = in_arm (λ k. map (λ j. one_of (under (name_in names k)).carried (kind_name j)) (upto 64)) _ (1 ∷ []) refl _ c.in-1.is

pub returns-in-3 : goal.returns-in-3
unfolding bytes same name_in names from any parents parent_in
returns-in-3 c = in_arm (λ k. map (λ j. one_of (under (name_in names k)).carried (kind_name j)) (upto 64)) _ (3 ∷ []) refl _ c.in-3.is

pub returns-in-5 : goal.returns-in-5
unfolding bytes same name_in names from any parents parent_in
returns-in-5 c = in_arm (λ k. map (λ j. one_of (under (name_in names k)).carried (kind_name j)) (upto 64)) _ (5 ∷ []) refl _ c.in-5.is

pub returns-in-7 : goal.returns-in-7
unfolding bytes same name_in names from any parents parent_in
returns-in-7 c = in_arm (λ k. map (λ j. one_of (under (name_in names k)).carried (kind_name j)) (upto 64)) _ (7 ∷ []) refl _ c.in-7.is

pub returns-in-8 : goal.returns-in-8
unfolding bytes same name_in names from any parents parent_in
returns-in-8 c = in_arm (λ k. map (λ j. one_of (under (name_in names k)).carried (kind_name j)) (upto 64)) _ (8 ∷ []) refl _ c.in-8.is

pub returns-in-13 : goal.returns-in-13
unfolding bytes same name_in names from any parents parent_in
returns-in-13 c = in_arm (λ k. map (λ j. one_of (under (name_in names k)).carried (kind_name j)) (upto 64)) _ (13 ∷ []) refl _ c.in-13.is

pub returns-in-14 : goal.returns-in-14
unfolding bytes same name_in names from any parents parent_in
returns-in-14 c = in_arm (λ k. map (λ j. one_of (under (name_in names k)).carried (kind_name j)) (upto 64)) _ (14 ∷ []) refl _ c.in-14.is

pub returns-in-16 : goal.returns-in-16
unfolding bytes same name_in names from any parents parent_in
returns-in-16 c = in_arm (λ k. map (λ j. one_of (under (name_in names k)).carried (kind_name j)) (upto 64)) _ (16 ∷ []) refl _ c.in-16.is

pub returns-in-20 : goal.returns-in-20
unfolding bytes same name_in names from any parents parent_in
returns-in-20 c = in_arm (λ k. map (λ j. one_of (under (name_in names k)).carried (kind_name j)) (upto 64)) _ (20 ∷ []) refl _ c.in-20.is

pub returns-in-21 : goal.returns-in-21
unfolding bytes same name_in names from any parents parent_in
returns-in-21 c = in_arm (λ k. map (λ j. one_of (under (name_in names k)).carried (kind_name j)) (upto 64)) _ (21 ∷ []) refl _ c.in-21.is

pub returns-in-22 : goal.returns-in-22
unfolding bytes same name_in names from any parents parent_in
returns-in-22 c = in_arm (λ k. map (λ j. one_of (under (name_in names k)).carried (kind_name j)) (upto 64)) _ (22 ∷ []) refl _ c.in-22.is

pub returns-in_default : goal.returns-in_default
unfolding bytes same name_in names from any parents parent_in
returns-in_default c = in_rest names kind_count refl (λ n. map (λ j. one_of (under n).carried (kind_name j)) (upto 64)) _ ((22 ∷ []) ∷ (21 ∷ []) ∷ (20 ∷ []) ∷ (16 ∷ []) ∷ (14 ∷ []) ∷ (13 ∷ []) ∷ (8 ∷ []) ∷ (7 ∷ []) ∷ (5 ∷ []) ∷ (3 ∷ []) ∷ (1 ∷ []) ∷ (0 ∷ []) ∷ []) refl refl _ c.in_default.in_default-own.rest
