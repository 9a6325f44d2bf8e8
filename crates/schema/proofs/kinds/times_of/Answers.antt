-- `schema::kinds::times_of` meets its contract.
use mathlib.Core.Path.{refl}
use mathlib.Core.List.{[], ◌∷◌}
use Rattle.text.specs.Texts.{bytes, same}
use Rattle.schema.specs.Schema.{parents, parent_in, under}
use Rattle.schema.specs.SchemaCode.{kind_count, names, name_in}
use Rattle.lists.specs.Lists.{any}
use Rattle.lists.specs.BitsCode.{from}
use Rattle.schema.proofs.Tables.{in_rest}
use Rattle.schema.proofs.kinds.times_of.Goals as goal

pub returns-in_default : goal.returns-in_default
unfolding bytes same name_in names from any parents parent_in
returns-in_default c = in_rest names kind_count refl (λ n. (under n).times) _ ((16 ∷ []) ∷ (13 ∷ []) ∷ (20 ∷ []) ∷ (8 ∷ []) ∷ (22 ∷ []) ∷ (21 ∷ []) ∷ (5 ∷ []) ∷ (14 ∷ []) ∷ (7 ∷ []) ∷ (3 ∷ []) ∷ (1 ∷ []) ∷ (0 ∷ []) ∷ []) refl refl _ c.in_default.in_default-own.rest
