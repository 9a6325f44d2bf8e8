-- `element::faults::is_worded` meets its contract.
use mathlib.Core.Path.{refl}
use mathlib.Core.List.{[], ◌∷◌}
use mathlib.Core.Bool.{◌||◌}
use Rattle.text.specs.Texts.{bytes, same}
use Rattle.lists.specs.Lists.{any}
use Rattle.lists.specs.BitsCode.{from}
use Rattle.schema.specs.SchemaCode.{kind_count, names, name_in}
use Rattle.schema.proofs.Tables.{in_arm, in_rest}
use Rattle.element.specs.ElementCode.{worded}
use Rattle.element.proofs.faults.is_worded.Goals as goal

pub returns-in-2 : goal.returns-in-2
unfolding worded bytes same name_in names from any
returns-in-2 c = in_arm worded _ (2 ∷ 15 ∷ 23 ∷ []) refl _ c.in-2.is

pub returns-in_default : goal.returns-in_default
unfolding worded bytes same name_in names from any
returns-in_default c = in_rest names kind_count refl (λ n. same n (bytes "VERSION") || same n (bytes "CHANNEL") || same n (bytes "EXPRESSION")) _ ((2 ∷ 15 ∷ 23 ∷ []) ∷ []) refl refl _ c.in_default.in_default-own.rest
