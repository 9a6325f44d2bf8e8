-- `element::fields::read_text` meets its contract.
use mathlib.Core.Path.{refl, ap, ◌∙◌}
use mathlib.Core.List.{[], ◌∷◌}
use mathlib.Core.Bool.{false}
use Rattle.text.specs.Texts.{bytes, same}
use Rattle.lists.specs.Lists.{any}
use Rattle.lists.specs.BitsCode.{from}
use Rattle.schema.specs.SchemaCode.{kind_count, names, name_in}
use Rattle.schema.proofs.Tables.{in_rest}
use Rattle.element.specs.ElementCode.{version_said, channel_said, said}
use Rattle.element.proofs.fields.read_text.Goals as goal

pub returns-in-2 : goal.returns-in-2
unfolding said name_in names bytes same
returns-in-2 c = rw c.in-2.is (c.text_as.ensures.1 ∙ ap version_said c.text_as.ensures.2)

pub returns-in-23 : goal.returns-in-23
unfolding said name_in names bytes same
returns-in-23 c = rw c.in-23.is (c.text_as-in-23.ensures.1 ∙ ap channel_said c.text_as-in-23.ensures.2)

pub returns-in_default : goal.returns-in_default
unfolding said name_in names bytes same any from
returns-in_default c = rw (← in_rest names kind_count refl (λ n. same n (bytes "VERSION")) false ((23 ∷ []) ∷ (2 ∷ []) ∷ []) refl refl _ c.in_default.in_default-own.rest, ← in_rest names kind_count refl (λ n. same n (bytes "CHANNEL")) false ((23 ∷ []) ∷ (2 ∷ []) ∷ []) refl refl _ c.in_default.in_default-own.rest)
