-- `element::fields::version_said` meets its contract.
use mathlib.Core.Path.{refl}
use Rattle.text.specs.Texts.{bytes}
use Rattle.element.proofs.fields.version_said.Goals as goal

pub returns : goal.returns
unfolding bytes
returns c = rw (c.then_some.ensures, c.same_text.ensures) refl
