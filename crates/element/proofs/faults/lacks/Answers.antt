-- `element::faults::lacks` meets its contract.
use borrow.Author.Rules.{rules}
use mathlib.Core.Path.{refl}
use Rattle.text.specs.Texts.{bytes, same}
use Rattle.lists.proofs.BitLaws.{lacks_marked}
use Rattle.schema.specs.SchemaCode.{attributes, position_of, attribute_name, demands}
use Rattle.element.specs.ElementCode.{rules_for, lacks_required, unpaired, lacking}
use Rattle.element.proofs.faults.lacks.Goals as goal

pub returns : goal.returns
unfolding lacking lacks_required unpaired attributes position_of same bytes
returns c = rw (lacks_marked c.args.has _ (λ a. demands (rules_for c.args.kind) (attribute_name a)) c.musts_of-musts.ensures (search rules) _ c.has_all.ensures, c.has_bit-dlc.ensures, c.has_bit-least.ensures) refl
