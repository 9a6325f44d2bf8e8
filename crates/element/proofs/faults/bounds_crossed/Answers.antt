-- `element::faults::bounds_crossed` meets its contract.
use mathlib.Core.Path.{refl}
use Rattle.text.specs.Texts.{bytes, same}
use Rattle.schema.specs.SchemaCode.{attributes, position_of}
use Rattle.element.specs.ElementCode.{bounds_crossed}
use Rattle.element.proofs.faults.bounds_crossed.Goals as goal

pub returns : goal.returns
unfolding bounds_crossed attributes position_of same bytes
returns c = rw c.has_bit-told.ensures refl
