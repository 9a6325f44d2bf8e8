-- `schema::attributes::is_ruled` meets its contract.
use mathlib.Core.Path.{ap, ◌∙◌}
use mathlib.Core.Bool.{not, not-not}
use Rattle.schema.proofs.attributes.is_ruled.Goals as goal

pub returns : goal.returns
returns c = ap not c.all_of.ensures.1 ∙ not-not _
