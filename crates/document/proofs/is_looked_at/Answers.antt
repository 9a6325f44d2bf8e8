-- `document::is_looked_at` meets its contract.
use Rattle.document.specs.DocumentCode.{looked, found}
use mathlib.Core.Path.{ap}
use mathlib.Core.Bool.{◌&&◌, ◌||◌}
use Rattle.schema.specs.SchemaCode.{kind_name, is_carried, is_barred}
use Rattle.document.proofs.Entries.{index_ok}
use Rattle.document.proofs.is_looked_at.Goals as goal

pub returns : goal.returns
unfolding looked found
returns c = λ ms. rw (c.is_ok.ensures.value, c.is_carried.ensures, c.is_barred.ensures) (ap (λ b. b && (is_carried (kind_name c.args.kind) || is_barred (kind_name c.args.kind))) (index_ok c.args.walk.end ms))
