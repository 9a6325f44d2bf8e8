-- `xml::rest` meets its contract.
use Rattle.std.specs.Prelude.{Ok}
use Rattle.shape.proofs.Files.{lt_after}
use Rattle.shape.proofs.Run.{at_end}
use Rattle.shape.proofs.Steps.{handed_on}
use Rattle.shape.specs.MachineCode.{idle, after}
use Rattle.shape.specs.ReadsCode.{Outside}
use Rattle.shape.specs.declared.Outer.TheVariants.{End, Lt}
use mathlib.Core.Bool.{false}
use mathlib.Core.Path.{◌∙◌}
use Rattle.xml.proofs.rest.Goals as goal

pub returns-in_err-misc : goal.returns-in_err-misc
returns-in_err-misc c = rw (handed_on c.from_residual.result c.from_residual.ensures.1) (c.in_err-misc.ensures.run false)

pub returns-in-End : goal.returns-in-End
returns-in-End c = let y : Outside c.args.file.now c.args.from (Ok (End c.in-End.field-0)) = rw c.in-End.is at c.in_ok-misc.ensures in y.run false ∙ at_end (idle after) c.args.file.now c.in-End.field-0 y.found

pub returns-in-Lt : goal.returns-in-Lt
returns-in-Lt c = let y : Outside c.args.file.now c.args.from (Ok (Lt c.in-Lt.p)) = rw c.in-Lt.is at c.in_ok-misc.ensures in y.run false ∙ lt_after c.args.file.now c.in-Lt.p y.found
