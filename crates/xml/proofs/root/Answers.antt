-- `xml::root` meets its contract.
use Rattle.std.specs.Prelude.{Ok}
use Rattle.shape.proofs.Files.{root_start, root_bad}
use Rattle.shape.proofs.Run.{at_end}
use Rattle.shape.proofs.Steps.{handed_on}
use Rattle.shape.specs.MachineCode.{idle, lt, before}
use Rattle.shape.specs.ReadsCode.{Outside}
use Rattle.shape.specs.declared.Outer.TheVariants.{End, Lt}
use mathlib.Core.Bool.{true}
use mathlib.Core.Path.{refl, sym, ◌∙◌}
use Rattle.xml.proofs.root.Goals.{else-name-file-via-then-name-file+else-is_start, else-name-file-via-else-name-file}
use Rattle.xml.proofs.root.Goals as goal

pub returns-in_err-p : goal.returns-in_err-p
returns-in_err-p c = rw (handed_on c.from_residual.result c.from_residual.ensures.1) (c.in_err-p.ensures.run true)

pub returns-in-End : goal.returns-in-End
returns-in-End c = let y : Outside c.args.file.now c.args.from (Ok (End c.in-End.p)) = rw c.in-End.is at c.in_ok-p.ensures in y.run true ∙ at_end (idle before) c.args.file.now c.in-End.p y.found

pub returns-then-is_start : goal.returns-then-is_start
returns-then-is_start c = let y : Outside c.args.file.now c.args.from (Ok (Lt c.in-Lt.name)) = rw c.in-Lt.is at c.in_ok-p.ensures in y.run true ∙ root_start c.args.file.now c.in-Lt.name c.if-name-file.true (sym c.is_start.ensures ∙ c.if-is_start.true) ∙ c.element.ensures.run _ refl

pub returns : goal.returns
returns c = let s = c.args.file.now in let y : Outside s c.args.from (Ok (Lt c.in-Lt.name)) = rw c.in-Lt.is at c.in_ok-p.ensures in y.run true ∙ elim c.else-name-file.branch [ else-name-file-via-then-name-file+else-is_start w ↦ root_bad s c.in-Lt.name w.if-name-file.true (y.found w.if-name-file.true) (sym w.is_start.ensures ∙ w.if-is_start.false) | else-name-file-via-else-name-file w ↦ at_end (lt before) s c.in-Lt.name w.if-name-file.false ]
