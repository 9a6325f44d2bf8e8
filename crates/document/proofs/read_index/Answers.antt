-- `document::read_index` meets its contract.
use borrow.Author.Rules.{rules}
use mathlib.Core.Path.{subst}
use Rattle.shape.specs.Shape.{Shaped}
use Rattle.std.specs.Prelude.{Err}
use Rattle.file_rules.specs.declared.Breach.TheVariants.{Long, Shapeless}
use Rattle.file_rules.specs.RefusalCode.{breach_at}
use Rattle.document.specs.DocumentCode.{indexed}
use Rattle.document.proofs.Laws.{indexes_whole, indexes_long, indexes_broken}
use Rattle.document.proofs.read_index.Goals as goal

pub index_whole-requires : goal.index_whole-requires
index_whole-requires c = (subst (Shaped c.args.file.now) c.in-Ok.is c.read_shape.ensures, search rules)

pub returns-in-Err-TooLong : goal.returns-in-Err-TooLong
returns-in-Err-TooLong c = record { index = Err (breach_at Long 32768); indexes = indexes_long c.args.file.now (subst (λ u. Shaped c.args.file.now (Err u)) c.in-Err-TooLong.field-0-is c.in-Err-TooLong.ensures); holds = c.refusal.ensures }

pub returns-in-Err-Broken : goal.returns-in-Err-Broken
returns-in-Err-Broken c = record { index = Err (breach_at Shapeless _); indexes = indexes_broken c.args.file.now _ (subst (λ u. Shaped c.args.file.now (Err u)) c.in-Err-Broken.field-0-is c.in-Err-Broken.ensures); holds = c.refusal-in-Err-Broken.ensures }

pub returns-in-Ok : goal.returns-in-Ok
returns-in-Ok c = record { index = indexed c.args.file.now; indexes = indexes_whole c.args.file.now (subst (Shaped c.args.file.now) c.in-Ok.is c.read_shape.ensures); holds = c.index_whole.ensures }
