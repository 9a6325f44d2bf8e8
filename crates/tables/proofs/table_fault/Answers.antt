-- `tables::table_fault` meets its contract: the first of the three.
use borrow.Author.Rules.{rules}
use Rattle.tables.specs.TablesCode.{table_fault}
use Rattle.tables.proofs.table_fault.Goals as goal

pub returns : goal.returns
unfolding table_fault
returns c = search rules
