-- `tables::name_fault` meets its contract: as many names as count.
use native.Mathlib.Omega.{arith}
use borrow.Author.Rules.{rules}
use mathlib.Core.Path.{◌≡◌, ◌∙◌}
use lib.ListN.{length, length-take}
use Rattle.tables.specs.TablesCode.{name_fault}
use Rattle.tables.proofs.Turns.{names_whole}
use Rattle.tables.proofs.name_fault.Goals as goal

pub returns : goal.returns
unfolding name_fault
returns c = let l : length c.args.names.now.starts ≡ 32 = search rules in
    c.used_name.ensures ∙ rw (c.starts.ensures, c.ends.ensures, c.places.ensures) (names_whole c.args.file.now _ _ _ (omega (arith, l, length-take c.args.names.now.count c.args.names.now.starts)))
