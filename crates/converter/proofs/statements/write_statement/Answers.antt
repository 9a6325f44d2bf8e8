-- `converter::statements::write_statement` meets its contract: no STATEMENT, or one.
use mathlib.Core.Path.{sym, ap, ◌∙◌}
use native.Mathlib.Omega.{arith}
use lib.ListN.{length}
use Rattle.text.specs.Texts.{bytes, same}
use Rattle.schema.specs.SchemaCode.{names, name_in, attributes, position_of}
use Rattle.grammar.specs.TokensCode.{names_in}
use Rattle.document.specs.EntriesCode.{entries_in}
use Rattle.tables.specs.RowsCode.{shown}
use Rattle.converter.proofs.Turns.{no_line}
use Rattle.converter.proofs.statements.write_statement.Goals as goal

pub returns-then-not-is_same : goal.returns-then-not-is_same
unfolding names name_in bytes
returns-then-not-is_same c = no_line c.args.names.file.now (names_in c.args.names.file.now c.args.names.starts.now c.args.names.ends.now) (shown c.args.element) _ c.kind.ensures (sym c.is_same.ensures ∙ c.if-not-is_same.true)

pub write_found-requires : goal.write_found-requires
unfolding names name_in bytes
write_found-requires c = (rw (← c.kind.ensures, sym c.is_same.ensures ∙ c.if-not-is_same.false), c.requires.0, c.requires.1)
