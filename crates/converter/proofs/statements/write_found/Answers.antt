-- `converter::statements::write_found` meets its contract: a STATEMENT whose expression is compiled, or is refused.
use mathlib.Core.Path.{refl, ap}
use native.Mathlib.Omega.{arith}
use lib.ListN.{length}
use Rattle.text.specs.Texts.{bytes, same}
use Rattle.schema.specs.SchemaCode.{names, name_in, attributes, position_of}
use Rattle.grammar.specs.TokensCode.{names_in}
use Rattle.document.specs.EntriesCode.{entries_in}
use Rattle.tables.specs.RowsCode.{shown}
use Rattle.converter.proofs.Turns.{line_is, line_good, line_refused}
use Rattle.converter.proofs.statements.write_found.Goals as goal

pub write_line-requires : goal.write_line-requires
unfolding names name_in bytes attributes position_of same
write_line-requires c = (omega (arith, ap length (line_is c.args.names.file.now (names_in c.args.names.file.now c.args.names.starts.now c.args.names.ends.now) (shown c.args.element) _ refl c.requires.0 (ap entries_in c.rest-entries.ensures) c.text_from-place.ensures c.compile_at.ensures c.in-Ok.is c.as_slice.ensures.0 c.value-post.ensures), c.requires.1), c.requires.2)

pub returns-in-Ok : goal.returns-in-Ok
unfolding names name_in bytes attributes position_of same
returns-in-Ok c = line_good c.args.names.file.now (names_in c.args.names.file.now c.args.names.starts.now c.args.names.ends.now) (shown c.args.element) _ refl c.requires.0 (ap entries_in c.rest-entries.ensures) c.text_from-place.ensures c.compile_at.ensures c.in-Ok.is c.as_slice.ensures.0 c.value-post.ensures c.write_line.ensures c.requires.1

pub returns-in-Err : goal.returns-in-Err
unfolding names name_in bytes
returns-in-Err c = rw c.number.ensures (line_refused c.args.names.file.now (names_in c.args.names.file.now c.args.names.starts.now c.args.names.ends.now) (shown c.args.element) _ refl c.requires.0 (ap entries_in c.rest-entries.ensures) c.text_from-place.ensures c.compile_at.ensures c.in-Err.is)
