-- `omissions::triggers::is_unnamed` meets its contract.
use mathlib.Core.Path.{sym, ◌∙◌}
use Rattle.text.specs.Texts.{bytes}
use Rattle.schema.specs.SchemaCode.{names, name_in}
use Rattle.omissions.specs.TriggersCode.{is_unnamed}
use Rattle.omissions.proofs.triggers.is_unnamed.Goals as goal

pub returns-then-not-is_in : goal.returns-then-not-is_in
unfolding is_unnamed names name_in bytes
returns-then-not-is_in c = rw (← c.kind.ensures, sym c.is_in.ensures ∙ c.if-not-is_in.true)

pub returns : goal.returns
unfolding is_unnamed names name_in bytes
returns c = rw (c.is_named.ensures, c.cut.ensures, c.value_at-name.ensures, c.place.ensures, ← c.kind.ensures, sym c.is_in.ensures ∙ c.if-not-is_in.false)
