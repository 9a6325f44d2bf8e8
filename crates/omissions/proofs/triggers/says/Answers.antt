-- `omissions::triggers::says` meets its contract.
use mathlib.Core.Path.{sym, ◌∙◌}
use Rattle.text.specs.Texts.{bytes}
use Rattle.schema.specs.SchemaCode.{names, name_in}
use Rattle.omissions.specs.TriggersCode.{says_word}
use Rattle.omissions.proofs.triggers.says.Goals as goal

pub returns-then-not-is_same : goal.returns-then-not-is_same
unfolding says_word names name_in bytes
returns-then-not-is_same c = rw (← c.kind.ensures, sym c.is_same.ensures ∙ c.if-not-is_same.true)

pub returns : goal.returns
unfolding says_word names name_in bytes
returns c = c.has_text.ensures ∙ rw (c.place.ensures, ← c.kind.ensures, sym c.is_same.ensures ∙ c.if-not-is_same.false)
