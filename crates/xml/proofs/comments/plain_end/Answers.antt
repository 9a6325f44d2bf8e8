-- `xml::comments::plain_end` meets its contract: a dash is not plain.
use mathlib.Core.Path.{refl, sym}
use Rattle.text.specs.Kinds.{among, is_any}
use Rattle.text.specs.SpansCode.{is_plain}
use Rattle.text.proofs.Spans.{span_here}
use Rattle.xml.proofs.comments.plain_end.Goals as goal

pub returns-then-file-from-eq45 : goal.returns-then-file-from-eq45
unfolding is_plain
returns-then-file-from-eq45 c = sym (span_here is_plain _ _ c.requires (rw c.if-file-from-eq45.true refl))
