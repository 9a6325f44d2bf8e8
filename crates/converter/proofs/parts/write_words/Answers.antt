-- `converter::parts::write_words` meets its contract: the words are copied.
use mathlib.Core.Path.{refl}
use Rattle.converter.proofs.parts.write_words.Goals as goal

pub returns : goal.returns
returns c = record { count = refl; words = rw c.copy_from_slice.ensures.after refl }
