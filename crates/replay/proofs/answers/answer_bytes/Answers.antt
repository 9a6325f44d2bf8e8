-- `answer_bytes` meets its contract: two bytes, then five numbers one behind the other.
use mathlib.Core.Path.{◌∙◌}
use Rattle.replay.specs.Wire.{bytes_of, answer_bytes}
use Rattle.replay.proofs.Bytes.{bytes_are}
use Rattle.replay.proofs.answers.answer_bytes.Goals as goal

pub returns : goal.returns
unfolding answer_bytes bytes_of
returns c = λ fired truth started last. rw (c.copy_from_slice.ensures.after ∙ c.to_le_bytes.ensures ∙ bytes_are 8 _, c.copy_from_slice-2.ensures.after ∙ c.to_le_bytes-2.ensures ∙ bytes_are 4 _, c.copy_from_slice-3.ensures.after ∙ c.to_le_bytes-3.ensures ∙ bytes_are 4 _, c.copy_from_slice-4.ensures.after ∙ c.to_le_bytes-4.ensures ∙ bytes_are 4 _, c.copy_from_slice-5.ensures.after ∙ c.to_le_bytes-5.ensures ∙ bytes_are 4 _, c.answer_byte.ensures, c.logging_byte.ensures, c.end_time.ensures)
