-- `read_event` meets its contract, byte by byte.
use mathlib.Core.Path.{◌∙◌}
use native.Mathlib.Nat.{div-one}
use borrow.Author.Tests.{ne_eqb}
use Rattle.replay.specs.Wire.{bytes_at, frame_at}
use Rattle.replay.proofs.Bytes.{four, eight}
use Rattle.replay.proofs.events.read_event.Goals as goal

pub returns-then-kind-eq0 : goal.returns-then-kind-eq0
unfolding frame_at bytes_at
returns-then-kind-eq0 c = rw (c.if-kind-eq0.true, c.from_le_bytes-time.ensures ∙ eight _ _ _ _ _ _ _ _)

pub returns : goal.returns
unfolding frame_at bytes_at
returns c = rw (ne_eqb _ _ c.if-kind-eq0.false, c.from_le_bytes-time.ensures ∙ eight _ _ _ _ _ _ _ _, c.from_le_bytes.ensures ∙ four _ _ _ _, c.from.ensures, c.from-2.ensures, div-one)
