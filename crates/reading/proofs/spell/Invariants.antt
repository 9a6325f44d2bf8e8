-- `spell`. The loop's invariant: what is written and what the text still spells is what it spells.
use Rattle.std.proofs.Common.{◌≡◌, ◌++◌, length, take, drop}
use Rattle.reading.specs.Spelling.{spelt}
use Rattle.reading.proofs.spell.Given as goal

abbrev pub invariant-loop-n : goal.invariant-loop-n
invariant-loop-n l = (length l.out ≡ length l.initial.out) × (take l.n l.out ++ spelt (drop l.i l.text) ≡ spelt l.text) × (drop l.n l.out ≡ drop l.n l.initial.out)
