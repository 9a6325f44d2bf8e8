-- `printing::put_lines` meets its contract: so many lines are put.
use Rattle.std.proofs.Common.{◌≤◌, take, length}
use Rattle.printing.specs.Printing.{word_lines}
use Rattle.printing.specs.PrintingCode.{Put}
use Rattle.printing.proofs.put_lines.Given as goal

abbrev pub invariant-loop-w : goal.invariant-loop-w
invariant-loop-w l = record { within : l.w-index ≤ length l.w-items; put : Put (word_lines (take l.w-index l.w-items)) l.initial.out l.at l.out }
