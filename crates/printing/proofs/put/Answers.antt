-- `printing::put` meets its contract.
use Rattle.std.proofs.Common.{ap, ◌++◌, drop, List, ℕ}
use Rattle.printing.proofs.Puts.{put_front}
use Rattle.printing.proofs.put.Goals as goal

pub returns : goal.returns
returns c = put_front _ _ _ _ c.min-n.ensures (ap (λ (l : List ℕ). l ++ drop c.min-n.result c.args.out.now) c.copy_from_slice.ensures.after)
