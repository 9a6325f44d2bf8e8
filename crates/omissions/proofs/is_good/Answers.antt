-- `omissions::is_good` meets its contract.
use Prim.Native.Nat.{ℕ}
use lib.ListN.{length-replicate}
use Rattle.omissions.proofs.Good.{good_by}
use Rattle.omissions.proofs.is_good.Goals as goal

pub returns : goal.returns
returns c = rw c.is_ok.ensures.value (good_by c.args.file.now _ _ _ (length-replicate {A = ℕ} 1590 0) c.convert.ensures)
