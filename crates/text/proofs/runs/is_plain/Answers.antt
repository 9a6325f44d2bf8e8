-- `text::runs::is_plain` meets its contract.
use native.Mathlib.Omega.{arith}
use Rattle.text.proofs.Chains.{plain_flat}
use Rattle.text.proofs.runs.is_plain.Goals as goal

pub returns : goal.returns
returns c = plain_flat c.args.b (omega arith)
