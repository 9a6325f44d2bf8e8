-- `ok` of triggers meets its contract: what the record says is spelt again and compared.
use Rattle.loader.specs.ScanCode.{trigger_ok}
use Rattle.loader.proofs.TriggersKind.ok.Goals as goal

pub returns : goal.returns
unfolding trigger_ok
returns c = cc c.starts_with-same.ensures.value
