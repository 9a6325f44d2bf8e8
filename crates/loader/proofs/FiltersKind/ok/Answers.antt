-- `ok` of filters meets its contract: what the record says is spelt again and compared.
use Rattle.loader.specs.ScanCode.{filter_ok}
use Rattle.loader.proofs.FiltersKind.ok.Goals as goal

pub returns : goal.returns
unfolding filter_ok
returns c = cc c.starts_with-same.ensures.value
