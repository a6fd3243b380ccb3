use Rattle.gob_ledger.proofs.Losing.{units_bytes}
use Rattle.gob_ledger.proofs.units_have_bytes.Goals as goal

pub returns : goal.returns
returns c = units_bytes
