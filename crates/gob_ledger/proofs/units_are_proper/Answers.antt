use Rattle.gob_ledger.proofs.Losing.{units_proper}
use Rattle.gob_ledger.proofs.units_are_proper.Goals as goal

pub returns : goal.returns
returns c = units_proper
