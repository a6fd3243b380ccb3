use Rattle.gob_ledger.proofs.WorkedUnits.{worked}
use Rattle.gob_ledger.proofs.worked_units.Goals as goal

pub returns : goal.returns
returns c = worked
