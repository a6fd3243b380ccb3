use Rattle.gob_ledger.proofs.WorkedStates.{worked}
use Rattle.gob_ledger.proofs.worked_states.Goals as goal

pub returns : goal.returns
returns c = worked
