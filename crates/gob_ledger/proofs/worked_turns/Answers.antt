use Rattle.gob_ledger.proofs.WorkedTurns.{worked}
use Rattle.gob_ledger.proofs.worked_turns.Goals as goal

pub returns : goal.returns
returns c = worked
