use Rattle.gob_ledger.proofs.WorkedRuns.{worked}
use Rattle.gob_ledger.proofs.worked_runs.Goals as goal

pub returns : goal.returns
returns c = worked
