use Rattle.gob_ledger.proofs.Examples.{worked}
use Rattle.gob_ledger.proofs.worked_examples.Goals as goal

pub returns : goal.returns
returns c = worked
