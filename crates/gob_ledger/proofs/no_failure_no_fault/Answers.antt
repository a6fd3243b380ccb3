use Rattle.gob_ledger.proofs.GivingUp.{no_fault}
use Rattle.gob_ledger.proofs.no_failure_no_fault.Goals as goal

pub returns : goal.returns
returns c = no_fault
