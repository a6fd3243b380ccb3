use Rattle.gob_ledger.proofs.GivingUp.{giving_up}
use Rattle.gob_ledger.proofs.giving_up_takes_failures.Goals as goal

pub returns : goal.returns
returns c = giving_up
