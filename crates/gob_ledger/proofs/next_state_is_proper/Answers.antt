use Rattle.gob_ledger.proofs.Properly.{stays_proper}
use Rattle.gob_ledger.proofs.next_state_is_proper.Goals as goal

pub returns : goal.returns
returns c = stays_proper
