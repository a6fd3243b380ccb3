use Rattle.gob_ledger.proofs.Losing.{empty_proper}
use Rattle.gob_ledger.proofs.empty_state_is_proper.Goals as goal

pub returns : goal.returns
returns c = empty_proper
