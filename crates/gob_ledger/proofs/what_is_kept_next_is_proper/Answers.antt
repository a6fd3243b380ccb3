use Rattle.gob_ledger.proofs.Keeping.{kept_proper}
use Rattle.gob_ledger.proofs.what_is_kept_next_is_proper.Goals as goal

pub returns : goal.returns
returns c = kept_proper
