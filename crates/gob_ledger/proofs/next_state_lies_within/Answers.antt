use Rattle.gob_ledger.proofs.Within.{stays_within}
use Rattle.gob_ledger.proofs.next_state_lies_within.Goals as goal

pub returns : goal.returns
returns c = stays_within
