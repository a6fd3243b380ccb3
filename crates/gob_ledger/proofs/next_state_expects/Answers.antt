use Rattle.gob_ledger.proofs.Expecting.{expects}
use Rattle.gob_ledger.proofs.next_state_expects.Goals as goal

pub returns : goal.returns
returns c = expects
