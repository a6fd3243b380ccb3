use Rattle.gob_ledger.proofs.DecidingState.{state_or_none}
use Rattle.gob_ledger.proofs.a_text_is_read_or_not.Goals as goal

pub returns : goal.returns
returns c = state_or_none
