use Rattle.gob_ledger.proofs.DecidingChange.{change_or_none}
use Rattle.gob_ledger.proofs.a_change_is_read_or_not.Goals as goal

pub returns : goal.returns
returns c = change_or_none
