use Rattle.gob_ledger.proofs.Changed.{change_keeps}
use Rattle.gob_ledger.proofs.a_change_keeps_the_next_state.Goals as goal

pub returns : goal.returns
returns c = change_keeps
