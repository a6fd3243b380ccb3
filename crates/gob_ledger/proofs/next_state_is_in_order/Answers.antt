use Rattle.gob_ledger.proofs.Changes.{next_rising}
use Rattle.gob_ledger.proofs.next_state_is_in_order.Goals as goal

pub returns : goal.returns
returns c = next_rising
