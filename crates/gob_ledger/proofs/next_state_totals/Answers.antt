use Rattle.gob_ledger.proofs.Sums.{totals_stay}
use Rattle.gob_ledger.proofs.next_state_totals.Goals as goal

pub returns : goal.returns
returns c = totals_stay
