use Rattle.gob_ledger.proofs.Losing.{nothing_lost}
use Rattle.gob_ledger.proofs.nothing_is_lost.Goals as goal

pub returns : goal.returns
returns c = nothing_lost
