use Rattle.gob_ledger.proofs.Pieces.{bounds}
use Rattle.gob_ledger.proofs.bounds_suffice.Goals as goal

pub returns : goal.returns
returns c = bounds
