use Rattle.gob_ledger.proofs.Attempts.{units_pull}
use Rattle.gob_ledger.proofs.units_pull_their_own.Goals as goal

pub returns : goal.returns
returns c = units_pull
