use Rattle.gob_recovery.proofs.Settled.{staged_free}
use Rattle.gob_recovery.proofs.staging_is_free.Goals as goal

pub returns : goal.returns
returns c = staged_free
