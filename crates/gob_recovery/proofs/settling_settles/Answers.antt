use Rattle.gob_recovery.proofs.Settled.{settled_is}
use Rattle.gob_recovery.proofs.settling_settles.Goals as goal

pub returns : goal.returns
returns c = settled_is
