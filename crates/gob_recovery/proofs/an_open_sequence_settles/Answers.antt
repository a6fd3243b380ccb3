use Rattle.gob_recovery.proofs.Opened.{opened}
use Rattle.gob_recovery.proofs.an_open_sequence_settles.Goals as goal

pub returns : goal.returns
returns c = opened
