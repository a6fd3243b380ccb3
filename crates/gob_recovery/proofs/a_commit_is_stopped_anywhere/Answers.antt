use Rattle.gob_recovery.proofs.Examples.{worked_commit}
use Rattle.gob_recovery.proofs.a_commit_is_stopped_anywhere.Goals as goal

pub returns : goal.returns
returns c = worked_commit
