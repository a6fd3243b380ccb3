use Rattle.gob_task.proofs.Published.{keep_their_own}
use Rattle.gob_task.proofs.laws.tasks_keep_their_own.Goals as goal

pub returns : goal.returns
returns c = keep_their_own
