use Rattle.gob_task.proofs.Published.{staged_published}
use Rattle.gob_task.proofs.laws.staged_are_published.Goals as goal

pub returns : goal.returns
returns c = staged_published
