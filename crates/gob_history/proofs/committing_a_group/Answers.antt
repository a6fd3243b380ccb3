use Rattle.gob_history.proofs.Keeps.{committing}
use Rattle.gob_history.proofs.committing_a_group.Goals as goal

pub returns : goal.returns
returns c = committing
