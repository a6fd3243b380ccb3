use Rattle.gob_history.proofs.Composes.{leave_one_more}
use Rattle.gob_history.proofs.groups_leave_one_more.Goals as goal

pub returns : goal.returns
returns c = leave_one_more
