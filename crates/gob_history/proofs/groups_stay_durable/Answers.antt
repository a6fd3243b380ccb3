use Rattle.gob_history.proofs.Left.{groups_steady}
use Rattle.gob_history.proofs.groups_stay_durable.Goals as goal

pub returns : goal.returns
returns c = groups_steady
