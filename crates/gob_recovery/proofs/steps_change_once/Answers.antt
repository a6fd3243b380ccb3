use Rattle.gob_recovery.proofs.Opened.{change_once}
use Rattle.gob_recovery.proofs.steps_change_once.Goals as goal

pub returns : goal.returns
returns c = change_once
