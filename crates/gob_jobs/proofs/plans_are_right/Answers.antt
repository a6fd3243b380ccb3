use Rattle.gob_jobs.proofs.Tells.{plans_right}
use Rattle.gob_jobs.proofs.plans_are_right.Goals as goal

pub returns : goal.returns
returns c = plans_right
