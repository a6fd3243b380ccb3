use Rattle.gob_jobs.proofs.Jobs.{jobs_right}
use Rattle.gob_jobs.proofs.jobs_are_right.Goals as goal

pub returns : goal.returns
returns c = jobs_right
