use Rattle.gob_jobs.proofs.Lines.{settings_read}
use Rattle.gob_jobs.proofs.settings_are_read.Goals as goal

pub returns : goal.returns
returns c = settings_read
