use Rattle.gob_meaning.proofs.Fits.{fits_in_parts}
use Rattle.gob_run.proofs.work.task_rules.Goals as goal

pub new-requires : goal.new-requires
new-requires c = (fits_in_parts c.args.job.now.plan).1 c.requires.right.fitting
