use Rattle.gob_text.proofs.Fronts.{strips}
use Rattle.gob_job.proofs.unknown.behind.Goals as goal

pub returns : goal.returns
returns c = strips c.args.text.now c.args.front.now c.strip_prefix.result c.strip_prefix.ensures.cases
