use Rattle.gob_jobs.proofs.PlanTables.{plan_tables}
use Rattle.gob_jobs.proofs.pipeline_texts_read.Goals as goal

pub returns : goal.returns
returns c = plan_tables
