-- The code's job, as it is defined.
use Rattle.gob_meaning.specs.Job.{Job}
use Rattle.gob_job.specs.declared.job.Job.{Job as JobHeld}

abbrev pub job_from : JobHeld → Job
job_from j = record {
  name = j.name;
  plan = j.plan;
  limits = j.limits;
  turns = j.turns;
  max_retries = j.max_retries;
  policy = j.policy;
  scope = j.scope;
  pipeline = j.pipeline;
}
