use Rattle.std.proofs.Common.{arith}
use Rattle.gob_job.specs.Readings.{reading_from}
use Rattle.gob_job.specs.Jobs.{job_from}
use Rattle.gob_job.proofs.Due.{gives_handed}
use Rattle.gob_job.proofs.Known.{job_known, job_made, job_refused, units_fit, slots_fit, piece_fits, retries_fit}
use Rattle.gob_job.proofs.job.read_job.Goals as goal

pub returns-clause-job : goal.returns-clause-job
returns-clause-job c = rw (c.in_ok-name.ensures, c.in_ok-pipeline.ensures)
    (job_made c.args.name.now c.args.props.now (reading_from c.in_ok-reading.reading) c.in_ok-reading.ensures)

pub returns-clause-right : goal.returns-clause-right
returns-clause-right c = rw (c.in_ok-name.ensures, c.in_ok-pipeline.ensures)
    (job_known c.args.name.now c.args.props.now (reading_from c.in_ok-reading.reading) c.in_ok-reading.ensures)

pub overflow_cast-result : goal.overflow_cast-result
overflow_cast-result c = omega (
  arith,
  units_fit c.args.name.now c.args.props.now (reading_from c.in_ok-reading.reading)
      c.in_ok-reading.ensures,
)

pub overflow_cast-result-2 : goal.overflow_cast-result-2
overflow_cast-result-2 c = omega (
  arith,
  slots_fit c.args.name.now c.args.props.now
      (reading_from c.in_ok-reading.reading) c.in_ok-reading.ensures,
)

pub overflow_cast-result-3 : goal.overflow_cast-result-3
overflow_cast-result-3 c = omega (
  arith,
  piece_fits c.args.name.now c.args.props.now
      (reading_from c.in_ok-reading.reading) c.in_ok-reading.ensures,
)

pub overflow_cast-result-4 : goal.overflow_cast-result-4
overflow_cast-result-4 c = omega (
  arith,
  retries_fit c.args.name.now c.args.props.now
      (reading_from c.in_ok-reading.reading) c.in_ok-reading.ensures,
)

pub returns-in_err-reading-clause-job : goal.returns-in_err-reading-clause-job
returns-in_err-reading-clause-job c =
    gives_handed _ _ _ _ c.from_residual.ensures.1 (job_refused job_from c.args.name.now c.args.props.now _
    c.in_err-reading.ensures)
