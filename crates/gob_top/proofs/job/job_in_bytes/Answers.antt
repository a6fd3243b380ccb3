use Rattle.std.proofs.lemmas.Result.{err_from_is_err_and}
use Rattle.gob_job.specs.Jobs.{job_from}
use Rattle.gob_report.specs.Refusals.{told_as}
use Rattle.gob_top.proofs.Finding.{job_found, job_tells, text_tells}
use Rattle.gob_top.proofs.job.job_in_bytes.Goals as goal

pub returns-in_err-props-clause-stopped : goal.returns-in_err-props-clause-stopped
returns-in_err-props-clause-stopped c =
    let p = err_from_is_err_and c.from_residual.result c.from_residual.ensures.1 in
    rw p.1 (text_tells c.args.job.now c.args.bytes.now c.in_err-props.field-0.0 (told_as p.0.refusal)
    c.in_err-props.ensures p.2)

pub returns-in_err-found-clause-stopped : goal.returns-in_err-found-clause-stopped
returns-in_err-found-clause-stopped c =
    let p = err_from_is_err_and c.from_residual-in_err-found.result c.from_residual-in_err-found.ensures.1 in
    rw p.1 (job_tells c.args.job.now c.args.bytes.now c.in_ok-props.props c.in_err-found.field-0.0 (told_as p.0.refusal)
    c.in_ok-props.ensures c.in_err-found.ensures.job p.2)

pub returns-clause-found : goal.returns-clause-found
returns-clause-found c =
    job_found c.args.job.now c.args.bytes.now c.in_ok-props.props (job_from c.in_ok-found.found) c.in_ok-props.ensures
    c.in_ok-found.ensures.job
