use Rattle.std.proofs.Common.{ap}
use Rattle.std.proofs.lemmas.Result.{err_from_is_err_and}
use Rattle.gob_job.specs.Jobs.{job_from}
use Rattle.gob_report.specs.Refusals.{told_as}
use Rattle.gob_run.specs.World.{World}
use Rattle.gob_top.specs.declared.stopped.Stopped.{Stopped}
use Rattle.gob_top.proofs.Running.{job_ran, not_run}
use Rattle.gob_top.proofs.Telling.{told_stopped}
use Rattle.gob_top.proofs.run.run.Goals as goal

pub returns-in_err-file : goal.returns-in_err-file
returns-in_err-file g c =
    let p = err_from_is_err_and c.from_residual.result c.from_residual.ensures.1 in
    let source = c.args.source.now in
    let volume = c.args.volume.now in
    let w : World = record {
      supply = g.S.Source.supply source;
      source_faults = g.S.Source.faults source;
      plan_faults = g.S.Source.plan_faults source;
      disk = g.V.Volume.disk volume;
      volume_faults = g.V.Volume.faults volume;
    } in
    not_run c.args.job.now w _ _ _ _ (told_as c.in_err-file.field-0.0.refusal) _ c.in_err-file.ensures.stopped
    c.in_err-file.ensures.disk c.in_err-file.ensures.goes_on
    (told_stopped p.1 (ap (λ (s : Stopped). told_as s.refusal) p.2))

pub returns : goal.returns
returns g c =
    let source = c.args.source.now in
    let volume = c.args.volume.now in
    let w : World = record {
      supply = g.S.Source.supply source;
      source_faults = g.S.Source.faults source;
      plan_faults = g.S.Source.plan_faults source;
      disk = g.V.Volume.disk volume;
      volume_faults = g.V.Volume.faults volume;
    } in
    job_ran c.args.job.now w _ _ _ _ _ (job_from c.in_ok-file.file.job) c.in_ok-file.file.props _
    c.in_ok-file.ensures.found c.in_ok-file.ensures.right c.in_ok-file.ensures.disk c.in_ok-file.ensures.unfailed
    c.run_and_tell.ensures
