use Rattle.std.proofs.Common.{ap}
use Rattle.std.proofs.lemmas.Result.{err_from_is_err_and}
use Rattle.std.specs.declared.result.Result.TheVariants.{Ok}
use Rattle.gob_report.specs.Refusals.{told_as}
use Rattle.gob_top.specs.Found.{found_in}
use Rattle.gob_top.specs.declared.stopped.Stopped.{Stopped}
use Rattle.gob_top.proofs.Checking.{job_checked, not_checked}
use Rattle.gob_top.proofs.Telling.{told_stopped}
use Rattle.gob_top.proofs.check.check.Goals as goal

pub returns-in_err-file : goal.returns-in_err-file
returns-in_err-file g c = λ w.
    let p = err_from_is_err_and c.from_residual.result c.from_residual.ensures.1 in
    not_checked c.args.job.now w _ _ _ _ (told_as c.in_err-file.field-0.0.refusal) _ c.in_err-file.ensures.stopped
    c.in_err-file.ensures.disk c.in_err-file.ensures.goes_on
    (told_stopped p.1 (ap (λ (s : Stopped). told_as s.refusal) p.2))

pub returns : goal.returns
returns g c = λ w.
    job_checked c.args.job.now w _ _ _ _ (Ok (found_in c.in_ok-file.file)) _ c.in_ok-file.ensures.found
    (λ i. (0, c.in_ok-text.ensures i)) c.in_ok-file.ensures.disk c.in_ok-file.ensures.unfailed
    c.in_ok-file.ensures.goes_on
