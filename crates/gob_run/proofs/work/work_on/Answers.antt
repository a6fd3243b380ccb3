use Rattle.std.proofs.Common.{ℕ, List, [], Ok, refl, sym, subst}
use Rattle.std.proofs.lemmas.Result.{err_from_is_err_and}
use Rattle.gob_job.specs.Jobs.{job_from}
use Rattle.gob_run.specs.Answers.{Answer}
use Rattle.gob_run.specs.Working.{Worked}
use Rattle.gob_run.specs.World.{World}
use Rattle.gob_run.specs.declared.fault.RunFault.TheVariants.{Memory}
use Rattle.gob_run.proofs.Called.{at_err}
use Rattle.gob_run.proofs.Idle.{idle_done}
use Rattle.gob_run.proofs.Worked.{stopped_at_first}
use Rattle.gob_run.proofs.work.work_on.Goals as goal

pub returns-in_err-outcome-clause-worked : goal.returns-in_err-outcome-clause-worked
returns-in_err-outcome-clause-worked g c =
    let job = job_from c.args.job.now in
    let l = c.args.loaded in
    let cut = c.args.cut in
    let w : World = record {
      supply = g.S.Source.supply c.args.source.now;
      source_faults = g.S.Source.faults c.args.source.now;
      plan_faults = g.S.Source.plan_faults c.args.source.now;
      disk = g.V.Volume.disk c.args.volume.now;
      volume_faults = g.V.Volume.faults c.args.volume.now;
    } in
    let p = err_from_is_err_and c.from_residual.result c.from_residual.ensures.1 in
    subst (λ (failing : List ℕ). Worked job failing l cut c.from_residual.result w w) (sym c.requires.none)
    (at_err (λ (a : Answer). Worked job [] l cut a w w) c.from_residual.result p.0 Memory p.1 p.2
    (stopped_at_first job l cut w))

pub returns-then-is_empty-clause-worked : goal.returns-then-is_empty-clause-worked
returns-then-is_empty-clause-worked g c =
    let job = job_from c.args.job.now in
    let l = c.args.loaded in
    let cut = c.args.cut in
    let w : World = record {
      supply = g.S.Source.supply c.args.source.now;
      source_faults = g.S.Source.faults c.args.source.now;
      plan_faults = g.S.Source.plan_faults c.args.source.now;
      disk = g.V.Volume.disk c.args.volume.now;
      volume_faults = g.V.Volume.faults c.args.volume.now;
    } in
    subst (λ (failing : List ℕ). Worked job failing l cut (Ok c.in_ok-outcome.outcome) w w) (sym c.requires.none)
    (idle_done job l cut c.in_ok-outcome.outcome w (c.if-is_empty.ensures.0 refl)
    c.in_ok-outcome.ensures)
