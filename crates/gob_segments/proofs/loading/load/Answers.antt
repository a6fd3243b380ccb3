use Rattle.std.proofs.Common.{subst, sym}
use Rattle.gob_segments.specs.Loading.{BlamesDamage}
use Rattle.std.proofs.lemmas.Result.{err_from_is_err_and}
use Rattle.gob_segments.proofs.Loads.{due_err, due_ok}
use Rattle.gob_segments.proofs.loading.load.Goals as goal

pub returns-in_err-loaded-clause-due : goal.returns-in_err-loaded-clause-due
returns-in_err-loaded-clause-due g c =
    let p = err_from_is_err_and c.from_residual.result c.from_residual.ensures.1 in
    due_err c.args.job.now (g.V.Volume.disk c.args.volume.now) c.from_residual.result p.0 p.1
    (subst (BlamesDamage c.args.job.now (g.V.Volume.disk c.args.volume.now)) (sym p.2) c.in_err-loaded.ensures.damaged)

pub returns-clause-due : goal.returns-clause-due
returns-clause-due g c = due_ok c.args.job.now (g.V.Volume.disk c.args.volume.now) _ c.in_ok-loaded.ensures.kept
