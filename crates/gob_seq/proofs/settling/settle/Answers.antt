use Rattle.std.proofs.Common.{Bool, [], sym, subst}
use Rattle.std.proofs.lemmas.Result.{err_from_is_err_and}
use Rattle.gob_bytes.specs.Paths.{staging, under}
use Rattle.gob_device.proofs.Trail.{along_map, along_then}
use Rattle.gob_recovery.specs.Commits.{OnlyBelow}
use Rattle.gob_recovery.proofs.Commits.{below_then}
use Rattle.gob_seq.specs.Faults.{Damages, settle_of_commit}
use Rattle.gob_seq.specs.Maps.{SettlingGoesOn, ImagesSettleTheSame, OnlyUnstages, SettlesTheSame}
use Rattle.gob_seq.proofs.Named.{below_job}
use Rattle.gob_seq.proofs.Readers.{settles_read_cleaned}
use Rattle.gob_seq.proofs.Resettled.{becomes_undamaged, commit_damages, commit_rose, due_again, err_damages}
use Rattle.gob_seq.proofs.Resettled.{goes_cleaned, goes_images, rose_again, settles_cleaned, undamaged_due}
use Rattle.gob_seq.proofs.Unstaged.{unstages_then}
use Rattle.gob_seq.proofs.settling.settle.Goals as goal

pub returns-in_err-was_open-clause-same : goal.returns-in_err-was_open-clause-same
returns-in_err-was_open-clause-same g c =
    along_map (SettlingGoesOn c.args.job.now) (SettlesTheSame c.args.job.now)
    (λ m n go. go.same) c.finish_open.ensures.goes

pub returns-in_err-was_open-clause-images : goal.returns-in_err-was_open-clause-images
returns-in_err-was_open-clause-images g c =
    along_map (SettlingGoesOn c.args.job.now) (ImagesSettleTheSame c.args.job.now) (goes_images c.args.job.now)
    c.finish_open.ensures.goes

pub returns-in_err-was_open-clause-damaged : goal.returns-in_err-was_open-clause-damaged
returns-in_err-was_open-clause-damaged g c =
    let p = err_from_is_err_and c.from_residual.result c.from_residual.ensures.1 in
    err_damages c.args.job.now _ p.0 (g.V.Volume.disk c.args.volume.now) (g.V.Volume.disk c.finish_open.new.volume) p.1
    (subst (Damages c.args.job.now (g.V.Volume.disk c.args.volume.now) (g.V.Volume.disk c.finish_open.new.volume))
    (sym p.2)
    c.in_err-was_open.ensures.damaged)

pub returns-in_err-was_open-clause-due : goal.returns-in_err-was_open-clause-due
returns-in_err-was_open-clause-due g c =
    let p = err_from_is_err_and c.from_residual.result c.from_residual.ensures.1 in
    due_again Bool c.args.job.now c.from_residual.result c.in_err-was_open.field-0.0 p.0 _ _ p.1 p.2
    c.in_err-was_open.ensures.due

pub returns-in_err-was_open-clause-err : goal.returns-in_err-was_open-clause-err
returns-in_err-was_open-clause-err g c =
    let p = err_from_is_err_and c.from_residual.result c.from_residual.ensures.1 in
    rose_again _ c.in_err-was_open.field-0.0 p.0 _ _ p.1 p.2 c.in_err-was_open.ensures.err

pub returns-in_err-clean_staging-clause-same : goal.returns-in_err-clean_staging-clause-same
returns-in_err-clean_staging-clause-same g c =
    along_map (SettlingGoesOn c.args.job.now) (SettlesTheSame c.args.job.now) (λ m n go. go.same)
    (goes_cleaned c.args.job.now c.finish_open.ensures.goes c.in_ok-was_open.ensures.ok c.clean_staging.ensures.below)

pub returns-in_err-clean_staging-clause-images : goal.returns-in_err-clean_staging-clause-images
returns-in_err-clean_staging-clause-images g c =
    along_map (SettlingGoesOn c.args.job.now) (ImagesSettleTheSame c.args.job.now) (goes_images c.args.job.now)
    (goes_cleaned c.args.job.now c.finish_open.ensures.goes c.in_ok-was_open.ensures.ok c.clean_staging.ensures.below)

pub returns-in_err-clean_staging-clause-readers : goal.returns-in_err-clean_staging-clause-readers
returns-in_err-clean_staging-clause-readers g c =
    settles_read_cleaned c.args.job.now c.finish_open.ensures.readers c.clean_staging.ensures.below

pub returns-in_err-clean_staging-clause-damaged : goal.returns-in_err-clean_staging-clause-damaged
returns-in_err-clean_staging-clause-damaged g c =
    let p = err_from_is_err_and c.from_residual-in_err-clean_staging.result
    c.from_residual-in_err-clean_staging.ensures.1 in
    err_damages c.args.job.now _ p.0 (g.V.Volume.disk c.args.volume.now) (g.V.Volume.disk c.clean_staging.new.volume)
    p.1
    (subst (Damages c.args.job.now (g.V.Volume.disk c.args.volume.now) (g.V.Volume.disk c.clean_staging.new.volume))
    (sym p.2)
    (commit_damages c.args.job.now _ _ c.in_err-clean_staging.field-0.0))

pub returns-in_err-clean_staging-clause-due : goal.returns-in_err-clean_staging-clause-due
returns-in_err-clean_staging-clause-due g c =
    undamaged_due c.args.job.now _ _ _ (becomes_undamaged c.args.job.now _ _ c.in_ok-was_open.ensures.ok)

pub returns-in_err-clean_staging-clause-err : goal.returns-in_err-clean_staging-clause-err
returns-in_err-clean_staging-clause-err g c =
    let p = err_from_is_err_and c.from_residual-in_err-clean_staging.result
    c.from_residual-in_err-clean_staging.ensures.1 in
    rose_again _ (settle_of_commit c.in_err-clean_staging.field-0.0) p.0 _ _ p.1 p.2
    (commit_rose _ _ _ c.in_err-clean_staging.field-0.0 c.finish_open.ensures.goes_on
    c.in_err-clean_staging.ensures.err)

pub returns-in_err-clean_staging-clause-below : goal.returns-in_err-clean_staging-clause-below
returns-in_err-clean_staging-clause-below g c =
    let job = c.args.job.now in
    along_then (OnlyBelow (under job [])) (below_then (under job [])) c.finish_open.ensures.below
    (along_map (OnlyBelow (staging job)) (OnlyBelow (under job [])) (below_job job) c.clean_staging.ensures.below)

pub returns-clause-same : goal.returns-clause-same
returns-clause-same g c =
    along_map (SettlingGoesOn c.args.job.now) (SettlesTheSame c.args.job.now) (λ m n go. go.same)
    (goes_cleaned c.args.job.now c.finish_open.ensures.goes c.in_ok-was_open.ensures.ok c.clean_staging.ensures.below)

pub returns-clause-images : goal.returns-clause-images
returns-clause-images g c =
    along_map (SettlingGoesOn c.args.job.now) (ImagesSettleTheSame c.args.job.now) (goes_images c.args.job.now)
    (goes_cleaned c.args.job.now c.finish_open.ensures.goes c.in_ok-was_open.ensures.ok c.clean_staging.ensures.below)

pub returns-clause-readers : goal.returns-clause-readers
returns-clause-readers g c =
    settles_read_cleaned c.args.job.now c.finish_open.ensures.readers c.clean_staging.ensures.below

pub returns-clause-ok : goal.returns-clause-ok
returns-clause-ok g c = settles_cleaned c.args.job.now c.in_ok-was_open.ensures.ok c.in_ok-clean_staging.ensures.ok

pub returns-clause-due : goal.returns-clause-due
returns-clause-due g c =
    undamaged_due c.args.job.now _ _ _ (becomes_undamaged c.args.job.now _ _ c.in_ok-was_open.ensures.ok)

pub returns-clause-below : goal.returns-clause-below
returns-clause-below g c =
    let job = c.args.job.now in
    along_then (OnlyBelow (under job [])) (below_then (under job [])) c.finish_open.ensures.below
    (along_map (OnlyBelow (staging job)) (OnlyBelow (under job [])) (below_job job) c.clean_staging.ensures.below)

pub returns-in_err-clean_staging-clause-unstages : goal.returns-in_err-clean_staging-clause-unstages
returns-in_err-clean_staging-clause-unstages g c =
    along_then (OnlyUnstages c.args.job.now) (unstages_then c.args.job.now) c.finish_open.ensures.unstages
    c.clean_staging.ensures.unstages

pub returns-clause-unstages : goal.returns-clause-unstages
returns-clause-unstages g c =
    along_then (OnlyUnstages c.args.job.now) (unstages_then c.args.job.now) c.finish_open.ensures.unstages
    c.clean_staging.ensures.unstages
