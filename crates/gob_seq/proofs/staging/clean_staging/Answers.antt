use Rattle.std.proofs.Common.{◌∙◌, ap, subst, sym}
use Rattle.gob_bytes.specs.Paths.{staging}
use Rattle.gob_device.specs.Disk.{Along}
use Rattle.gob_device.proofs.Trail.{along_nothing}
use Rattle.gob_recovery.specs.Commits.{OnlyBelow}
use Rattle.gob_seq.specs.declared.place.Place.{Place}
use Rattle.gob_seq.specs.Maps.{OnlyUnstages}
use Rattle.gob_seq.proofs.Cleaned.{names_below, names_gone}
use Rattle.gob_seq.proofs.Unstaged.{removed_unstages}
use Rattle.gob_seq.proofs.staging.clean_staging.Goals as goal

pub returns-in_err-place-clause-below : goal.returns-in_err-place-clause-below
returns-in_err-place-clause-below g c = along_nothing (OnlyBelow (staging c.args.job.now)) _

pub returns-in_err-names-clause-below : goal.returns-in_err-names-clause-below
returns-in_err-names-clause-below g c =
    subst (Along (OnlyBelow (staging c.args.job.now)) (g.V.Volume.disk c.args.volume.now)) (sym c.names.ensures.disk)
    (along_nothing (OnlyBelow (staging c.args.job.now)) _)

pub returns-in_err-remove_all-clause-below : goal.returns-in_err-remove_all-clause-below
returns-in_err-remove_all-clause-below g c =
    names_below c.args.job.now c.as_str.result.now _ _
    (c.as_str.ensures ∙ ap (λ (p : Place). p.staging) c.in_ok-place.ensures)
    c.as_slice.ensures.value c.names.ensures.disk c.in_ok-names.ensures.names c.remove_all.ensures.maps

pub returns-clause-below : goal.returns-clause-below
returns-clause-below g c =
    names_below c.args.job.now c.as_str.result.now _ _
    (c.as_str.ensures ∙ ap (λ (p : Place). p.staging) c.in_ok-place.ensures)
    c.as_slice.ensures.value c.names.ensures.disk c.in_ok-names.ensures.names c.remove_all.ensures.maps

pub returns-clause-ok : goal.returns-clause-ok
returns-clause-ok g c =
    names_gone c.args.job.now c.as_str.result.now _ _
    (c.as_str.ensures ∙ ap (λ (p : Place). p.staging) c.in_ok-place.ensures)
    c.as_slice.ensures.value c.names.ensures.disk c.in_ok-names.ensures.names c.in_ok-remove_all.ensures.ok

pub returns-in_err-place-clause-unstages : goal.returns-in_err-place-clause-unstages
returns-in_err-place-clause-unstages g c = along_nothing (OnlyUnstages c.args.job.now) _

pub returns-in_err-names-clause-unstages : goal.returns-in_err-names-clause-unstages
returns-in_err-names-clause-unstages g c =
    subst (Along (OnlyUnstages c.args.job.now) (g.V.Volume.disk c.args.volume.now)) (sym c.names.ensures.disk)
    (along_nothing (OnlyUnstages c.args.job.now) _)

pub returns-in_err-remove_all-clause-unstages : goal.returns-in_err-remove_all-clause-unstages
returns-in_err-remove_all-clause-unstages g c =
    removed_unstages c.args.job.now _ c.names.ensures.disk c.remove_all.ensures.maps

pub returns-clause-unstages : goal.returns-clause-unstages
returns-clause-unstages g c = removed_unstages c.args.job.now _ c.names.ensures.disk c.remove_all.ensures.maps
