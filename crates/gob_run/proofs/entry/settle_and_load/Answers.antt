use Rattle.std.proofs.Common.{[], ap, refl, subst, sym, ◌∙◌}
use Rattle.std.proofs.lemmas.Result.{err_from_is_err_and}
use Rattle.std.specs.declared.result.Result.{Result}
use Rattle.std.specs.declared.result.Result.TheVariants.{Err}
use Rattle.gob_bytes.specs.Paths.{under}
use Rattle.gob_device.specs.Disk.{Along}
use Rattle.gob_recovery.specs.Commits.{OnlyBelow}
use Rattle.gob_seq.specs.Maps.{ImagesSettleTheSame, OnlyUnstages, SettlesByName}
use Rattle.gob_seq.proofs.Trails.{maps_both}
use Rattle.gob_segments.specs.declared.change.Loaded.{Loaded}
use Rattle.gob_run.specs.Faults.{BeginsNot, run_of_load, run_of_settle}
use Rattle.gob_run.specs.declared.fault.RunFault.{RunFault}
use Rattle.gob_run.proofs.Settled.{finds, found_unbroken, load_stops, load_tells, settle_stops, settle_tells}
use Rattle.gob_run.proofs.Settled.{stays_damaged, stops_with}
use Rattle.gob_run.proofs.entry.settle_and_load.Goals as goal

pub returns-in_err-settle-clause-stopped : goal.returns-in_err-settle-clause-stopped
returns-in_err-settle-clause-stopped g c =
    let p = err_from_is_err_and c.from_residual.result c.from_residual.ensures.1 in
    stops_with (BeginsNot c.args.job.now (g.V.Volume.disk c.args.volume.now) (g.V.Volume.disk c.settle.new.volume)
    (g.V.Volume.faults c.args.volume.now) (g.V.Volume.faults c.settle.new.volume)) c.from_residual.result
    (run_of_settle c.in_err-settle.field-0.0) p.0 p.1 p.2
    (settle_stops c.args.job.now _ _ _ _ c.in_err-settle.field-0.0 c.in_err-settle.ensures.damaged
    c.in_err-settle.ensures.err)

pub returns-in_err-settle-clause-due : goal.returns-in_err-settle-clause-due
returns-in_err-settle-clause-due g c =
    let p = err_from_is_err_and c.from_residual.result c.from_residual.ensures.1 in
    settle_tells c.args.job.now c.from_residual.result c.in_err-settle.field-0.0 (g.V.Volume.disk c.args.volume.now)
    (g.V.Volume.disk c.settle.new.volume)
    (p.1 ∙ ap {B = Result Loaded RunFault} (λ z. Err z) p.2) c.in_err-settle.ensures.damaged

pub returns-in_err-loaded-clause-alike : goal.returns-in_err-loaded-clause-alike
returns-in_err-loaded-clause-alike g c =
    subst (Along (ImagesSettleTheSame c.args.job.now) (g.V.Volume.disk c.args.volume.now)) (sym c.load.ensures.disk)
    c.settle.ensures.images

pub returns-in_err-loaded-clause-below : goal.returns-in_err-loaded-clause-below
returns-in_err-loaded-clause-below g c =
    subst (Along (OnlyBelow (under c.args.job.now [])) (g.V.Volume.disk c.args.volume.now)) (sym c.load.ensures.disk)
    c.settle.ensures.below

pub returns-in_err-loaded-clause-stopped : goal.returns-in_err-loaded-clause-stopped
returns-in_err-loaded-clause-stopped g c =
    let p = err_from_is_err_and c.from_residual-in_err-loaded.result c.from_residual-in_err-loaded.ensures.1 in
    stops_with (BeginsNot c.args.job.now (g.V.Volume.disk c.args.volume.now) (g.V.Volume.disk c.load.new.volume)
    (g.V.Volume.faults c.args.volume.now) (g.V.Volume.faults c.load.new.volume)) c.from_residual-in_err-loaded.result
    (run_of_load c.in_err-loaded.field-0.0) p.0 p.1 p.2
    (load_stops c.args.job.now _ _ _ c.in_err-loaded.field-0.0 c.in_ok-settle.ensures.ok
    (maps_both c.settle.ensures.images (maps_both c.settle.ensures.readers c.settle.ensures.unstages))
    c.load.ensures.disk c.in_err-loaded.ensures.damaged c.settle.ensures.goes_on c.in_err-loaded.ensures.err)

pub returns-in_err-loaded-clause-due : goal.returns-in_err-loaded-clause-due
returns-in_err-loaded-clause-due g c =
    let p = err_from_is_err_and c.from_residual-in_err-loaded.result c.from_residual-in_err-loaded.ensures.1 in
    load_tells c.args.job.now c.from_residual-in_err-loaded.result c.in_err-loaded.field-0.0
    (g.V.Volume.disk c.args.volume.now) (g.V.Volume.disk c.settle.new.volume)
    (p.1 ∙ ap {B = Result Loaded RunFault} (λ z. Err z) p.2) c.in_ok-settle.ensures.ok c.in_err-loaded.ensures.damaged

pub returns-clause-found : goal.returns-clause-found
returns-clause-found g c =
    finds c.args.job.now c.in_ok-loaded.loaded c.in_ok-settle.ensures.ok c.load.ensures.disk
    c.in_ok-loaded.ensures.kept

pub returns-clause-alike : goal.returns-clause-alike
returns-clause-alike g c =
    subst (Along (ImagesSettleTheSame c.args.job.now) (g.V.Volume.disk c.args.volume.now)) (sym c.load.ensures.disk)
    c.settle.ensures.images

pub returns-clause-below : goal.returns-clause-below
returns-clause-below g c =
    subst (Along (OnlyBelow (under c.args.job.now [])) (g.V.Volume.disk c.args.volume.now)) (sym c.load.ensures.disk)
    c.settle.ensures.below

pub returns-clause-due : goal.returns-clause-due
returns-clause-due g c =
    found_unbroken c.args.job.now _ c.in_ok-loaded.loaded (g.V.Volume.disk c.args.volume.now)
    (g.V.Volume.disk c.settle.new.volume) c.in_ok-settle.ensures.ok c.in_ok-loaded.ensures.kept

pub returns-in_err-loaded-clause-readers : goal.returns-in_err-loaded-clause-readers
returns-in_err-loaded-clause-readers g c =
    subst (Along (SettlesByName c.args.job.now) (g.V.Volume.disk c.args.volume.now)) (sym c.load.ensures.disk)
    c.settle.ensures.readers

pub returns-clause-readers : goal.returns-clause-readers
returns-clause-readers g c =
    subst (Along (SettlesByName c.args.job.now) (g.V.Volume.disk c.args.volume.now)) (sym c.load.ensures.disk)
    c.settle.ensures.readers

pub returns-in_err-loaded-clause-unstages : goal.returns-in_err-loaded-clause-unstages
returns-in_err-loaded-clause-unstages g c =
    subst (Along (OnlyUnstages c.args.job.now) (g.V.Volume.disk c.args.volume.now)) (sym c.load.ensures.disk)
    c.settle.ensures.unstages

pub returns-clause-unstages : goal.returns-clause-unstages
returns-clause-unstages g c =
    subst (Along (OnlyUnstages c.args.job.now) (g.V.Volume.disk c.args.volume.now)) (sym c.load.ensures.disk)
    c.settle.ensures.unstages

pub returns-in_err-settle-clause-damaged : goal.returns-in_err-settle-clause-damaged
returns-in_err-settle-clause-damaged g c =
    stays_damaged c.args.job.now _ c.settle.ensures.readers c.settle.ensures.due refl

pub returns-in_err-loaded-clause-damaged : goal.returns-in_err-loaded-clause-damaged
returns-in_err-loaded-clause-damaged g c =
    stays_damaged c.args.job.now _ c.settle.ensures.readers c.settle.ensures.due c.load.ensures.disk

pub returns-clause-damaged : goal.returns-clause-damaged
returns-clause-damaged g c =
    stays_damaged c.args.job.now _ c.settle.ensures.readers c.settle.ensures.due c.load.ensures.disk
