use Rattle.std.proofs.Common.{◌≡◌, ◌∙◌, true, List, [], sym, ap, subst, refl}
use Rattle.std.proofs.lemmas.Result.{err_from_is_err_and}
use Rattle.std.specs.List.{list_all}
use Rattle.gob_bytes.specs.Paths.{sequence_name, under}
use Rattle.gob_device.specs.Disk.{AddsMaps, Along}
use Rattle.gob_device.specs.Names.{IsPathname}
use Rattle.gob_device.proofs.Trail.{along_nothing}
use Rattle.gob_recovery.specs.Commits.{OnlyBelow}
use Rattle.gob_recovery.specs.Sequence.{CommitStep}
use Rattle.gob_seq.specs.Faults.{Damages}
use Rattle.gob_seq.specs.Maps.{EndsBy, SettlingGoesOn, OnlyUnstages, SettlesByName, SettlesUnstaged}
use Rattle.gob_seq.specs.Steps.{is_callable}
use Rattle.gob_seq.specs.declared.place.Place.{Place}
use Rattle.gob_seq.proofs.ByNames.{done_becomes, done_below, done_goes}
use Rattle.gob_seq.proofs.Named.{callable, sequence_named}
use Rattle.gob_seq.proofs.Readers.{done_read}
use Rattle.gob_seq.proofs.Resettled.{becomes_undamaged, can_undamaged, closed_becomes, closed_was, err_damages, err_due}
use Rattle.gob_seq.proofs.Resettled.{open_was, undamaged_due}
use Rattle.gob_seq.proofs.Unstaged.{done_unstages}
use Rattle.gob_seq.proofs.settling.finish_open.Goals as goal

pub returns-in_err-place-clause-goes : goal.returns-in_err-place-clause-goes
returns-in_err-place-clause-goes g c = along_nothing (SettlingGoesOn c.args.job.now) _

pub returns-in_err-place-clause-readers : goal.returns-in_err-place-clause-readers
returns-in_err-place-clause-readers g c = along_nothing (SettlesByName c.args.job.now) _

pub returns-in_err-place-clause-below : goal.returns-in_err-place-clause-below
returns-in_err-place-clause-below g c = along_nothing (OnlyBelow (under c.args.job.now [])) _

pub returns-in_err-place-clause-due : goal.returns-in_err-place-clause-due
returns-in_err-place-clause-due g c =
    let p = err_from_is_err_and c.from_residual.result c.from_residual.ensures.1 in
    let disk = g.V.Volume.disk c.args.volume.now in
    err_due c.args.job.now c.from_residual.result p.0 disk disk p.1
    (subst (Damages c.args.job.now disk disk) (sym p.2) tt) refl

pub open_sequence-requires : goal.open_sequence-requires
open_sequence-requires g c =
    let opened : c.as_str-opened.result.now ≡ sequence_name c.args.job.now =
    c.as_str-opened.ensures ∙ ap (λ (p : Place). p.sequence) c.in_ok-place.ensures in
    record { named = subst IsPathname (sym opened) (sequence_named c.args.job.now c.requires.named); is = opened }

pub finish-requires-clause-named : goal.finish-requires-clause-named
finish-requires-clause-named g c =
    let opened : c.as_str-opened.result.now ≡ sequence_name c.args.job.now =
    c.as_str-opened.ensures ∙ ap (λ (p : Place). p.sequence) c.in_ok-place.ensures in
    subst IsPathname (sym opened) (sequence_named c.args.job.now c.requires.named)

pub finish-requires-clause-steps : goal.finish-requires-clause-steps
finish-requires-clause-steps g c =
    subst (λ (t : List CommitStep). list_all is_callable t ≡ true) (sym c.steps.ensures)
    (callable c.args.job.now c.in-Some.sequence (rw c.in-Some.is at c.in_ok-sequence.ensures.fits))

pub returns-in_err-sequence-clause-goes : goal.returns-in_err-sequence-clause-goes
returns-in_err-sequence-clause-goes g c =
    subst (Along (SettlingGoesOn c.args.job.now) (g.V.Volume.disk c.args.volume.now)) (sym c.open_sequence.ensures.disk)
    (along_nothing (SettlingGoesOn c.args.job.now) _)

pub returns-in_err-sequence-clause-readers : goal.returns-in_err-sequence-clause-readers
returns-in_err-sequence-clause-readers g c =
    subst (Along (SettlesByName c.args.job.now) (g.V.Volume.disk c.args.volume.now)) (sym c.open_sequence.ensures.disk)
    (along_nothing (SettlesByName c.args.job.now) _)

pub returns-in_err-sequence-clause-below : goal.returns-in_err-sequence-clause-below
returns-in_err-sequence-clause-below g c =
    subst (Along (OnlyBelow (under c.args.job.now [])) (g.V.Volume.disk c.args.volume.now))
    (sym c.open_sequence.ensures.disk)
    (along_nothing (OnlyBelow (under c.args.job.now [])) _)

pub returns-in_err-sequence-clause-damaged : goal.returns-in_err-sequence-clause-damaged
returns-in_err-sequence-clause-damaged g c =
    let p = err_from_is_err_and c.from_residual-in_err-sequence.result c.from_residual-in_err-sequence.ensures.1 in
    err_damages c.args.job.now _ p.0 (g.V.Volume.disk c.args.volume.now) (g.V.Volume.disk c.open_sequence.new.volume)
    p.1
    (subst (Damages c.args.job.now (g.V.Volume.disk c.args.volume.now) (g.V.Volume.disk c.open_sequence.new.volume))
    (sym p.2) c.in_err-sequence.ensures.damaged)

pub returns-in_err-sequence-clause-due : goal.returns-in_err-sequence-clause-due
returns-in_err-sequence-clause-due g c =
    let p = err_from_is_err_and c.from_residual-in_err-sequence.result c.from_residual-in_err-sequence.ensures.1 in
    err_due c.args.job.now _ p.0 (g.V.Volume.disk c.args.volume.now) (g.V.Volume.disk c.open_sequence.new.volume) p.1
    (subst (Damages c.args.job.now (g.V.Volume.disk c.args.volume.now) (g.V.Volume.disk c.open_sequence.new.volume))
    (sym p.2) c.in_err-sequence.ensures.damaged) c.open_sequence.ensures.disk

pub returns-in_err-finish-clause-goes : goal.returns-in_err-finish-clause-goes
returns-in_err-finish-clause-goes g c =
    let opened : c.as_str-opened.result.now ≡ sequence_name c.args.job.now =
    c.as_str-opened.ensures ∙ ap (λ (p : Place). p.sequence) c.in_ok-place.ensures in
    let can = rw c.in-Some.is at c.in_ok-sequence.ensures.found in
    done_goes c.args.job.now _ c.in-Some.sequence _ opened c.steps.ensures c.open_sequence.ensures.disk can
    c.finish.ensures.maps

pub returns-in_err-finish-clause-readers : goal.returns-in_err-finish-clause-readers
returns-in_err-finish-clause-readers g c =
    let opened : c.as_str-opened.result.now ≡ sequence_name c.args.job.now =
    c.as_str-opened.ensures ∙ ap (λ (p : Place). p.sequence) c.in_ok-place.ensures in
    let can = rw c.in-Some.is at c.in_ok-sequence.ensures.found in
    done_read c.args.job.now _ c.in-Some.sequence _ opened c.steps.ensures c.open_sequence.ensures.disk can
    c.finish.ensures.maps

pub returns-in_err-finish-clause-below : goal.returns-in_err-finish-clause-below
returns-in_err-finish-clause-below g c =
    let opened : c.as_str-opened.result.now ≡ sequence_name c.args.job.now =
    c.as_str-opened.ensures ∙ ap (λ (p : Place). p.sequence) c.in_ok-place.ensures in
    done_below c.args.job.now _ c.in-Some.sequence _ opened c.steps.ensures c.open_sequence.ensures.disk
    (rw c.in-Some.is at c.in_ok-sequence.ensures.fits) c.finish.ensures.maps

pub returns-in_err-finish-clause-due : goal.returns-in_err-finish-clause-due
returns-in_err-finish-clause-due g c =
    let can = rw c.in-Some.is at c.in_ok-sequence.ensures.found in
    undamaged_due c.args.job.now _ _ _ (can_undamaged c.args.job.now c.in-Some.sequence _ can)

pub returns-clause-goes : goal.returns-clause-goes
returns-clause-goes g c =
    let opened : c.as_str-opened.result.now ≡ sequence_name c.args.job.now =
    c.as_str-opened.ensures ∙ ap (λ (p : Place). p.sequence) c.in_ok-place.ensures in
    let can = rw c.in-Some.is at c.in_ok-sequence.ensures.found in
    done_goes c.args.job.now _ c.in-Some.sequence _ opened c.steps.ensures c.open_sequence.ensures.disk can
    c.finish.ensures.maps

pub returns-clause-readers : goal.returns-clause-readers
returns-clause-readers g c =
    let opened : c.as_str-opened.result.now ≡ sequence_name c.args.job.now =
    c.as_str-opened.ensures ∙ ap (λ (p : Place). p.sequence) c.in_ok-place.ensures in
    let can = rw c.in-Some.is at c.in_ok-sequence.ensures.found in
    done_read c.args.job.now _ c.in-Some.sequence _ opened c.steps.ensures c.open_sequence.ensures.disk can
    c.finish.ensures.maps

pub returns-clause-below : goal.returns-clause-below
returns-clause-below g c =
    let opened : c.as_str-opened.result.now ≡ sequence_name c.args.job.now =
    c.as_str-opened.ensures ∙ ap (λ (p : Place). p.sequence) c.in_ok-place.ensures in
    done_below c.args.job.now _ c.in-Some.sequence _ opened c.steps.ensures c.open_sequence.ensures.disk
    (rw c.in-Some.is at c.in_ok-sequence.ensures.fits) c.finish.ensures.maps

pub returns-clause-due : goal.returns-clause-due
returns-clause-due g c =
    let can = rw c.in-Some.is at c.in_ok-sequence.ensures.found in
    undamaged_due c.args.job.now _ _ _ (can_undamaged c.args.job.now c.in-Some.sequence _ can)

pub returns-clause-ok : goal.returns-clause-ok
returns-clause-ok g c =
    let opened : c.as_str-opened.result.now ≡ sequence_name c.args.job.now =
    c.as_str-opened.ensures ∙ ap (λ (p : Place). p.sequence) c.in_ok-place.ensures in
    let can = rw c.in-Some.is at c.in_ok-sequence.ensures.found in
    done_becomes c.args.job.now _ c.in-Some.sequence _ opened c.steps.ensures c.open_sequence.ensures.disk can
    c.in_ok-finish.ensures.ok

pub returns-clause-was_open : goal.returns-clause-was_open
returns-clause-was_open g c =
    let can = rw c.in-Some.is at c.in_ok-sequence.ensures.found in
    open_was c.args.job.now c.in-Some.sequence _ can

pub returns-in_default-clause-goes : goal.returns-in_default-clause-goes
returns-in_default-clause-goes g c =
    subst (Along (SettlingGoesOn c.args.job.now) (g.V.Volume.disk c.args.volume.now)) (sym c.open_sequence.ensures.disk)
    (along_nothing (SettlingGoesOn c.args.job.now) _)

pub returns-in_default-clause-readers : goal.returns-in_default-clause-readers
returns-in_default-clause-readers g c =
    subst (Along (SettlesByName c.args.job.now) (g.V.Volume.disk c.args.volume.now)) (sym c.open_sequence.ensures.disk)
    (along_nothing (SettlesByName c.args.job.now) _)

pub returns-in_default-clause-below : goal.returns-in_default-clause-below
returns-in_default-clause-below g c =
    subst (Along (OnlyBelow (under c.args.job.now [])) (g.V.Volume.disk c.args.volume.now))
    (sym c.open_sequence.ensures.disk)
    (along_nothing (OnlyBelow (under c.args.job.now [])) _)

pub returns-in_default-clause-ok : goal.returns-in_default-clause-ok
returns-in_default-clause-ok g c =
    let opened : c.as_str-opened.result.now ≡ sequence_name c.args.job.now =
    c.as_str-opened.ensures ∙ ap (λ (p : Place). p.sequence) c.in_ok-place.ensures in
    let none = rw c.in_default.is at c.in_ok-sequence.ensures.found in
    subst (AddsMaps (EndsBy (SettlesUnstaged c.args.job.now)) (g.V.Volume.disk c.args.volume.now))
    (sym c.open_sequence.ensures.disk)
    (closed_becomes c.args.job.now _ _ opened none)

pub returns-in_default-clause-was_open : goal.returns-in_default-clause-was_open
returns-in_default-clause-was_open g c =
    let opened : c.as_str-opened.result.now ≡ sequence_name c.args.job.now =
    c.as_str-opened.ensures ∙ ap (λ (p : Place). p.sequence) c.in_ok-place.ensures in
    let none = rw c.in_default.is at c.in_ok-sequence.ensures.found in
    closed_was c.args.job.now _ _ opened none

pub returns-in_default-clause-due : goal.returns-in_default-clause-due
returns-in_default-clause-due g c =
    let opened : c.as_str-opened.result.now ≡ sequence_name c.args.job.now =
    c.as_str-opened.ensures ∙ ap (λ (p : Place). p.sequence) c.in_ok-place.ensures in
    let none = rw c.in_default.is at c.in_ok-sequence.ensures.found in
    undamaged_due c.args.job.now _ _ _ (becomes_undamaged c.args.job.now _ _
    (closed_becomes c.args.job.now _ _ opened none))

pub returns-in_err-place-clause-unstages : goal.returns-in_err-place-clause-unstages
returns-in_err-place-clause-unstages g c = along_nothing (OnlyUnstages c.args.job.now) _

pub returns-in_err-sequence-clause-unstages : goal.returns-in_err-sequence-clause-unstages
returns-in_err-sequence-clause-unstages g c =
    subst (Along (OnlyUnstages c.args.job.now) (g.V.Volume.disk c.args.volume.now)) (sym c.open_sequence.ensures.disk)
    (along_nothing (OnlyUnstages c.args.job.now) _)

pub returns-in_default-clause-unstages : goal.returns-in_default-clause-unstages
returns-in_default-clause-unstages g c =
    subst (Along (OnlyUnstages c.args.job.now) (g.V.Volume.disk c.args.volume.now)) (sym c.open_sequence.ensures.disk)
    (along_nothing (OnlyUnstages c.args.job.now) _)

pub returns-in_err-finish-clause-unstages : goal.returns-in_err-finish-clause-unstages
returns-in_err-finish-clause-unstages g c =
    let opened : c.as_str-opened.result.now ≡ sequence_name c.args.job.now =
    c.as_str-opened.ensures ∙ ap (λ (p : Place). p.sequence) c.in_ok-place.ensures in
    done_unstages c.args.job.now _ c.in-Some.sequence _ opened c.steps.ensures c.open_sequence.ensures.disk
    (rw c.in-Some.is at c.in_ok-sequence.ensures.fits) c.finish.ensures.maps

pub returns-clause-unstages : goal.returns-clause-unstages
returns-clause-unstages g c =
    let opened : c.as_str-opened.result.now ≡ sequence_name c.args.job.now =
    c.as_str-opened.ensures ∙ ap (λ (p : Place). p.sequence) c.in_ok-place.ensures in
    done_unstages c.args.job.now _ c.in-Some.sequence _ opened c.steps.ensures c.open_sequence.ensures.disk
    (rw c.in-Some.is at c.in_ok-sequence.ensures.fits) c.finish.ensures.maps
