use Rattle.std.proofs.Common.{inl, map}
use Rattle.gob_device.specs.Disk.{after_remove}
use Rattle.gob_device.proofs.Trail.{along_map}
use Rattle.gob_recovery.specs.Settle.{do_steps}
use Rattle.gob_seq.specs.Maps.{Finishes, FrontIsDone}
use Rattle.gob_seq.specs.Steps.{commit_step_of}
use Rattle.gob_seq.proofs.Fronts.{finish_left}
use Rattle.gob_seq.proofs.Trails.{along_whole, changed_ends, ends_then}
use Rattle.gob_seq.proofs.steps.finish.Goals as goal

pub returns-in_err-do_steps-clause-maps : goal.returns-in_err-do_steps-clause-maps
returns-in_err-do_steps-clause-maps g c =
    let steps = map commit_step_of c.args.steps.now in
    along_map (FrontIsDone steps) (Finishes c.args.name.now steps) (λ m n f. inl f) c.do_steps.ensures.maps

pub returns-in_err-remove-clause-maps : goal.returns-in_err-remove-clause-maps
returns-in_err-remove-clause-maps g c =
    finish_left c.args.name.now (map commit_step_of c.args.steps.now) c.do_steps.ensures.maps
    c.in_ok-do_steps.ensures.ok
    (along_whole c.remove.ensures.change)

pub returns-clause-maps : goal.returns-clause-maps
returns-clause-maps g c =
    finish_left c.args.name.now (map commit_step_of c.args.steps.now) c.do_steps.ensures.maps
    c.in_ok-do_steps.ensures.ok
    (along_whole c.remove.ensures.change)

pub returns-clause-ok : goal.returns-clause-ok
returns-clause-ok g c =
    ends_then (do_steps (map commit_step_of c.args.steps.now))
    (after_remove c.args.name.now) c.in_ok-do_steps.ensures.ok
    (changed_ends (after_remove c.args.name.now) _ _ c.in_ok-remove.ensures.change.ok)
