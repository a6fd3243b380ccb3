use Rattle.gob_device.specs.Disk.{Whole, after_remove}
use Rattle.gob_device.proofs.Trail.{along_nothing}
use Rattle.gob_seq.proofs.Trails.{along_whole, changed_ends}
use Rattle.gob_seq.proofs.staging.remove.Goals as goal

pub returns-then-not-is_pathname-clause-maps : goal.returns-then-not-is_pathname-clause-maps
returns-then-not-is_pathname-clause-maps g c = along_nothing (Whole (after_remove c.args.name.now)) _

pub returns-in_err-remove-clause-maps : goal.returns-in_err-remove-clause-maps
returns-in_err-remove-clause-maps g c = along_whole c.remove.ensures.change

pub returns-clause-maps : goal.returns-clause-maps
returns-clause-maps g c = along_whole c.remove.ensures.change

pub returns-clause-ok : goal.returns-clause-ok
returns-clause-ok g c = changed_ends (after_remove c.args.name.now) _ _ c.in_ok-remove.ensures.change.ok
