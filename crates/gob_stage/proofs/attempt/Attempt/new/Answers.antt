use Rattle.std.proofs.Common.{◌≡◌, [], rules, sym, subst}
use Rattle.gob_device.specs.Names.{IsPathname}
use Rattle.gob_stage.proofs.Folders.{folder_named}
use Rattle.gob_stage.proofs.Opened.{kept_none}
use Rattle.gob_stage.proofs.attempt.Attempt.new.Goals as goal

pub invariant_of-result : goal.invariant_of-result
invariant_of-result c =
    let none : c.new.result.items ≡ [] = search rules in
    kept_none c.in_ok-folder.folder c.new.result.items
    (subst IsPathname (sym c.in_ok-folder.ensures) (folder_named c.args.job.now c.args.unit c.args.attempt
    c.ranges.unit.fits c.ranges.attempt.fits c.requires)) none
