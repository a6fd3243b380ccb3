use Rattle.std.proofs.Common.{◌≡◌, length}
use Rattle.gob_jobs.specs.Reading.{has_interpolation}
use Rattle.gob_job.proofs.values.has_interpolation.Given as goal

abbrev pub invariant-loop-left : goal.invariant-loop-left
invariant-loop-left l = has_interpolation l.left ≡ has_interpolation l.fn.text

abbrev pub decreases-loop-left : goal.decreases-loop-left
decreases-loop-left l = length l.left
