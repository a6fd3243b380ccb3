use Rattle.std.proofs.Common.{◌≡◌, length}
use Rattle.gob_jobs.specs.Words.{without_end}
use Rattle.gob_job.proofs.cuts.without_end.Given as goal

abbrev pub invariant-loop-left : goal.invariant-loop-left
invariant-loop-left l = without_end l.left ≡ without_end l.fn.text

abbrev pub decreases-loop-left : goal.decreases-loop-left
decreases-loop-left l = length l.left
