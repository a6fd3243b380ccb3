use Rattle.std.proofs.Common.{◌≡◌, map, nat_eq, length}
use Rattle.gob_jobs.specs.Words.{pieces}
use Rattle.gob_jobs.specs.Pipelines.{settings_of_lines}
use Rattle.gob_job.specs.LookUps.{setting_from}
use Rattle.gob_job.specs.Loops.{behind}
use Rattle.gob_job.proofs.pipeline.settings_in.Given as goal

abbrev pub invariant-loop-rest : goal.invariant-loop-rest
invariant-loop-rest l =
    behind (map setting_from l.settings) (settings_of_lines (pieces (nat_eq 10) l.left)) ≡ settings_of_lines
    (pieces (nat_eq 10) l.fn.text)

abbrev pub decreases-loop-rest : goal.decreases-loop-rest
decreases-loop-rest l = length l.left
