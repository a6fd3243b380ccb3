use Rattle.std.proofs.Common.{◌≡◌, ◌++◌, drop}
use Rattle.gob_jobs.specs.KeyTable.{with_task_modes}
use Rattle.gob_job.proofs.lists.with_task_modes.Given as goal

abbrev pub invariant-loop-i : goal.invariant-loop-i
invariant-loop-i l = l.with ++ with_task_modes (drop l.i l.fn.modes) (drop l.i l.fn.policies) ≡ with_task_modes
    l.fn.modes l.fn.policies
