use Rattle.std.proofs.Common.{◌≡◌, drop}
use Rattle.std.specs.List.{enumerate_from}
use Rattle.gob_meaning.specs.Results.{first_failing}
use Rattle.gob_judge.proofs.task.judge_task.Given as goal

abbrev pub invariant-loop-policy : goal.invariant-loop-policy
invariant-loop-policy l =
    (l.index ≡ l.policy-index)
    × (first_failing (enumerate_from l.policy-index (drop l.policy-index l.fn.policies)) l.fn.counts ≡ first_failing
    (enumerate_from 0 l.fn.policies) l.fn.counts)
