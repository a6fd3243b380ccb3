use Rattle.std.proofs.Common.{◌≡◌, ◌++◌, drop}
use Rattle.gob_task.specs.Judging.{warning_places}
use Rattle.gob_task.proofs.judging.warnings.Given as goal

abbrev pub invariant-loop-policy : goal.invariant-loop-policy
invariant-loop-policy l = record {
  place : l.index ≡ l.policy-index;
  list : l.list ++ warning_places l.policy-index (drop l.policy-index l.policies) l.counts
      ≡ warning_places 0 l.policies l.counts;
}
