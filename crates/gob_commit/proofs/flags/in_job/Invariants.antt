use Rattle.std.proofs.Common.{◌≡◌, ◌++◌, map, drop}
use Rattle.gob_state.specs.Committed.{may_commit, verdict_in}
use Rattle.gob_commit.proofs.flags.in_job.Given as goal

abbrev pub invariant-loop-made : goal.invariant-loop-made
invariant-loop-made l =
    l.flags ++ map (λ r. may_commit l.rules.policy l.all (verdict_in r)) (drop l.made-index l.results)
    ≡ map (λ r. may_commit l.rules.policy l.all (verdict_in r)) l.results
