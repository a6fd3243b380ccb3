use Rattle.std.proofs.Common.{◌≡◌, ◌++◌, map, drop}
use Rattle.gob_plan.specs.declared.plan.CommitScope.TheVariants as scope
use Rattle.gob_ledger.specs.Groups.{is_committed}
use Rattle.gob_state.specs.Committed.{judged_by}
use Rattle.gob_commit.proofs.flags.in_datasets.Given as goal

abbrev pub invariant-loop-i : goal.invariant-loop-i
invariant-loop-i l =
    l.flags ++ map (is_committed scope.Dataset l.rules.policy (judged_by l.units l.results))
    (judged_by (drop l.i l.units) (drop l.i l.results))
    ≡ map (is_committed scope.Dataset l.rules.policy (judged_by l.units l.results)) (judged_by l.units l.results)
