use Rattle.std.proofs.Common.{◌≡◌, drop}
use Rattle.std.specs.List.{filter}
use Rattle.gob_state.specs.Committed.{may_commit, totals_sum, verdicts_in}
use Rattle.gob_state.proofs.next.totals_with.Given as goal

abbrev pub invariant-loop-made : goal.invariant-loop-made
invariant-loop-made l =
    totals_sum l.sum (filter (may_commit l.fn.policy l.fn.all) (verdicts_in (drop l.made-index l.fn.results)))
    ≡ totals_sum l.fn.totals (filter (may_commit l.fn.policy l.fn.all) (verdicts_in l.fn.results))
