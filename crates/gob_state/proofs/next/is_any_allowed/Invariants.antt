use Rattle.std.proofs.Common.{◌≡◌, drop}
use Rattle.std.specs.List.{list_any}
use Rattle.gob_state.specs.Committed.{may_commit, verdicts_in}
use Rattle.gob_state.proofs.next.is_any_allowed.Given as goal

abbrev pub invariant-loop-made : goal.invariant-loop-made
invariant-loop-made l =
    list_any (may_commit l.fn.policy l.fn.all) (verdicts_in (drop l.made-index l.fn.results))
    ≡ list_any (may_commit l.fn.policy l.fn.all) (verdicts_in l.fn.results)
