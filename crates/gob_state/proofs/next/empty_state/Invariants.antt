use Rattle.std.proofs.Common.{◌≡◌, map}
use Rattle.std.specs.List.{range_with_len}
use Rattle.gob_ledger.specs.State.{no_branch_counts}
use Rattle.gob_state.proofs.next.empty_state.Given as goal

abbrev pub invariant-loop : goal.invariant-loop
invariant-loop l = l.counts ≡ map (λ _. no_branch_counts) (range_with_len 0 l.counter)
