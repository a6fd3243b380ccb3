use Rattle.std.proofs.Common.{◌≡◌, ◌≤◌, ◌-◌, length}
use Rattle.gob_pipeline.specs.Taking.{none_counted}
use Rattle.gob_pipeline.proofs.machine.counts_of_none.Given as goal

abbrev pub invariant-branches : goal.invariant-branches
invariant-branches l = record {
  few : length l.counts ≤ l.branches;
  made : l.counts ≡ none_counted (length l.counts);
}

abbrev pub decreases-branches : goal.decreases-branches
decreases-branches l = l.branches - length l.counts
