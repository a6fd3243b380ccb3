use Rattle.std.proofs.Common.{◌≡◌}
use Rattle.gob_meaning.specs.Fold.{branch_counts}
use Rattle.gob_pipeline.specs.Taking.{fold_of_items}
use Rattle.gob_pipeline.proofs.Counting.{sums_to}
use Rattle.gob_pipeline.proofs.tally.add_branches.Given as goal

abbrev pub invariant-loop-branch : goal.invariant-loop-branch
invariant-loop-branch l = record {
  number : l.number ≡ l.branch-index;
  sums : l.branches ≡ sums_to (branch_counts (fold_of_items l.items)) 0 l.branch-index l.fn.branches;
}
