-- Counts added up. Each sum stops at the end of a u64.
use Rattle.std.specs.Prelude.{◌+◌, List, [], ◌∷◌}
use Rattle.gob_plan.specs.declared.units.BranchCounts.{BranchCounts}
use Rattle.gob_plan.specs.declared.units.Counts.{Counts}
use Rattle.gob_meaning.specs.Fold.{saturate_u64}

-- what a branch made in both
abbrev pub both_branches : BranchCounts → BranchCounts → BranchCounts
both_branches a b = record {
  written = saturate_u64 (a.written + b.written);
  errors = saturate_u64 (a.errors + b.errors);
  optional = saturate_u64 (a.optional + b.optional);
}

-- a branch that one side lacks counts as zero
abbrev pub branch_sums : List BranchCounts → List BranchCounts → List BranchCounts
branch_sums [] bs = bs
branch_sums (a ∷ later) [] = a ∷ later
branch_sums (a ∷ later) (b ∷ bs) = both_branches a b ∷ branch_sums later bs

-- what two units, or two parts of one, made together
unfoldable pub sum_of : Counts → Counts → Counts
sum_of a b = record {
  records = saturate_u64 (a.records + b.records);
  bad = saturate_u64 (a.bad + b.bad);
  rows = saturate_u64 (a.rows + b.rows);
  unrouted = saturate_u64 (a.unrouted + b.unrouted);
  branches = branch_sums a.branches b.branches;
}
