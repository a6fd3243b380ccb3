-- Totals, and the lines of branches.
use Rattle.std.specs.Prelude.{◌≢◌, ◌≤◌, ℕ, List, ◌++◌, length, codes}
use Rattle.std.specs.List.{All, enumerate_from, flat_map}
use Rattle.gob_plan.specs.declared.units.BranchCounts.{BranchCounts}
use Rattle.gob_plan.specs.declared.units.Counts.{Counts}
use Rattle.gob_ledger.specs.Spelling.{SmallBranch, SmallCounts, branch_line}

-- a line for each branch
abbrev pub branch_count_lines : List BranchCounts → List ℕ
branch_count_lines bs = flat_map branch_line (enumerate_from 0 bs)

-- branches that a file can tell
abbrev pub AreBranches : List BranchCounts → Type 0
AreBranches bs = All SmallBranch bs × (1 ≤ length bs) × (length bs ≤ 8)

-- totals that a file can tell
abbrev pub AreTotals : Counts → Type 0
AreTotals c = SmallCounts c × (1 ≤ length c.branches) × (length c.branches ≤ 8)

-- no further branch stands here
abbrev pub NoBranch : List ℕ → Type 0
NoBranch text = (after : List ℕ) → text ≢ codes "branch" ++ after
