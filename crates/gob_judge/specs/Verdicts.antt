-- The verdicts of the code, as the definitions see them.
use Rattle.std.specs.Prelude.{◌≡◌, ℕ, Bool, List, map, slice_get, unwrap_or}
use Rattle.std.specs.declared.option.Option.{Option}
use Rattle.std.specs.declared.option.Option.TheVariants.{None, Some}
use Rattle.std.specs.List.{list_all}
use Rattle.gob_plan.specs.declared.plan.CommitPolicy.{CommitPolicy}
use Rattle.gob_plan.specs.declared.plan.CommitPolicy.TheVariants.{Full, Successful}
use Rattle.gob_plan.specs.declared.units.BranchCounts.{BranchCounts}
use Rattle.gob_plan.specs.declared.units.Counts.{Counts}
use Rattle.gob_meaning.specs.Results.{Verdict}
use Rattle.gob_ledger.specs.Next.{allows, is_good}
use Rattle.gob_ledger.specs.State.{no_branch_counts}
use Rattle.gob_judge.specs.declared.task.TaskVerdict.{TaskVerdict}
use Rattle.gob_judge.specs.declared.task.TaskVerdict.TheVariants.{Good, Bad}

-- the policy that failed a unit, where one did
abbrev pub failed_policy : TaskVerdict → Option ℕ
failed_policy Good = None
failed_policy (Bad index) = Some index

-- the counts of a branch, nothing for one that isn't there
abbrev pub branch_counted : ℕ → Counts → BranchCounts
branch_counted b counts = unwrap_or (slice_get counts.branches b) no_branch_counts

-- whether the policy lets a unit be committed, by who of its group is good and whether it is
abbrev pub is_allowed : CommitPolicy → List Bool → Bool → Bool
is_allowed Full good own = list_all (λ g. g) good
is_allowed Successful good own = own

-- which is what the ledger allows
abbrev pub AllowedIsTheLedgers : Type 0
AllowedIsTheLedgers = (policy : CommitPolicy) (all : List Verdict) (v : Verdict)
    → is_allowed policy (map is_good all) (is_good v) ≡ allows policy all v
